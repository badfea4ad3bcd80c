use Rattle.std.proofs.Common.{◌≡◌, ◌≤◌, length}
use Rattle.rules.specs.Bytes.{record_at}
use Rattle.rules.specs.declared.Gauge.{Gauge}
use Rattle.rules.specs.Calls.{lent}
use Rattle.resizing.specs.Resize.{place_of, line_for, packed_first}
use Rattle.resizing.proofs.pack.Given as goal

abbrev pub invariant-loop-i : goal.invariant-loop-i
invariant-loop-i l =
    ((g h : Gauge) → lent l.to_table h l.to_lines ≡ packed_first (lent l.table g l.lines) l.i (lent l.initial.to_table h l.initial.to_lines))
    × (length l.to_table ≡ length l.initial.to_table)
    × (length l.to_lines ≡ length l.initial.to_lines)
    × (l.place ≡ place_of (record_at l.table) l.i)
    × (l.line ≡ line_for (record_at l.table) l.i)
    × (l.place ≤ l.i)
    × (l.line ≤ l.i)
