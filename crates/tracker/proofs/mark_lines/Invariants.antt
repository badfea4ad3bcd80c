use Rattle.std.proofs.Common.{◌≡◌}
use Rattle.rules.specs.Bytes.{record_at}
use Rattle.rules.specs.Table.{coldest_lined}
use Rattle.tracker.specs.Claiming.{heat_of, held_at}
use Rattle.tracker.specs.Marks.{Marks}
use Rattle.tracker.proofs.mark_lines.Given as goal

abbrev pub invariant-loop-i : goal.invariant-loop-i
invariant-loop-i l =
    Marks (record_at l.table) l.i l.used
    × (held_at (record_at l.table) l.n l.best ≡ coldest_lined (record_at l.table) l.i)
    × (l.least ≡ heat_of (held_at (record_at l.table) l.n l.best))
