use Rattle.std.proofs.Common.{◌≡◌}
use Rattle.rules.specs.Bytes.{record_at}
use Rattle.rules.specs.Walk.{walk}
use Rattle.tracker.specs.Claiming.{largest}
use Rattle.tracker.specs.Walking.{held_records, VictimHeld}
use Rattle.tracker.proofs.walk.Given as goal

abbrev pub invariant-loop-i : goal.invariant-loop-i
invariant-loop-i l =
    (held_records (record_at l.table) l.held ≡ walk l.key (record_at l.table) l.i)
    × VictimHeld (record_at l.table) l.held
    × (l.held.own ≡ largest)
