use Rattle.std.proofs.Common.{◌≡◌}
use Rattle.ring.specs.Ring.{point_at, nearest}
use Rattle.ring.proofs.chosen.Given as goal

abbrev pub invariant-loop-i : goal.invariant-loop-i
invariant-loop-i l = l.p ≡ nearest l.key (point_at l.ring) l.i
