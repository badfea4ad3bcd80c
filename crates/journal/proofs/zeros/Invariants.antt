-- After so many bytes the loop holds whether they are all 0.
use Rattle.std.proofs.Common.{◌≡◌, ◌==◌, take}
use Rattle.std.specs.List.{list_all}
use Rattle.journal.proofs.zeros.Given as goal

abbrev pub invariant-loop-b : goal.invariant-loop-b
invariant-loop-b l = l.good ≡ list_all (λ b. b == 0) (take l.b-index l.bytes)
