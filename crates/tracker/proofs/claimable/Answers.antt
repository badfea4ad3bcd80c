use Rattle.std.proofs.Common.{arith}
use Rattle.tracker.proofs.Marks.{none_marked}
use Rattle.tracker.proofs.claimable.Goals as goal

pub claim_marking-requires : goal.claim_marking-requires
claim_marking-requires c = (none_marked 64, omega arith, c.requires.1)

pub claim_marking-requires-else-lines-le-FEW : goal.claim_marking-requires-else-lines-le-FEW
claim_marking-requires-else-lines-le-FEW c = (none_marked 1024, omega arith, c.requires.1)
