-- The numbers in order rise at each place exactly where no two are equal.
use Rattle.ring.proofs.Apart.{risen_apart}
use Rattle.ring.proofs.repeats.Goals as goal

pub returns : goal.returns
returns c = risen_apart _ _ c.sort_unstable.ensures.permutation c.sort_unstable.ensures.sorted c.rises.result c.rises.ensures
