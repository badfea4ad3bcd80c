-- The imbalance is narrow, since each lookup is a count in bounds.
use Rattle.scaler.proofs.Bounds.{imbalance_narrow}
use Rattle.scaler.proofs.over_target.Goals as goal

pub below-requires-clause-b_narrow : goal.below-requires-clause-b_narrow
below-requires-clause-b_narrow c = rw c.imbalance.ensures (imbalance_narrow _ _ c.requires)
