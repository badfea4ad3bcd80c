-- Everything on the way from an epoch to what is told of it: a proof that says `unfolding computing` has the definitions run.
-- Assumes nothing.
use Rattle.rules.proofs.Computing.{computing as computing-calls}
use Rattle.scaler.specs.Scale.{below, store_count, lookup_at, greatest, least, imbalance, on_average, off_average, tolerated, over_target, grow_due, on_below, off_below, off_above, decided, scaled, sizes_good, stores_good, counts_good, fraction_good, imbalance_good, epoch_good, scale_verdict, scale_outcome, scale_number, scale_values, put_numbers, exported_scale}
use Rattle.scaler.specs.Fractions.{with_fractions}

unfoldable pub computing : Unit {0}
unfolding computing-calls below store_count lookup_at greatest least imbalance on_average off_average tolerated over_target grow_due on_below off_below off_above decided scaled sizes_good stores_good counts_good fraction_good imbalance_good epoch_good scale_verdict scale_outcome scale_number scale_values put_numbers exported_scale with_fractions
computing = tt
