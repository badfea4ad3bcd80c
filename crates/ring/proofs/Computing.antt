-- Everything on the way from a ring's bytes to what is told of a key: a proof that says `unfolding computing` has the definitions run.
-- Assumes nothing.
use Rattle.rules.proofs.Computing.{computing as computing-calls}
use Rattle.rules.specs.Calls.{put_value}
use Rattle.ring.specs.Ring.{point_at, point_count, distance, nearer, nearest, chosen, ring_good, repeats, position_at, doubled, ring_verdict, store_outcome, exported_store}

unfoldable pub computing : Unit {0}
unfolding computing-calls put_value point_at point_count distance nearer nearest chosen ring_good repeats position_at doubled ring_verdict store_outcome exported_store
computing = tt
