-- Everything on the way from two memories to what a resize makes of them: a proof that says `unfolding computing` has the definitions run.
-- Assumes nothing.
use Rattle.rules.proofs.Computing.{computing as computing-calls}
use Rattle.rules.specs.Answers.{completion_number}
use Rattle.rules.specs.Pass.{count_where, sum_where}
use Rattle.resizing.specs.Resize.{times, tracked_count, lined_count, unline, unline_coldest, demoted, drop, drop_victim, evicted, kept, place_of, line_for, moved, carried, packed_one, packed_first, packed, give_spare, give_hottest, promoted, filled_up, resize_steps, resize_verdict, resize_outcome, resize_said, hosted_resize, exported_resize}
use Rattle.resizing.specs.Kept.{goes_before}

unfoldable pub computing : Unit {0}
unfolding computing-calls completion_number count_where sum_where times tracked_count lined_count unline unline_coldest demoted drop drop_victim evicted kept place_of line_for moved carried packed_one packed_first packed give_spare give_hottest promoted filled_up resize_steps resize_verdict resize_outcome resize_said hosted_resize exported_resize goes_before
computing = tt
