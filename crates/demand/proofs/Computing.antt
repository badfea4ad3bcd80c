-- Everything on the way from a list of calls to what it leaves and what the replay makes of it: a proof that says
-- `unfolding computing` has the definitions run. Assumes nothing.
use Rattle.rules.proofs.Computing.{computing as computing-calls}
use Rattle.resizing.proofs.Computing.{computing as computing-resizes}
use Rattle.resizing.specs.Resize.{resize_truth}
use Rattle.demand.specs.List.{call_outcome, fed_by, number_told, key_of, memory_of, host_made, made, target_left, told, accepted_truth, heard_truth, replay, accepted_stale, event_stale, stale_from, stale_up_to, call_voids, voids, voided, next_serial}
use Rattle.demand.specs.Sample.{sample_calls, sample_events}

unfoldable pub computing : Unit {0}
unfolding computing-calls computing-resizes resize_truth call_outcome fed_by number_told key_of memory_of host_made made target_left told accepted_truth heard_truth replay accepted_stale event_stale stale_from stale_up_to call_voids voids voided next_serial sample_calls sample_events
computing = tt
