-- Document 01's sample is a list of demand 3, of a C host's calls and a Rattle caller's, refused and accepted, so that demand 3 is not
-- claimed of no list at all; and demand 3 holds after it, by the theorem. The calls are run. Assumes nothing.
use Prim.Native.Nat.{ℕ, ◌<◌, ◌^◌}
use mathlib.Core.Path.{◌≡◌, refl}
use mathlib.Core.List.{List, ◌∷◌}
use native.Mathlib.Omega.{arith}
use lib.ListN.{replicate}
use Rattle.std.specs.Prelude.{Ok}
use Rattle.rules.specs.Table.{Memory, size}
use Rattle.rules.specs.Calls.{read_lent, fresh_outcome}
use Rattle.rules.specs.Replay.{unheard}
use Rattle.rules.specs.Sample.{sample_picture, sample_lent, sample_end, host_start}
use Rattle.demand.specs.List.{read, update, fill, age, Call, was_refused, key_of, call_outcome, rattle, host, host_made, Event, event, told, Follows, nothing, own, elsewhere, replay}
use Rattle.demand.specs.Demand3.{Demand3}
use Rattle.demand.specs.Sample.{sample_events}
use Rattle.demand.proofs.Computing.{computing}
use Rattle.demand.proofs.EveryList.{demand3}

-- a Rattle caller's call, lent what the call before it left
by_rattle : {m end : Memory} {es : List Event} (c : Call) → key_of c < 2 ^ 64 → Follows (call_outcome c m).after es end →
    Follows m (event c (was_refused (call_outcome c m).answer) m ∷ es) end
unfolding computing
by_rattle {m} c fits = own c (rattle m) refl fits

-- what a host lends a read for a ticket
abbrev pub eight_bytes : List ℕ
eight_bytes = replicate 8 170

pub sample_follows : Follows (fresh_outcome sample_lent).after sample_events sample_end
unfolding computing
sample_follows =
    elsewhere (read 5 3) (host (read_lent (host_start 23) eight_bytes)) refl
    (own (read 5 3) (host (read_lent (host_start 24) eight_bytes)) refl (omega arith)
    (own (fill 5 (sample_picture 105) 1) (host (host_made (read 5 3) (read_lent (host_start 24) eight_bytes)).after) refl (omega arith)
    (by_rattle (read 5 1) (omega arith)
    (by_rattle (read 7 4) (omega arith)
    (by_rattle (read 7 1) (omega arith)
    (by_rattle (read 9 2) (omega arith)
    (by_rattle (read 11 1) (omega arith)
    (by_rattle (update 7 3) (omega arith)
    (by_rattle (update 9 1) (omega arith)
    (by_rattle (fill 7 (sample_picture 107) 0) (omega arith)
    (by_rattle age (omega arith)
    (by_rattle (read 9 1) (omega arith)
    (by_rattle (read 9 1) (omega arith)
    nothing)))))))))))))

fresh_done : (fresh_outcome sample_lent).answer ≡ Ok tt
unfolding computing
fresh_done = refl

pub sample_demand3 : Demand3 sample_end (replay (unheard (size sample_lent)) (told sample_events)) sample_events
sample_demand3 = demand3 sample_lent sample_end sample_events fresh_done sample_follows
