-- A withdrawal after a list leaves ceiling and total, by whomever it is made, and an accepted one leaves no record of the class. Assumes
-- nothing.
use Prim.Native.Nat.{ℕ, ◌<◌, ◌^◌}
use mathlib.Core.Path.{◌≡◌, refl, ap}
use mathlib.Core.Bool.{Bool, true, false, true≢false}
use Rattle.std.specs.Prelude.{None}
use Rattle.rules.specs.Table.{Memory, key_record, places, size}
use Rattle.rules.specs.Answers.{is_refused}
use Rattle.rules.specs.Steps.{withdraw_steps}
use Rattle.rules.specs.Calls.{unless, withdraw_verdict, withdraw_outcome}
use Rattle.rules.specs.Replay.{Truth, unheard}
use Rattle.rules.proofs.Finds.{key_nowhere}
use Rattle.rules.proofs.Invariant.{Holds}
use Rattle.rules.proofs.Serials.{withdraw_keeps}
use Rattle.rules.proofs.Verdicts.{withdraw_accepted, accepted_verdict}
use Rattle.rules.proofs.WithdrawHolds.{withdraw_gone}
use Rattle.demand.specs.List.{withdraw, was_refused, key_of, call_outcome, Lent, memory_of, made, told, replay, stale_up_to}
use Rattle.demand.specs.Demand3.{Removed, WithdrawalsLeave, AfterEveryList}
use Rattle.demand.proofs.EveryList.{made_accepted, refused_stays, after_list}

-- an accepted one
accepted_gone : (m : Memory) (key : ℕ) (t : Truth) (stale : ℕ → ℕ) → Holds m t stale → is_refused (withdraw_outcome m key).answer ≡ false →
    key_record key (places (withdraw_outcome m key).after) (size (withdraw_outcome m key).after) ≡ None
unfolding withdraw_outcome unless
accepted_gone m key t stale h ok =
    let v = accepted_verdict m (withdraw_steps m key) (withdraw_verdict m) ok in
    rw v (key_nowhere _ _ key (withdraw_gone m t stale key h (withdraw_accepted m v)))

made_withdrawn : (key : ℕ) (lent : Lent) (t : Truth) (stale : ℕ → ℕ) → Holds (memory_of lent) t stale → key < 2 ^ 64 →
    Removed (memory_of lent) (memory_of (made (withdraw key) lent).after) key (was_refused (made (withdraw key) lent).answer)
unfolding call_outcome key_of
made_withdrawn key lent t stale h fits = go (was_refused (made (withdraw key) lent).answer) refl
  where
    go : (b : Bool) → was_refused (made (withdraw key) lent).answer ≡ b →
        Removed (memory_of lent) (memory_of (made (withdraw key) lent).after) key b
    go true e =
        let same = refused_stays (withdraw key) lent t stale h e in
        record {
          ceiling = ap (λ (m : Memory). m.gauge.ceiling) same;
          total = ap (λ (m : Memory). m.gauge.total) same;
          gone = λ ok. absurd (true≢false ok);
        }
    go false e =
        let (accepted, after) = made_accepted (withdraw key) lent t stale h fits e in
        let kept = withdraw_keeps (memory_of lent) key in
        rw after
        (record { ceiling = kept.0; total = kept.1; gone = λ _. accepted_gone (memory_of lent) key t stale h accepted })

pub withdrawals_leave : AfterEveryList WithdrawalsLeave
withdrawals_leave m end es done follows key lent same fits =
    rw same at
    (made_withdrawn key lent (replay (unheard (size m)) (told es)) (stale_up_to es) (rw same (after_list m end es done follows)) fits)
