-- A refused resize leaves the target as it was, by a Rattle caller or a C host. (The source is lent to be read alone.) Assumes nothing.
use Prim.Native.Nat.{ℕ}
use mathlib.Core.Path.{◌≡◌, refl}
use native.Mathlib.Omega.{arith}
use Rattle.std.specs.Prelude.{Ok, Err}
use Rattle.rules.specs.declared.Refusal.{Refusal}
use Rattle.rules.specs.Answers.{Completion}
use borrow.Author.Tests.{eqb-true}
use lib.ListN.{length}
use Rattle.rules.specs.Bytes.{IsBytes, gauge_size}
use Rattle.rules.specs.Table.{Memory}
use Rattle.rules.specs.Steps.{Outcome}
use Rattle.rules.specs.Calls.{unless, leaving, HostMemory, held, stored, gauge_test}
use Rattle.rules.proofs.Places.{gauge_kept}
use Rattle.rules.proofs.Verdicts.{first_passes}
use Rattle.resizing.specs.Resize.{resize_outcome, hosted_resize}

-- what the tests refuse, and what is refused behind them: what is seen of what was lent stays
leaves : {Lent A : Type 0} (seen : Lent → A) (lent : Lent) (given : Outcome Completion Lent) (v : Completion) (cause : Refusal) →
    (v ≡ Ok tt → given.answer ≡ Err cause → seen given.after ≡ seen lent) → (unless v (leaving lent) given).answer ≡ Err cause →
    seen (unless v (leaving lent) given).after ≡ seen lent
unfolding unless
leaves seen lent given (Ok u) cause behind e = behind refl e
leaves seen lent given (Err n) cause behind e = refl

pub resize_leaves : (source target : Memory) (cause : Refusal) → (resize_outcome source target).answer ≡ Err cause →
    (resize_outcome source target).after ≡ target
unfolding resize_outcome
resize_leaves source target cause =
    leaves (λ (m : Memory). m) target _ _ cause (λ _ e. let z : ◌≡◌ {A = ℕ} 0 1 = cc in absurd (omega arith))

-- what is seen of a host's memory stays, if putting the gauge back as it was read leaves it
pub hosted_resize_seen : {A : Type 0} (seen : HostMemory → A) (source target : HostMemory) (cause : Refusal) →
    (length target.gauge ≡ gauge_size → seen (stored target (held target)) ≡ seen target) →
    (hosted_resize source target).answer ≡ Err cause → seen (hosted_resize source target).after ≡ seen target
unfolding hosted_resize gauge_test
hosted_resize_seen seen source target cause put =
    leaves seen target _ _ cause
    (λ v e.
    rw (resize_leaves (held source) (held target) cause e)
    (put (eqb-true (length target.gauge) gauge_size (first_passes _ _ (first_passes _ _ v).1).0)))

pub hosted_resize_leaves : (source target : HostMemory) (cause : Refusal) → IsBytes target.gauge →
    (hosted_resize source target).answer ≡ Err cause → (hosted_resize source target).after ≡ target
unfolding stored held
hosted_resize_leaves source target cause bytes =
    hosted_resize_seen (λ (h : HostMemory). h) source target cause (λ _. rw (gauge_kept target.gauge bytes))
