-- Ranks, all of them: each number below a count is one, and what is summed over ranks is summed over those that have them.
-- Assumes nothing.
use Prim.Native.Nat.{ℕ, zero, suc, ◌+◌, ◌≤◌, ◌<◌}
use mathlib.Core.Path.{◌≡◌, refl}
use mathlib.Core.Bool.{Bool, true, false}
use native.Mathlib.Nat.{add-zero}
use native.Mathlib.Decide.{dec_lt}
use native.Mathlib.Omega.{arith}
use Rattle.std.proofs.Common.{add-one}
use Rattle.std.specs.Prelude.{if◌then◌else◌}
use Rattle.rules.specs.Pass.{pass, sum_of, count_of}
use Rattle.resizing.proofs.Counts.{count_next}

module _ {B : Type 0} (test : B → Bool) (f : ℕ → B) where
  pub count_reached : (n j : ℕ) → j < count_of test f n → (i : ℕ) × (i < n) × (test (f i) ≡ true) × (j ≡ count_of test f i)
  unfolding count_of sum_of pass
  count_reached zero j below = absurd (omega arith)
  count_reached (suc n) j below =
      elim (dec_lt j (count_of test f n)) [
        | yes l ↦ let (i, inside, passes, is) = count_reached n j l in (i, omega arith, passes, is)
        | no last ↦ go (test (f n)) refl below last
      ]
    where
      go : (b : Bool) → test (f n) ≡ b → j < count_of test f n + (if b then 1 else 0) → ¬ (j < count_of test f n) →
          (i : ℕ) × (i < suc n) × (test (f i) ≡ true) × (j ≡ count_of test f i)
      go true e below last = (n, omega arith, e, omega arith)
      go false e below last = absurd (omega arith)

  count_zero : count_of test f 0 ≡ 0
  unfolding count_of sum_of pass
  count_zero = refl

  module _ (amount : ℕ → ℕ) where
    sum_next : (k : ℕ) (b : Bool) →
        sum_of amount (λ j. j) (k + (if b then 1 else 0)) ≡ sum_of amount (λ j. j) k + (if b then amount k else 0)
    unfolding sum_of pass
    sum_next k true = rw (add-one k)
    sum_next k false = rw (add-zero k) (omega arith)

    pub sum_ranks : (n : ℕ) →
        sum_of amount (λ j. j) (count_of test f n) ≡ sum_of (λ i. if test (f i) then amount (count_of test f i) else 0) (λ i. i) n
    unfolding sum_of pass
    sum_ranks zero = rw count_zero refl
    sum_ranks (suc n) =
        rw (count_next test f n (test (f n)) refl)
        (omega (arith, sum_ranks n, sum_next (count_of test f n) (test (f n))))

-- amounts that are 0 from a place on
pub sum_padded : (amount : ℕ → ℕ) (few n : ℕ) → few ≤ n → ((i : ℕ) → few ≤ i → i < n → amount i ≡ 0) →
    sum_of amount (λ i. i) n ≡ sum_of amount (λ i. i) few
unfolding sum_of pass
sum_padded amount few zero most none = rw (zero_only few most) refl
  where
    zero_only : (i : ℕ) → i ≤ 0 → i ≡ 0
    zero_only i e = omega arith
sum_padded amount few (suc n) most none =
    elim (dec_lt n few) [
      | yes all ↦ let e : few ≡ suc n = omega arith in rw e
      | no past ↦ omega (
        arith,
        sum_padded amount few n (omega arith) (λ i from below. none i from (omega arith)),
        none n (omega arith) (omega arith),
      )
    ]
