-- Counts: what they are after one record has changed, and as ranks: of those that pass, each has a count of its own before it.
-- Assumes nothing.
use Prim.Native.Nat.{ℕ, zero, suc, ◌+◌, ◌≤◌, ◌<◌}
use mathlib.Core.Path.{◌≡◌, refl}
use mathlib.Core.Bool.{Bool, true, false, ◌||◌}
use native.Mathlib.Decide.{dec_lt, ℕ_discrete}
use native.Mathlib.Omega.{arith}
use Rattle.std.specs.Prelude.{if◌then◌else◌}
use Rattle.rules.specs.Pass.{pass, sum_of, count_of, count_where}
use Rattle.rules.specs.Replay.{at}
use Rattle.rules.proofs.Changes.{at_same, at_other}
use Rattle.rules.proofs.Searches.{sum_le}
use Rattle.rules.proofs.Chosen.{sum_same}

-- ---- one record has changed
module _ {B : Type 0} (amount : B → ℕ) (i : ℕ) (r : B) (f : ℕ → B) where
  pub sum_at : (n : ℕ) → i < n → sum_of amount (at i r f) n + amount (f i) ≡ sum_of amount f n + amount r
  unfolding sum_of pass
  sum_at zero inside = absurd (omega arith)
  sum_at (suc n) inside =
      elim (ℕ_discrete i n) [
        | yes e ↦
            rw (← e, at_same i r f)
            (omega (arith, sum_same amount amount (at i r f) f i (λ j below. rw (at_other i j r f (omega arith)) refl)))
        | no e ↦ rw (at_other i n r f (omega arith)) (omega (arith, sum_at n (omega arith)))
      ]

module _ {B : Type 0} (test : B → Bool) where
  pub count_at : (i : ℕ) (r : B) (f : ℕ → B) (n : ℕ) → i < n →
      count_of test (at i r f) n + (if test (f i) then 1 else 0) ≡ count_of test f n + (if test r then 1 else 0)
  unfolding count_of
  count_at i r f n inside = sum_at (λ r. if test r then 1 else 0) i r f n inside

  -- ---- ranks
  pub count_next : (f : ℕ → B) (n : ℕ) (b : Bool) → test (f n) ≡ b → count_of test f (suc n) ≡ count_of test f n + (if b then 1 else 0)
  unfolding count_of sum_of pass
  count_next f n b e = rw e

  pub count_grows : (f : ℕ → B) (i n : ℕ) → i ≤ n → count_of test f i ≤ count_of test f n
  count_grows f i zero below = rw (zero_only i (omega arith)) (omega arith)
    where
      zero_only : (i : ℕ) → i ≤ 0 → i ≡ 0
      zero_only i e = omega arith
  count_grows f i (suc n) below =
      elim (dec_lt i (suc n)) [
        | yes less ↦ omega (arith, count_grows f i n (omega arith), count_next f n (test (f n)) refl)
        | no same ↦ let e : i ≡ suc n = omega arith in rw e (omega arith)
      ]

  pub count_before : (f : ℕ → B) (i n : ℕ) → i < n → test (f i) ≡ true → count_of test f i < count_of test f n
  count_before f i n inside passes = omega (arith, count_next f i true passes, count_grows f (suc i) n (omega arith))

  pub count_apart : (f : ℕ → B) (i j : ℕ) → test (f i) ≡ true → test (f j) ≡ true → count_of test f i ≡ count_of test f j → i ≡ j
  count_apart f i j i-passes j-passes e =
      elim (dec_lt i j) [
        | yes l ↦ absurd (omega (arith, count_before f i j l i-passes))
        | no not_before ↦ elim (dec_lt j i) [
          | yes l ↦ absurd (omega (arith, count_before f j i l j-passes))
          | no not_after ↦ omega arith
        ]
      ]

-- ---- choices
-- one made larger has all that it is made larger by
pub either_more : (chosen : ℕ → Bool) (n : ℕ) (among : ℕ → Bool) → count_where among n ≤ count_where (λ i. chosen i || among i) n
unfolding count_where count_of
either_more chosen n among = sum_le _ _ (λ i. i) (λ i. i) n (λ i below. go (chosen i) (among i))
  where
    go : (b c : Bool) → (if c then 1 else 0) ≤ (if b || c then 1 else 0)
    go true true = omega arith
    go true false = omega arith
    go false c = omega arith
