-- The greatest and the least of the lookups: no store has more, or fewer, and they are no more, or fewer, than they have to be for that.
-- Assumes nothing.
use Prim.Native.Nat.{ℕ, zero, suc, ◌≤◌, ◌<◌}
use mathlib.Core.List.{List}
use native.Mathlib.Decide.{ℕ_discrete}
use native.Mathlib.Omega.{arith}
use Rattle.std.specs.Prelude.{max, min}
use Rattle.rules.specs.Pass.{pass}
use Rattle.scaler.specs.Scale.{store_count, lookup_at, greatest, least}

-- ---- of the first n numbers
module _ (f : ℕ → ℕ) where
  abbrev highest : ℕ → ℕ
  highest = pass (λ held i n. max held n) 0 f

  abbrev lowest : ℕ → ℕ
  lowest = pass (λ held i n. min held n) (f 0) f

  highest_over : (n i : ℕ) → i < n → f i ≤ highest n
  unfolding pass
  highest_over zero i inside = absurd (omega arith)
  highest_over (suc n) i inside =
      elim (ℕ_discrete i n) [
        | yes here ↦ rw here (omega arith)
        | no other ↦ omega (arith, highest_over n i (omega arith))
      ]

  highest_under : (most n : ℕ) → ((i : ℕ) → i < n → f i ≤ most) → highest n ≤ most
  unfolding pass
  highest_under most zero few = omega arith
  highest_under most (suc n) few = omega (arith, highest_under most n (λ i inside. few i (omega arith)), few n (omega arith))

  lowest_under : (n i : ℕ) → i < n → lowest n ≤ f i
  unfolding pass
  lowest_under zero i inside = absurd (omega arith)
  lowest_under (suc n) i inside =
      elim (ℕ_discrete i n) [
        | yes here ↦ rw here (omega arith)
        | no other ↦ omega (arith, lowest_under n i (omega arith))
      ]

  lowest_over : (fewest n : ℕ) → fewest ≤ f 0 → ((i : ℕ) → i < n → fewest ≤ f i) → fewest ≤ lowest n
  unfolding pass
  lowest_over fewest zero first many = first
  lowest_over fewest (suc n) first many =
      omega (arith, lowest_over fewest n first (λ i inside. many i (omega arith)), many n (omega arith))

-- ---- of the lookups
module _ (lookups : List ℕ) where
  pub greatest_over : (i : ℕ) → i < store_count lookups → lookup_at lookups i ≤ greatest lookups
  unfolding greatest
  greatest_over = highest_over (lookup_at lookups) (store_count lookups)

  pub greatest_under : (most : ℕ) → ((i : ℕ) → i < store_count lookups → lookup_at lookups i ≤ most) → greatest lookups ≤ most
  unfolding greatest
  greatest_under most = highest_under (lookup_at lookups) most (store_count lookups)

  pub least_under : (i : ℕ) → i < store_count lookups → least lookups ≤ lookup_at lookups i
  unfolding least
  least_under = lowest_under (lookup_at lookups) (store_count lookups)

  pub least_over : (fewest : ℕ) → 1 ≤ store_count lookups → ((i : ℕ) → i < store_count lookups → fewest ≤ lookup_at lookups i) →
      fewest ≤ least lookups
  unfolding least
  least_over fewest some many = lowest_over (lookup_at lookups) fewest (store_count lookups) (many 0 some) many
