-- When two of some numbers are equal, by place. And numbers that are put in order rise at each place exactly where no two are. Assumes
-- nothing.
use Prim.Native.Nat.{ℕ, zero, suc, ◌<◌}
use mathlib.Core.Path.{◌≡◌, refl, sym}
use mathlib.Core.Bool.{Bool, true, false, not}
use mathlib.Core.List.{List}
use mathlib.Core.Logic.{◌≢◌}
use native.Mathlib.Omega.{arith}
use borrow.Author.Tests.{eqb-false, ne_eqb}
use lib.ListN.{length, get_or}
use lib.Dec.{eqb, ltb}
use Rattle.std.specs.List.{IsAllAdjacentAnswer, IsDistinct}
use Rattle.std.specs.List.Sorted.{IsPermutation, IsSorted, IsStrictlyIncreasing}
use Rattle.std.specs.Ordering.{nat_cmp}
use Rattle.std.proofs.lemmas.Grind.{common_steps, get_or_default_zero}
use Rattle.std.proofs.lemmas.List.Sorted.{IsNonDecreasingBy-from_sort, IsPermutation-sym}
use Rattle.std.proofs.lemmas.List.Kept.{AllPairs-from_increasing}
use Rattle.std.proofs.lemmas.Map.Keys.{IsDistinct-from_apart, apart_from_distinct, IsDistinct-IsPermutation, IsStrictlyIncreasing-from_distinct}
use Rattle.rules.specs.Pass.{pass, any_of}
use Rattle.rules.proofs.Searches.{any_none, none_any, pass_same}
use Rattle.ring.specs.Ring.{repeats}

module _ (f : ℕ → ℕ) (n : ℕ) where
  pub repeats_none : repeats f n ≡ false → (i j : ℕ) → i < j → j < n → f i ≢ f j
  unfolding repeats
  repeats_none none i j before inside = eqb-false _ _ (none_any _ _ j (none_any _ _ n none j inside) i before)

  pub none_repeats : ((i j : ℕ) → i < j → j < n → f i ≢ f j) → repeats f n ≡ false
  unfolding repeats
  none_repeats apart = any_none _ _ n (λ j inside. any_none _ _ j (λ i before. ne_eqb _ _ (apart i j before inside)))

-- the numbers below n alone decide
pub repeats_same : (f g : ℕ → ℕ) (n : ℕ) → ((i : ℕ) → i < n → f i ≡ g i) → repeats f n ≡ repeats g n
unfolding repeats any_of pass
repeats_same f g zero same = refl
repeats_same f g (suc n) same =
    let last = same n (omega arith) in
    rw (repeats_same f g n (λ i below. same i (omega arith)), ← last, pass_same _ _ f g n (λ i below. same i (omega arith))) refl

flips : (x y : ℕ) → eqb x y ≡ eqb y x
flips x y = grind (arith, common_steps)

module _ (xs : List ℕ) where
  abbrev at : ℕ → ℕ
  at i = get_or xs i 0

  distinct : repeats at (length xs) ≡ false → IsDistinct eqb xs
  distinct none =
      IsDistinct-from_apart eqb xs
      (λ i j d before inside.
      rw (get_or_default_zero xs i d (omega arith), get_or_default_zero xs j d inside)
      (ne_eqb _ _ (repeats_none at (length xs) none i j before inside)))

  apart : IsDistinct eqb xs → repeats at (length xs) ≡ false
  apart h =
      none_repeats at (length xs)
      (λ i j before inside. eqb-false (at i) (at j) (apart_from_distinct eqb xs i j 0 h before inside))

  module _ (ys : List ℕ) (moved : IsPermutation xs ys) (sorted : IsSorted nat_cmp ys) where
    rises : repeats at (length xs) ≡ false → IsStrictlyIncreasing ys
    rises none =
        IsStrictlyIncreasing-from_distinct ys (IsNonDecreasingBy-from_sort (λ x. x) ys sorted)
        (IsDistinct-IsPermutation eqb flips xs ys moved (distinct none))

    differs : IsStrictlyIncreasing ys → repeats at (length xs) ≡ false
    differs up =
        apart
        (IsDistinct-IsPermutation eqb flips ys xs (IsPermutation-sym xs ys moved)
        (IsDistinct-from_apart eqb ys
        (λ i j d before inside. let l = AllPairs-from_increasing ys up i j d before inside in grind (arith, common_steps))))

    pub risen_apart : (risen : Bool) → IsAllAdjacentAnswer (λ x y b. b ≡ ltb x y) ys risen → not risen ≡ repeats at (length xs)
    risen_apart true up = sym (differs (λ k inside. let l = up k 0 inside in grind (arith, common_steps)))
    risen_apart false (k, inside, falls) = go (repeats at (length xs)) refl
      where
        go : (b : Bool) → repeats at (length xs) ≡ b → true ≡ b
        go true e = refl
        go false e = let l = rises e k inside in let f = falls 0 in absurd (grind (arith, common_steps))
