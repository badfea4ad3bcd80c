-- Which rings are refused, and with what: all that are no list of 1 to 1,024 points with 12; lists of 1 to 1,024 points with two at one
-- position with 11; and no others. Assumes nothing.
use Prim.Native.Nat.{ℕ, ◌*◌, ◌≤◌, ◌<◌}
use mathlib.Core.Path.{◌≡◌, refl, sym}
use mathlib.Core.Bool.{Bool, true, false}
use mathlib.Core.List.{List}
use mathlib.Core.Logic.{◌≢◌}
use native.Mathlib.Omega.{arith}
use borrow.Author.Tests.{eq-eqb, le-leb, eqb-true, leb-true}
use lib.ListN.{length}
use Rattle.std.specs.Prelude.{Ok, Err}
use Rattle.rules.specs.declared.Refusal.TheVariants.{DoubledPosition, WrongRing}
use Rattle.rules.specs.Calls.{verdict}
use Rattle.rules.proofs.Searches.{both}
use Rattle.ring.specs.Ring.{point_at, point_count, ring_good, position_at, doubled, ring_verdict}
use Rattle.ring.proofs.Apart.{none_repeats}
use Rattle.ring.proofs.Nearest.{one_place}

-- | 12, a ring of no point, over 1,024 or not whole points
pub refused_wrong : (ring : List ℕ) → ((n : ℕ) → 1 ≤ n → n ≤ 1024 → length ring ≢ 16 * n) → ring_verdict ring ≡ Err WrongRing
unfolding ring_verdict verdict ring_good
refused_wrong ring none = go (ring_good ring) refl
  where
    go : (b : Bool) → ring_good ring ≡ b → ring_verdict ring ≡ Err WrongRing
    go false e = rw e refl
    go true e =
        let sizes = both _ _ e in
        let few = both _ _ sizes.0 in
        absurd (none (point_count ring) (leb-true 1 _ few.1) (leb-true _ 1024 sizes.1) (sym (eqb-true _ _ few.0)))

-- | a lent list of 1 to 1,024 points, each 16 bytes
module _ (ring : List ℕ) (n : ℕ) (some : 1 ≤ n) (few : n ≤ 1024) (whole : length ring ≡ 16 * n) where
  so_many : point_count ring ≡ n
  unfolding point_count
  so_many = omega (arith, whole)

  good : ring_good ring ≡ true
  unfolding ring_good
  good = rw (so_many, whole, eq-eqb (16 * n) (16 * n) refl, le-leb 1 n some, le-leb n 1024 few) refl

  -- | 11, two points at one position
  pub refused_doubled : (i j : ℕ) → i < j → j < n → (point_at ring i).position ≡ (point_at ring j).position →
      ring_verdict ring ≡ Err DoubledPosition
  unfolding ring_verdict verdict position_at
  refused_doubled i j before inside same = go (doubled ring) refl
    where
      go : (b : Bool) → doubled ring ≡ b → ring_verdict ring ≡ Err DoubledPosition
      go true e = rw (good, e) refl
      go false e =
          let one : i ≡ j = one_place ring e i j (omega (arith, so_many)) (omega (arith, so_many)) same in
          absurd (omega (arith, one))

  -- every other ring is accepted
  pub accepted_apart : ((i j : ℕ) → i < j → j < n → (point_at ring i).position ≢ (point_at ring j).position) →
      ring_verdict ring ≡ Ok tt
  unfolding ring_verdict verdict doubled position_at
  accepted_apart apart =
      let none : doubled ring ≡ false =
      none_repeats (position_at ring) (point_count ring) (λ i j before inside. apart i j before (omega (arith, so_many))) in
      rw (good, none) refl
