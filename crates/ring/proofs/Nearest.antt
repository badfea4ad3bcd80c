-- The chosen point of an accepted ring is one of its points, and the only one at the smallest distance. Assumes that the ring is bytes
-- and the key's position a number of 64 bits, as all that a call is lent.
use Prim.Native.Nat.{ℕ, zero, suc, ◌*◌, ◌-◌, ◌^◌, ◌≤◌, ◌<◌}
use mathlib.Core.Path.{◌≡◌, refl, sym, ap, ◌∙◌}
use mathlib.Core.Bool.{Bool, true, false}
use mathlib.Core.List.{List}
use mathlib.Core.Logic.{◌≢◌}
use native.Mathlib.Decide.{ℕ_discrete}
use native.Mathlib.Omega.{arith}
use borrow.Author.Tests.{leb-true, ltb-true, ltb-false}
use lib.Dec.{ltb}
use Rattle.std.specs.Prelude.{Ok, if◌then◌else◌}
use Rattle.rules.specs.Bytes.{IsBytes}
use Rattle.rules.specs.Pass.{pass}
use Rattle.rules.proofs.Words.{get64_below}
use Rattle.rules.proofs.Searches.{both}
use Rattle.rules.specs.Calls.{verdict}
use Rattle.ring.specs.declared.Point.{Point}
use Rattle.ring.specs.Ring.{point_size, point_at, point_count, distance, nearer, nearest, chosen, ring_good, position_at, doubled, ring_verdict}
use Rattle.ring.specs.Moves.{OnRing, IsNearest}
use Rattle.ring.proofs.Apart.{repeats_none}

-- ---- what an accepted ring has shown
module _ (ring : List ℕ) where
  module _ (apart : doubled ring ≡ false) where
    positions_apart : (i j : ℕ) → i < j → j < point_count ring → position_at ring i ≢ position_at ring j
    unfolding doubled
    positions_apart = repeats_none (position_at ring) (point_count ring) apart

    pub one_place : (i j : ℕ) → i < point_count ring → j < point_count ring → position_at ring i ≡ position_at ring j → i ≡ j
    one_place i j first second same =
        let not_before : ¬ (i < j) = λ l. positions_apart i j l second same in
        let not_after : ¬ (j < i) = λ l. positions_apart j i l first (sym same) in
        omega arith

  pub ring_passes : ring_verdict ring ≡ Ok tt → (ring_good ring ≡ true) × (doubled ring ≡ false)
  unfolding ring_verdict verdict
  ring_passes = go (ring_good ring) (doubled ring) refl refl
    where
      go : (good twice : Bool) → ring_good ring ≡ good → doubled ring ≡ twice → ring_verdict ring ≡ Ok tt →
          (good ≡ true) × (twice ≡ false)
      go true false eg et accepted = (refl, refl)
      go true true eg et accepted = let z : ◌≡◌ {A = ℕ} 0 1 = cc in absurd (omega arith)
      go false true eg et accepted = let z : ◌≡◌ {A = ℕ} 0 1 = cc in absurd (omega arith)
      go false false eg et accepted = let z : ◌≡◌ {A = ℕ} 0 1 = cc in absurd (omega arith)

  pub some_point : ring_verdict ring ≡ Ok tt → 1 ≤ point_count ring
  unfolding ring_good
  some_point accepted = leb-true 1 (point_count ring) (both _ _ (both _ _ (ring_passes accepted).0).0).1

-- ---- the nearest of n points
module _ (key : ℕ) (f : ℕ → Point) where
  nearest_from : (n : ℕ) → (i : ℕ) × (i ≤ n - 1) × (f i ≡ nearest key f n)
  unfolding nearest pass nearer
  nearest_from zero = (0, omega arith, refl)
  nearest_from (suc n) = go _ (nearest_from n)
    where
      go : (b : Bool) → (i : ℕ) × (i ≤ n - 1) × (f i ≡ nearest key f n) →
          (i : ℕ) × (i ≤ suc n - 1) × (f i ≡ (if b then f n else nearest key f n))
      go true h = (n, omega arith, refl)
      go false h = (h.0, omega (arith, h.1), h.2)

  nearest_least : (n i : ℕ) → i < n → distance key (nearest key f n) ≤ distance key (f i)
  unfolding nearest pass nearer
  nearest_least zero i below = absurd (omega arith)
  nearest_least (suc n) i below =
      go (ltb (distance key (f n)) (distance key (nearest key f n))) refl (λ before. nearest_least n i before)
    where
      go : (b : Bool) → ltb (distance key (f n)) (distance key (nearest key f n)) ≡ b →
          (i < n → distance key (nearest key f n) ≤ distance key (f i)) →
          distance key (if b then f n else nearest key f n) ≤ distance key (f i)
      go true e earlier =
          elim (ℕ_discrete i n) [
            | yes here ↦ rw here (omega arith)
            | no other ↦ omega (arith, ltb-true _ _ e, earlier (omega arith))
          ]
      go false e earlier =
          elim (ℕ_discrete i n) [
            | yes here ↦ rw here (omega (arith, ltb-false _ _ e))
            | no other ↦ earlier (omega arith)
          ]

-- points at other positions are at other distances
distances_apart : (key : ℕ) (p q : Point) → key < 2 ^ 64 → p.position < 2 ^ 64 → q.position < 2 ^ 64 →
    distance key p ≡ distance key q → p.position ≡ q.position
unfolding distance
distances_apart key p q fits low high same = omega arith

-- ---- the point of a key
module _ (ring : List ℕ) (key : ℕ) (bytes : IsBytes ring) (fits : key < 2 ^ 64) (accepted : ring_verdict ring ≡ Ok tt) where
  abbrev at : ℕ → Point
  at = point_at ring

  below : (i : ℕ) → (at i).position < 2 ^ 64
  unfolding point_at
  below i = get64_below ring (point_size * i) bytes

  -- points at one distance are one
  one_distance : (i j : ℕ) → i < point_count ring → j < point_count ring → distance key (at i) ≡ distance key (at j) → at i ≡ at j
  unfolding position_at
  one_distance i j first second same =
      ap at (one_place ring (ring_passes ring accepted).1 i j first second (distances_apart key (at i) (at j) fits (below i) (below j) same))

  on_ring : OnRing ring (chosen ring key)
  unfolding chosen
  on_ring =
      let some = some_point ring accepted in
      let from = nearest_from key at (point_count ring) in
      (from.0, omega (arith, from.1), from.2)

  pub chosen_least : (q : Point) → OnRing ring q → distance key (chosen ring key) ≤ distance key q
  unfolding chosen
  chosen_least q on = rw on.2 at (nearest_least key at (point_count ring) on.0 on.1)

  -- | the point with the smallest clockwise distance
  pub chosen_nearest : IsNearest ring key (chosen ring key)
  chosen_nearest =
      record {
        on_ring = on_ring;
        others = λ q on other.
            let differ : distance key (chosen ring key) ≢ distance key q =
            λ same. other (sym on.2 ∙ sym (one_distance on_ring.0 on.0 on_ring.1 on.1 (rw (on_ring.2, on.2) same)) ∙ on_ring.2) in
            omega (arith, chosen_least q on);
      }

  -- a point that is as near as any is the chosen one
  pub chosen_is : (p : Point) → OnRing ring p → ((q : Point) → OnRing ring q → distance key p ≤ distance key q) → chosen ring key ≡ p
  chosen_is p on near =
      let same : distance key (chosen ring key) ≡ distance key p =
      omega (arith, chosen_least p on, near (chosen ring key) on_ring) in
      sym on_ring.2 ∙ one_distance on_ring.0 on.0 on_ring.1 on.1 (rw (on_ring.2, on.2) same) ∙ on.2
