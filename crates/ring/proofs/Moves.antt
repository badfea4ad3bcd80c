-- What becomes of keys where a ring is changed. A point more: a key keeps its point, or now has the new one. Another order of the list:
-- nothing changes. Assumes that rings are bytes and the key's position a number of 64 bits, as all that a call is lent.
use Prim.Native.Nat.{ℕ, ◌^◌, ◌<◌}
use mathlib.Core.Path.{◌≡◌, refl, sym, ap, ◌∙◌}
use mathlib.Core.Bool.{Bool, true, false}
use mathlib.Core.List.{List}
use mathlib.Core.Logic.{◌≢◌, ◌⊎◌, inl, inr, ⊎_elim}
use native.Mathlib.Omega.{arith}
use lib.ListN.{length}
use Rattle.std.specs.Prelude.{Ok, Err}
use Rattle.rules.specs.Answers.{Completion}
use Rattle.rules.specs.Bytes.{IsBytes}
use Rattle.rules.specs.Calls.{unless}
use Rattle.ring.specs.declared.Point.{Point}
use Rattle.ring.specs.Ring.{point_count, chosen, ring_good, position_at, doubled, ring_verdict, store_outcome}
use Rattle.ring.specs.Moves.{OnRing, Adds, PlacedIn}
use Rattle.ring.proofs.Apart.{none_repeats}
use Rattle.ring.proofs.Nearest.{one_place, chosen_least, chosen_nearest, chosen_is}

-- | Its store is that of the point
pub store_given : (ring : List ℕ) (key : ℕ) → ring_verdict ring ≡ Ok tt → store_outcome ring key ≡ Ok (chosen ring key).store
unfolding store_outcome unless
store_given ring key accepted = rw accepted refl

-- ---- a point more
-- | Where both rings are accepted
module _ (less more : List ℕ) (key : ℕ) (less_bytes : IsBytes less) (more_bytes : IsBytes more) (fits : key < 2 ^ 64)
    (less_accepted : ring_verdict less ≡ Ok tt) (more_accepted : ring_verdict more ≡ Ok tt) (p : Point) (adds : Adds p less more) where
  pub moves : (chosen more key ≡ p) ⊎ (chosen more key ≡ chosen less key)
  moves =
      let on = (chosen_nearest more key more_bytes fits more_accepted).on_ring in
      let stays : OnRing less (chosen more key) → chosen more key ≡ chosen less key =
      λ on_less.
      sym
      (chosen_is less key less_bytes fits less_accepted (chosen more key) on_less
      (λ q on_q. chosen_least more key more_bytes fits more_accepted q (adds.kept q on_q))) in
      ⊎_elim inl (λ on_less. inr (stays on_less)) (adds.added (chosen more key) on)

  -- | adding a point may move only keys that now go to it
  pub adding_moves : chosen more key ≢ chosen less key → (chosen more key ≡ p) × (store_outcome more key ≡ Ok p.store)
  adding_moves moved =
      let goes : chosen more key ≡ p = ⊎_elim (λ e. e) (λ e. absurd (moved e)) moves in
      (goes, rw (store_given more key more_accepted, goes) refl)

  -- | and removing one only keys that had it
  pub removing_moves : chosen more key ≢ p → (chosen less key ≡ chosen more key) × (store_outcome less key ≡ store_outcome more key)
  removing_moves other =
      let keeps : chosen less key ≡ chosen more key = ⊎_elim (λ e. absurd (other e)) sym moves in
      (keeps, rw (store_given less key less_accepted, store_given more key more_accepted, keeps) refl)

  -- so a key that has another store went to the point that was added, or had the one that was taken out
  pub stores_move : store_outcome more key ≢ store_outcome less key → (chosen more key ≡ p) × (store_outcome more key ≡ Ok p.store)
  stores_move other =
      adding_moves (λ same. other (rw (store_given more key more_accepted, store_given less key less_accepted, same) refl))

-- ---- another order
doubled_there : (ring other : List ℕ) → PlacedIn ring other → doubled other ≡ false → doubled ring ≡ false
unfolding doubled position_at
doubled_there ring other there apart =
    none_repeats (position_at ring) (point_count ring)
    (λ i j before inside same.
    there.own i j before inside
    (one_place other apart (there.place i) (there.place j) (there.inside i (omega arith)) (there.inside j inside)
    (ap (λ (p : Point). p.position) (there.same i (omega arith)) ∙ same ∙ sym (ap (λ (p : Point). p.position) (there.same j inside)))))

on_there : (ring other : List ℕ) → PlacedIn ring other → (q : Point) → OnRing ring q → OnRing other q
on_there ring other there q on = (there.place on.0, there.inside on.0 on.1, there.same on.0 on.1 ∙ on.2)

module _ (ring other : List ℕ) (same_length : length other ≡ length ring) (there : PlacedIn ring other) (back : PlacedIn other ring) where
  doubled_same : doubled other ≡ doubled ring
  doubled_same = go (doubled other) (doubled ring) refl refl
    where
      go : (a b : Bool) → doubled other ≡ a → doubled ring ≡ b → a ≡ b
      go true true e f = refl
      go false false e f = refl
      go true false e f = sym e ∙ doubled_there other ring back f
      go false true e f = sym (doubled_there ring other there e) ∙ f

  verdict_same : ring_verdict other ≡ ring_verdict ring
  unfolding ring_verdict ring_good point_count
  verdict_same = rw (doubled_same, same_length) refl

  -- the order of the list does not matter, whether the ring is refused or not
  pub order_same : (key : ℕ) → IsBytes ring → IsBytes other → key < 2 ^ 64 → store_outcome other key ≡ store_outcome ring key
  unfolding store_outcome unless
  order_same key ring_bytes other_bytes fits = go (ring_verdict ring) refl
    where
      go : (v : Completion) → ring_verdict ring ≡ v →
          unless (ring_verdict other) Err (Ok (chosen other key).store) ≡ unless v Err (Ok (chosen ring key).store)
      go (Err cause) e = rw (verdict_same, e) refl
      go (Ok u) e =
          let same : chosen ring key ≡ chosen other key =
          chosen_is ring key ring_bytes fits e (chosen other key)
          (on_there other ring back _ (chosen_nearest other key other_bytes fits (verdict_same ∙ e)).on_ring)
          (λ q on. chosen_least other key other_bytes fits (verdict_same ∙ e) q (on_there ring other there q on)) in
          rw (verdict_same, e, same) refl
