-- Rings with a known point for each key, rings that are refused, and what keeps the promises about rings from being thinned unnoticed:
-- points that miss a clause by one, and rings that are changed at every place. Each example is run. Assumes nothing.
use Prim.Native.Nat.{ℕ, zero, suc, ◌+◌, ◌*◌, ◌%◌, ◌^◌, ◌≤◌, ◌<◌}
use mathlib.Core.Path.{◌≡◌, refl, sym, ap}
use mathlib.Core.List.{List, [], ◌∷◌}
use mathlib.Core.Logic.{◌≢◌, ◌⊎◌, inl, inr}
use native.Mathlib.Nat.{add-zero}
use native.Mathlib.Omega.{arith}
use lib.ListN.{length, replicate}
use lib.Dec.{lit<}
use Rattle.std.specs.Prelude.{Result, Ok, Err}
use Rattle.rules.specs.declared.Refusal.{Refusal}
use Rattle.rules.specs.declared.Refusal.TheVariants.{DoubledPosition, WrongRing}
use Rattle.rules.specs.Bytes.{IsBytes, put64}
use Rattle.rules.specs.Steps.{outcome}
use Rattle.rules.proofs.Words.{put64_bytes}
use Rattle.rules.proofs.Places.{zero_bytes}
use Rattle.ring.specs.declared.Point.{Point}
use Rattle.ring.specs.Ring.{point_at, point_count, distance, chosen, ring_verdict, store_outcome, exported_store, store_told}
use Rattle.ring.specs.Moves.{OnRing, IsNearest, Adds, PlacedIn, put_in, take_out}
use Rattle.ring.proofs.Computing.{computing}
use Rattle.ring.proofs.Nearest.{chosen_nearest}
use Rattle.ring.proofs.HostStore.{host_store}
use Rattle.ring.proofs.PutIn.{put_in_adds, take_out_adds}
use Rattle.ring.proofs.Moves.{adding_moves, removing_moves, stores_move, order_same}

abbrev point : ℕ → ℕ → Point
point position store = record { position = position; store = store }

-- the bytes of a list of points
unfoldable pub put_points : List ℕ → ℕ → List Point → List ℕ
put_points bytes at [] = bytes
put_points bytes at (p ∷ ps) = put_points (put64 (put64 bytes at p.position) (at + 8) p.store) (at + 16) ps

unfoldable pub ring_of : List Point → List ℕ
ring_of ps = put_points (replicate (16 * length ps) 0) 0 ps

put_points_bytes : (bytes : List ℕ) (at : ℕ) (ps : List Point) → IsBytes bytes → IsBytes (put_points bytes at ps)
unfolding put_points
put_points_bytes bytes at [] h = h
put_points_bytes bytes at (p ∷ ps) h =
    put_points_bytes (put64 (put64 bytes at p.position) (at + 8) p.store) (at + 16) ps
    (put64_bytes (put64 bytes at p.position) (at + 8) p.store (put64_bytes bytes at p.position h))

ring_bytes : (ps : List Point) → IsBytes (ring_of ps)
unfolding ring_of
ring_bytes ps = put_points_bytes _ 0 ps (zero_bytes (16 * length ps))

-- ---- the point of a key
abbrev three : List Point
three = point 20 2 ∷ point 10 1 ∷ point 4000 3 ∷ []

-- a key on a point has that point; one just behind it, too; one just past it has the next, however far that is
pub clockwise :
    (store_outcome (ring_of three) 10 ≡ Ok 1)
    × (store_outcome (ring_of three) 9 ≡ Ok 1)
    × (store_outcome (ring_of three) 11 ≡ Ok 2)
    × (store_outcome (ring_of three) 21 ≡ Ok 3)
unfolding computing ring_of put_points
clockwise = (refl, refl, refl, refl)

-- past the last point comes the first one again
pub past_the_last : (store_outcome (ring_of three) 4001 ≡ Ok 1) × (distance 4001 (point 10 1) ≡ 18446744073709547625)
unfolding computing ring_of put_points
past_the_last = (refl, refl)

abbrev ends : List Point
ends = point 5 50 ∷ point 0 7 ∷ point 18446744073709551615 18446744073709551614 ∷ []

-- positions and stores of 64 bits; from the largest position 0 is one step
pub at_the_ends :
    (store_outcome (ring_of ends) 0 ≡ Ok 7)
    × (store_outcome (ring_of ends) 1 ≡ Ok 50)
    × (store_outcome (ring_of ends) 6 ≡ Ok 18446744073709551614)
    × (store_outcome (ring_of ends) 18446744073709551615 ≡ Ok 18446744073709551614)
    × (distance 18446744073709551615 (point 0 7) ≡ 1)
unfolding computing ring_of put_points
at_the_ends = (refl, refl, refl, refl, refl)

-- one point has every key
pub one_point :
    (store_outcome (ring_of (point 10 1 ∷ [])) 10 ≡ Ok 1)
    × (store_outcome (ring_of (point 10 1 ∷ [])) 9 ≡ Ok 1)
    × (store_outcome (ring_of (point 10 1 ∷ [])) 11 ≡ Ok 1)
unfolding computing ring_of put_points
one_point = (refl, refl, refl)

-- ---- refused
-- | two points at one position: neighbours in the list, the first and the last, and at one store
pub doubled_refused :
    (store_outcome (ring_of (point 10 1 ∷ point 10 2 ∷ point 20 3 ∷ [])) 15 ≡ Err DoubledPosition)
    × (store_outcome (ring_of (point 10 1 ∷ point 20 2 ∷ point 10 3 ∷ [])) 15 ≡ Err DoubledPosition)
    × (store_outcome (ring_of (point 10 1 ∷ point 20 1 ∷ point 10 1 ∷ [])) 15 ≡ Err DoubledPosition)
unfolding computing ring_of put_points
doubled_refused = (refl, refl, refl)

-- positions that differ in one bit are two, and points of one store, too
pub one_bit_apart :
    (store_outcome (ring_of (point 0 1 ∷ point 9223372036854775808 2 ∷ [])) 1 ≡ Ok 2)
    × (store_outcome (ring_of (point 10 1 ∷ point 11 1 ∷ [])) 11 ≡ Ok 1)
unfolding computing ring_of put_points
one_bit_apart = (refl, refl)

-- | no point, over 1,024 or not whole points, tested before 11: 1,024 points pass that test, though all are at one position
pub wrong_rings :
    (store_outcome [] 0 ≡ Err WrongRing)
    × (store_outcome (replicate 15 0) 0 ≡ Err WrongRing)
    × (store_outcome (replicate 17 0) 0 ≡ Err WrongRing)
    × (store_outcome (replicate 33 0) 0 ≡ Err WrongRing)
    × (store_outcome (replicate 16384 0) 0 ≡ Err DoubledPosition)
    × (store_outcome (replicate 16385 0) 0 ≡ Err WrongRing)
    × (store_outcome (replicate 16400 0) 0 ≡ Err WrongRing)
unfolding computing
wrong_rings = (refl, refl, refl, refl, refl, refl, refl)

-- ---- by a C host
-- | 0 where it is done; 1 before 12 and 11, 12 before 11; the bytes stay
pub told :
    (exported_store (ring_of three) 11 (replicate 8 255) ≡ outcome 0 (2 ∷ replicate 7 0))
    × (exported_store (replicate 32 0) 0 (replicate 8 255) ≡ outcome 11 (replicate 8 255))
    × (exported_store (replicate 33 0) 0 (replicate 8 255) ≡ outcome 12 (replicate 8 255))
    × (exported_store (replicate 32 0) 0 (replicate 7 255) ≡ outcome 1 (replicate 7 255))
    × (exported_store (replicate 33 0) 0 (replicate 9 255) ≡ outcome 1 (replicate 9 255))
    × (exported_store (ring_of three) 11 [] ≡ outcome 1 [])
unfolding computing ring_of put_points
told = (refl, refl, refl, refl, refl, refl)

-- the same by all tests in one row
pub told_in_a_row :
    (exported_store (ring_of three) 11 (replicate 8 255) ≡ store_told (ring_of three) 11 (replicate 8 255))
    × (exported_store (replicate 32 0) 0 (replicate 8 255) ≡ store_told (replicate 32 0) 0 (replicate 8 255))
    × (exported_store (replicate 33 0) 0 (replicate 8 255) ≡ store_told (replicate 33 0) 0 (replicate 8 255))
    × (exported_store [] 0 [] ≡ store_told [] 0 [])
told_in_a_row = (host_store _ _ _, host_store _ _ _, host_store _ _ _, host_store _ _ _)

-- ---- the nearest point, with a clause missed
other_positions : (p q : Point) → p.position ≢ q.position → p ≢ q
other_positions p q other e = other (ap (λ (r : Point). r.position) e)

other_stores : (p q : Point) → p.store ≢ q.store → p ≢ q
other_stores p q other e = other (ap (λ (r : Point). r.store) e)

-- of two points at one distance neither is the nearest
pub as_far_is_not : ¬ (IsNearest (ring_of (point 10 1 ∷ point 10 2 ∷ [])) 9 (point 10 1))
unfolding computing ring_of put_points
as_far_is_not h =
    let l : 1 < 1 = h.others (point 10 2) (1, lit< tt, refl) (other_stores _ _ (λ e. omega (arith, e))) in
    omega (arith, l)

-- another point of the ring is not the nearest, though it comes first in the list
pub farther_is_not : ¬ (IsNearest (ring_of three) 9 (point 20 2))
unfolding computing ring_of put_points
farther_is_not h =
    let l : 11 < 1 = h.others (point 10 1) (1, lit< tt, refl) (other_positions _ _ (λ e. omega (arith, e))) in
    omega (arith, l)

-- a point nearer than all that is not on the ring is not the nearest
pub off_ring_is_not : ¬ (IsNearest (ring_of three) 9 (point 9 1))
unfolding computing ring_of put_points
off_ring_is_not h = go h.on_ring
  where
    go : OnRing (ring_of three) (point 9 1) → ⊥
    go (zero, below, e) = other_positions _ _ (λ l. omega (arith, l)) e
    go (suc zero, below, e) = other_positions _ _ (λ l. omega (arith, l)) e
    go (suc (suc zero), below, e) = other_positions _ _ (λ l. omega (arith, l)) e
    go (suc (suc (suc i)), below, e) = omega (arith, below)

-- of every key the chosen one is
pub always_nearest : (key : ℕ) → key < 2 ^ 64 →
    IsNearest (ring_of ends) key (chosen (ring_of ends) key)
    × IsNearest (ring_of (point 10 1 ∷ [])) key (chosen (ring_of (point 10 1 ∷ [])) key)
unfolding computing ring_of put_points
always_nearest key fits = (
  chosen_nearest (ring_of ends) key (ring_bytes ends) fits refl,
  chosen_nearest (ring_of (point 10 1 ∷ [])) key (ring_bytes (point 10 1 ∷ [])) fits refl,
)

-- ---- a point more
abbrev less : List Point
less = point 10 1 ∷ point 20 2 ∷ []

abbrev new : Point
new = point 15 9

-- its bytes are put in front or behind, or taken out of the middle; or it stands between the others, which have changed their places
abbrev in_front : List Point
in_front = new ∷ point 10 1 ∷ point 20 2 ∷ []

abbrev behind : List Point
behind = point 10 1 ∷ point 20 2 ∷ new ∷ []

abbrev middle : List Point
middle = point 10 1 ∷ new ∷ point 20 2 ∷ []

abbrev between : List Point
between = point 20 2 ∷ new ∷ point 10 1 ∷ []

put_in_at : (i : ℕ) → i ≤ 2 → Adds new (ring_of less) (put_in (ring_of less) i (ring_of (new ∷ [])))
unfolding computing ring_of put_points
put_in_at i inside = put_in_adds (ring_of less) (ring_of (new ∷ [])) i refl inside refl

adds_in_front : Adds new (ring_of less) (ring_of in_front)
unfolding computing ring_of put_points put_in
adds_in_front = put_in_at 0 (omega arith)

adds_behind : Adds new (ring_of less) (ring_of behind)
unfolding computing ring_of put_points put_in
adds_behind = put_in_at 2 (omega arith)

adds_middle : Adds new (ring_of less) (ring_of middle)
unfolding computing ring_of put_points take_out
adds_middle = take_out_adds (ring_of middle) 1 refl (omega arith)

adds_between : Adds new (ring_of less) (ring_of between)
unfolding computing ring_of put_points
adds_between = record { kept = kept; added = added }
  where
    kept : (q : Point) → OnRing (ring_of less) q → OnRing (ring_of between) q
    kept q (zero, below, e) = (2, lit< tt, e)
    kept q (suc zero, below, e) = (0, lit< tt, e)
    kept q (suc (suc i), below, e) = absurd (omega (arith, below))

    added : (q : Point) → OnRing (ring_of between) q → (q ≡ new) ⊎ OnRing (ring_of less) q
    added q (zero, below, e) = inr (1, lit< tt, e)
    added q (suc zero, below, e) = inl (sym e)
    added q (suc (suc zero), below, e) = inr (0, lit< tt, e)
    added q (suc (suc (suc i)), below, e) = absurd (omega (arith, below))

-- key 12 had 20 and goes to the new point
abbrev Goes : List Point → Type 0
Goes more = (chosen (ring_of more) 12 ≡ new) × (store_outcome (ring_of more) 12 ≡ Ok 9)

-- key 16 keeps 20, and still has it without the new point
abbrev Keeps : List Point → Type 0
Keeps more =
    (chosen (ring_of less) 16 ≡ chosen (ring_of more) 16) × (store_outcome (ring_of less) 16 ≡ store_outcome (ring_of more) 16)

other_answers : {a b : ℕ} → a ≢ b → ◌≢◌ {A = Result ℕ Refusal} (Ok a) (Ok b)
other_answers other e = other (ap told_store e)
  where
    told_store : Result ℕ Refusal → ℕ
    told_store (Ok n) = n
    told_store (Err cause) = 0

moves_so : (more : List Point) → Adds new (ring_of less) (ring_of more) → ring_verdict (ring_of more) ≡ Ok tt →
    store_outcome (ring_of more) 12 ≢ store_outcome (ring_of less) 12 → chosen (ring_of more) 16 ≢ new → Goes more × Keeps more
unfolding computing ring_of put_points
moves_so more adds accepted moved other = (
  stores_move (ring_of less) (ring_of more) 12 (ring_bytes less) (ring_bytes more) (lit< tt) refl accepted new adds moved,
  removing_moves (ring_of less) (ring_of more) 16 (ring_bytes less) (ring_bytes more) (lit< tt) refl accepted new adds other,
)

pub put_anywhere : Goes in_front × Keeps in_front × Goes behind × Keeps behind × Goes middle × Keeps middle × Goes between × Keeps between
unfolding computing ring_of put_points
put_anywhere =
    let moved : ◌≢◌ {A = Result ℕ Refusal} (Ok 9) (Ok 2) = other_answers (λ e. omega (arith, e)) in
    let other : point 20 2 ≢ new = other_positions _ _ (λ e. omega (arith, e)) in
    let front = moves_so in_front adds_in_front refl moved other in
    let back = moves_so behind adds_behind refl moved other in
    let inner = moves_so middle adds_middle refl moved other in
    let mixed = moves_so between adds_between refl moved other in
    (front.0, front.1, back.0, back.1, inner.0, inner.1, mixed.0, mixed.1)

-- a store that has a point has another put in front of it, near the largest position: one key goes to it, and one keeps its point
abbrev alone : List Point
alone = point 18446744073709551615 9 ∷ []

abbrev beside : Point
beside = point 18446744073709551613 9

abbrev two : List Point
two = beside ∷ alone

adds_beside : Adds beside (ring_of alone) (ring_of two)
unfolding computing ring_of put_points put_in
adds_beside = put_in_adds (ring_of alone) (ring_of (beside ∷ [])) 0 refl (omega arith) refl

pub beside_one :
    (chosen (ring_of two) 18446744073709551612 ≡ beside)
    × (store_outcome (ring_of two) 18446744073709551612 ≡ Ok 9)
    × (chosen (ring_of alone) 18446744073709551614 ≡ chosen (ring_of two) 18446744073709551614)
    × (store_outcome (ring_of alone) 18446744073709551614 ≡ store_outcome (ring_of two) 18446744073709551614)
unfolding computing ring_of put_points
beside_one =
    let goes = adding_moves (ring_of alone) (ring_of two) 18446744073709551612 (ring_bytes alone) (ring_bytes two) (lit< tt) refl refl
    beside adds_beside (other_positions _ _ (λ e. omega (arith, e))) in
    let keeps = removing_moves (ring_of alone) (ring_of two) 18446744073709551614 (ring_bytes alone) (ring_bytes two) (lit< tt) refl refl
    beside adds_beside (other_positions _ _ (λ e. omega (arith, e))) in
    (goes.0, goes.1, keeps.0, keeps.1)

-- ---- another order
-- the points of one list stand in the other, each k places on: of three the last ones come first again
turned : (k : ℕ) (a b : List ℕ) → point_count a ≡ 3 → point_count b ≡ 3 →
    point_at b (k % 3) ≡ point_at a 0 → point_at b ((k + 1) % 3) ≡ point_at a 1 → point_at b ((k + 2) % 3) ≡ point_at a 2 →
    PlacedIn a b
turned k a b three_of_a three_of_b first second third =
    record {
      place = λ i. (k + i) % 3;
      inside = λ i below. omega (arith, three_of_b);
      same = λ i below. same i (omega (arith, three_of_a));
      own = λ i j before inside e. omega (arith, three_of_a);
    }
  where
    same : (i : ℕ) → i < 3 → point_at b ((k + i) % 3) ≡ point_at a i
    same zero below = rw (add-zero k) first
    same (suc zero) below = second
    same (suc (suc zero)) below = third
    same (suc (suc (suc i))) below = absurd (omega (arith, below))

abbrev ends_turned : List Point
ends_turned = point 18446744073709551615 18446744073709551614 ∷ point 5 50 ∷ point 0 7 ∷ []

abbrev doubled_ring : List Point
doubled_ring = point 10 1 ∷ point 20 2 ∷ point 10 3 ∷ []

abbrev doubled_turned : List Point
doubled_turned = point 10 3 ∷ point 10 1 ∷ point 20 2 ∷ []

-- a point, and a byte
left_over : PlacedIn (replicate 17 0) (replicate 17 0)
left_over =
    record { place = λ i. i; inside = λ i below. below; same = λ i below. refl; own = λ i j before inside e. omega (arith, e) }

-- every key has the same answer, also where two points stand at one position, and where a byte is left over
pub order_free : (key : ℕ) → key < 2 ^ 64 →
    (store_outcome (ring_of ends_turned) key ≡ store_outcome (ring_of ends) key)
    × (store_outcome (ring_of doubled_turned) key ≡ store_outcome (ring_of doubled_ring) key)
    × (store_outcome (replicate 17 0) key ≡ store_outcome (replicate 17 0) key)
unfolding computing ring_of put_points
order_free key fits = (
  order_same (ring_of ends) (ring_of ends_turned) refl
      (turned 1 (ring_of ends) (ring_of ends_turned) refl refl refl refl refl)
      (turned 2 (ring_of ends_turned) (ring_of ends) refl refl refl refl refl)
      key (ring_bytes ends) (ring_bytes ends_turned) fits,
  order_same (ring_of doubled_ring) (ring_of doubled_turned) refl
      (turned 1 (ring_of doubled_ring) (ring_of doubled_turned) refl refl refl refl refl)
      (turned 2 (ring_of doubled_turned) (ring_of doubled_ring) refl refl refl refl refl)
      key (ring_bytes doubled_ring) (ring_bytes doubled_turned) fits,
  order_same (replicate 17 0) (replicate 17 0) refl left_over left_over key (zero_bytes 17) (zero_bytes 17) fits,
)
