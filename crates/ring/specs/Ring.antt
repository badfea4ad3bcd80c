-- Which store a key's picture is fetched from: a ring of points in lent bytes, and the point that a key has on it (document 02).
use Rattle.std.specs.Prelude.{ℕ, ◌+◌, ◌*◌, ◌-◌, ◌/◌, ◌%◌, ◌^◌, List, [], ◌∷◌, Bool, ◌&&◌, not, length, ltb, leb, eqb, if◌then◌else◌, Result, Ok, Err}
use Rattle.std.proofs.Math.Option.{none}
use Rattle.rules.specs.declared.Refusal.{Refusal}
use Rattle.rules.specs.declared.Refusal.TheVariants.{WrongSizes, DoubledPosition, WrongRing}
use Rattle.rules.specs.Refusals.{number}
use Rattle.rules.specs.Bytes.{get64, put64}
use Rattle.rules.specs.Pass.{pass, any_of}
use Rattle.rules.specs.Answers.{Said, Completion, said}
use Rattle.rules.specs.Numbers.{refusal}
use Rattle.rules.specs.Steps.{Outcome, outcome}
use Rattle.rules.specs.Calls.{verdict, must, unless, number_test, put_value}
use Rattle.ring.specs.declared.Point.{Point}

-- ---- a ring
-- | a lent list of 1 to 1,024 points, each 16 bytes
abbrev pub point_size : ℕ
point_size = 16

abbrev pub most_points : ℕ
most_points = 1024

-- where its second number lies
abbrev pub store_place : ℕ
store_place = 8

-- | a 64-bit position and a 64-bit store number
unfoldable pub point_at : List ℕ → ℕ → Point
point_at ring i = record { position = get64 ring (point_size * i); store = get64 ring (point_size * i + store_place) }

unfoldable pub point_count : List ℕ → ℕ
point_count ring = length ring / point_size

-- ---- the point of a key, which is given by its position
-- | clockwise distance, which is point minus key position, wrapped at 64 bits
unfoldable pub distance : ℕ → Point → ℕ
distance key p = (p.position + 2 ^ 64 - key) % 2 ^ 64

-- the nearer one of two points
unfoldable pub nearer : ℕ → Point → Point → Point
nearer key p q = if ltb (distance key q) (distance key p) then q else p

-- of the first n points the first, or the last that is nearer than all before it
unfoldable pub nearest : ℕ → (ℕ → Point) → ℕ → Point
nearest key f = pass (λ p i q. nearer key p q) (f 0) f

-- | the point with the smallest clockwise distance
unfoldable pub chosen : List ℕ → ℕ → Point
chosen ring key = nearest key (point_at ring) (point_count ring)

-- ---- the tests
-- | 12, a ring of no point, over 1,024 or not whole points
unfoldable pub ring_good : List ℕ → Bool
ring_good ring =
    eqb (point_size * point_count ring) (length ring)
    && leb 1 (point_count ring)
    && leb (point_count ring) most_points

-- two of the first n numbers are equal
unfoldable pub repeats : (ℕ → ℕ) → ℕ → Bool
repeats f = any_of (λ j. any_of (λ x. eqb x (f j)) f j) (λ j. j)

unfoldable pub position_at : List ℕ → ℕ → ℕ
position_at ring i = (point_at ring i).position

-- | two points at one position
unfoldable pub doubled : List ℕ → Bool
doubled ring = repeats (position_at ring) (point_count ring)

-- | 12, .. tested before 11
unfoldable pub ring_verdict : List ℕ → Completion
ring_verdict ring = verdict (must (ring_good ring) WrongRing ∷ must (not (doubled ring)) DoubledPosition ∷ [])

-- ---- the call
-- | Its store is that of the point
unfoldable pub store_outcome : List ℕ → ℕ → Result ℕ Refusal
store_outcome ring key = unless (ring_verdict ring) (λ cause. Err cause) (Ok (chosen ring key).store)

unfoldable pub store_said : List ℕ → ℕ → Said
store_said ring key = unless (ring_verdict ring) (λ cause. refusal (number cause)) (said none ((chosen ring key).store ∷ []))

-- by a C host: the number that it is told, and what becomes of the 8 bytes that it lent for the store
unfoldable pub exported_store : List ℕ → ℕ → List ℕ → Outcome ℕ (List ℕ)
exported_store ring key store =
    unless (verdict (number_test store ∷ [])) (λ cause. outcome (number cause) store) (put_value store (store_outcome ring key))

-- the same, by all tests in one row and byte by byte
abbrev pub store_told : List ℕ → ℕ → List ℕ → Outcome ℕ (List ℕ)
store_told ring key store =
    unless
    (verdict
    (must (eqb (length store) 8) WrongSizes
    ∷ must (ring_good ring) WrongRing
    ∷ must (not (doubled ring)) DoubledPosition
    ∷ []))
    (λ cause. outcome (number cause) store)
    (outcome 0 (put64 store 0 (chosen ring key).store))
