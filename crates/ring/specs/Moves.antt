-- What becomes of keys where a ring is changed: the words of the promises about two rings.
use Rattle.std.specs.Prelude.{ℕ, ◌*◌, ◌<◌, ◌≡◌, ◌≢◌, ◌⊎◌, List, ◌++◌, take, drop}
use Rattle.ring.specs.declared.Point.{Point}
use Rattle.ring.specs.Ring.{point_size, point_at, point_count, distance}

-- one of a ring's points
abbrev pub OnRing : List ℕ → Point → Type 0
OnRing ring p = (i : ℕ) × (i < point_count ring) × (point_at ring i ≡ p)

-- | the point with the smallest clockwise distance: any other one is farther
pub record IsNearest (ring : List ℕ) (key : ℕ) (p : Point) : Type 0 where
  pub on_ring : OnRing ring p
  pub others : (q : Point) → OnRing ring q → q ≢ p → distance key p < distance key q

-- | adding a point .. removing one: one ring has the points of the other and at most p besides, wherever they stand in their lists
pub record Adds (p : Point) (less more : List ℕ) : Type 0 where
  pub kept : (q : Point) → OnRing less q → OnRing more q
  pub added : (q : Point) → OnRing more q → (q ≡ p) ⊎ OnRing less q

-- a point's bytes put in at place i of a ring's list, or taken out there
unfoldable pub put_in : List ℕ → ℕ → List ℕ → List ℕ
put_in ring i bytes = take (point_size * i) ring ++ (bytes ++ drop (point_size * i) ring)

unfoldable pub take_out : List ℕ → ℕ → List ℕ
take_out ring i = take (point_size * i) ring ++ drop point_size (drop (point_size * i) ring)

-- each point of one list has a place of its own in another
pub record PlacedIn (ring other : List ℕ) : Type 0 where
  pub place : ℕ → ℕ
  pub inside : (i : ℕ) → i < point_count ring → place i < point_count other
  pub same : (i : ℕ) → i < point_count ring → point_at other (place i) ≡ point_at ring i
  pub own : (i j : ℕ) → i < j → j < point_count ring → place i ≢ place j
