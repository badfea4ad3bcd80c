-- A ring with the bytes of a point put in, at any place of its list, has the points that it had, and that point. One with the bytes at a
-- place taken out has the others. Assumes nothing.
use Prim.Native.Nat.{ℕ, suc, ◌+◌, ◌*◌, ◌-◌, ◌≤◌, ◌<◌}
use mathlib.Core.Path.{◌≡◌, refl, sym, ap, ◌∙◌}
use mathlib.Core.Bool.{Bool, true, false}
use mathlib.Core.List.{List, ◌++◌}
use mathlib.Core.Logic.{◌≢◌, ◌⊎◌, inl, inr}
use native.Mathlib.Nat.{add-zero, add_assoc}
use native.Mathlib.Decide.{ℕ_discrete}
use native.Mathlib.Omega.{arith}
use lib.ListN.{length, take, drop, length-append, length-drop, take-append-drop}
use lib.Seq.{length-take-le, take_at, drop_at}
use lib.Dec.{lit<, ltb}
use borrow.Author.Tests.{ltb-true, ltb-false}
use Rattle.rules.proofs.Places.{get_front, get_part}
use Rattle.ring.specs.declared.Point.{Point}
use Rattle.ring.specs.Ring.{point_size, store_place, point_at, point_count}
use Rattle.ring.specs.Moves.{OnRing, Adds, put_in, take_out}

-- the points of a list's front and of the rest
point_front : (t : List ℕ) (m i : ℕ) → i < m → point_at (take (point_size * m) t) i ≡ point_at t i
unfolding point_at
point_front t m i below =
    rw (
      get_front t (point_size * m) (point_size * i) (omega arith),
      get_front t (point_size * m) (point_size * i + store_place) (omega arith),
    )
    refl

point_part : (t : List ℕ) (m i : ℕ) → point_at (drop (point_size * m) t) i ≡ point_at t (m + i)
unfolding point_at
point_part t m i =
    let e : point_size * (m + i) ≡ point_size * m + point_size * i = omega arith in
    rw e (simp (get_part, add_assoc))

front_long : (ring : List ℕ) (i : ℕ) → point_size * point_count ring ≡ length ring → i ≤ point_count ring →
    length (take (point_size * i) ring) ≡ point_size * i
front_long ring i whole inside = length-take-le (point_size * i) ring (omega (arith, whole))

module _ (ring bytes : List ℕ) (i : ℕ) (whole : point_size * point_count ring ≡ length ring) (inside : i ≤ point_count ring)
    (size : length bytes ≡ point_size) where
  more : List ℕ
  more = put_in ring i bytes

  front : length (take (point_size * i) ring) ≡ point_size * i
  front = front_long ring i whole inside

  rest : drop (point_size * i) more ≡ bytes ++ drop (point_size * i) ring
  unfolding more put_in
  rest = drop_at (take (point_size * i) ring) (bytes ++ drop (point_size * i) ring) (point_size * i) front

  before : (j : ℕ) → j < i → point_at more j ≡ point_at ring j
  unfolding more put_in
  before j l =
      sym (point_front more i j l)
      ∙ ap (λ (t : List ℕ). point_at t j) (take_at (take (point_size * i) ring) (bytes ++ drop (point_size * i) ring) (point_size * i) front)
      ∙ point_front ring i j l

  in_rest : (k : ℕ) → point_at more (i + k) ≡ point_at (bytes ++ drop (point_size * i) ring) k
  in_rest k = sym (point_part more i k) ∙ ap (λ (t : List ℕ). point_at t k) rest

  here : point_at more i ≡ point_at bytes 0
  here =
      ap (point_at more) (sym (add-zero i))
      ∙ in_rest 0
      ∙ sym (point_front (bytes ++ drop (point_size * i) ring) 1 0 (lit< tt))
      ∙ ap (λ (t : List ℕ). point_at t 0) (take_at bytes (drop (point_size * i) ring) point_size size)

  after : (j : ℕ) → i ≤ j → point_at more (suc j) ≡ point_at ring j
  after j l =
      let k = j - i in
      let next : suc j ≡ i + (1 + k) = omega arith in
      let past : i + k ≡ j = omega arith in
      ap (point_at more) next
      ∙ in_rest (1 + k)
      ∙ sym (point_part (bytes ++ drop (point_size * i) ring) 1 k)
      ∙ ap (λ (t : List ℕ). point_at t k) (drop_at bytes (drop (point_size * i) ring) point_size size)
      ∙ point_part ring i k
      ∙ ap (point_at ring) past

  count : point_count more ≡ suc (point_count ring)
  unfolding more put_in point_count
  count =
      rw (length-append, length-append, length-drop, front, size)
      (omega (arith, whole))

  pub put_in_adds : Adds (point_at bytes 0) ring (put_in ring i bytes)
  unfolding more
  put_in_adds = record { kept = kept; added = added }
    where
      kept : (q : Point) → OnRing ring q → OnRing more q
      kept q (j, below, e) = go (ltb j i) refl
        where
          go : (b : Bool) → ltb j i ≡ b → OnRing more q
          go true l = (j, omega (arith, count), before j (ltb-true j i l) ∙ e)
          go false l = (suc j, omega (arith, count), after j (ltb-false j i l) ∙ e)

      added : (q : Point) → OnRing more q → (q ≡ point_at bytes 0) ⊎ OnRing ring q
      added q (j, below, e) =
          elim (ℕ_discrete j i) [
            | yes there ↦ inl (sym e ∙ ap (point_at more) there ∙ here)
            | no other ↦ go (ltb j i) refl other
          ]
        where
          go : (b : Bool) → ltb j i ≡ b → j ≢ i → (q ≡ point_at bytes 0) ⊎ OnRing ring q
          go true low other = let l = ltb-true j i low in inr (j, omega (arith, inside), sym (before j l) ∙ e)
          go false high other =
              let l = ltb-false j i high in
              let next : suc (j - 1) ≡ j = omega arith in
              inr (j - 1, omega (arith, below, count), sym (after (j - 1) (omega arith)) ∙ ap (point_at more) next ∙ e)

module _ (ring : List ℕ) (i : ℕ) (whole : point_size * point_count ring ≡ length ring) (inside : i < point_count ring) where
  out : List ℕ
  out = take_out ring i

  bytes_out : List ℕ
  bytes_out = take point_size (drop (point_size * i) ring)

  front_out : length (take (point_size * i) ring) ≡ point_size * i
  front_out = front_long ring i whole (omega (arith, inside))

  put_back : put_in out i bytes_out ≡ ring
  unfolding out take_out bytes_out put_in
  put_back =
      let front = take (point_size * i) ring in
      let behind = drop point_size (drop (point_size * i) ring) in
      rw (
        take_at front behind (point_size * i) front_out,
        drop_at front behind (point_size * i) front_out,
        take-append-drop point_size (drop (point_size * i) ring),
      )
      (take-append-drop (point_size * i) ring)

  size_out : length bytes_out ≡ point_size
  unfolding bytes_out
  size_out = length-take-le point_size (drop (point_size * i) ring) (rw length-drop (omega (arith, whole)))

  length_out : length out + point_size ≡ length ring
  unfolding out take_out
  length_out = rw (length-append, length-drop, length-drop, front_out) (omega (arith, whole))

  count_out : suc (point_count out) ≡ point_count ring
  unfolding point_count
  count_out = omega (arith, whole, length_out)

  pub take_out_adds : Adds (point_at ring i) (take_out ring i) ring
  unfolding out more
  take_out_adds =
      let whole_out : point_size * point_count out ≡ length out = omega (arith, whole, length_out, count_out) in
      let inside_out : i ≤ point_count out = omega (arith, count_out) in
      let same : point_at bytes_out 0 ≡ point_at ring i =
      sym (here out bytes_out i whole_out inside_out size_out) ∙ ap (λ (r : List ℕ). point_at r i) put_back in
      rw (put_back, same) at (put_in_adds out bytes_out i whole_out inside_out size_out)
