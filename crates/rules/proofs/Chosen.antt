-- Sums over chosen places compare as their amounts do, place by place; and the sum over all places is the sum. Assumes nothing.
use Prim.Native.Nat.{ℕ, zero, suc, ◌+◌, ◌*◌, ◌/◌, ◌≤◌, ◌<◌}
use mathlib.Core.Path.{◌≡◌, refl, ap, ◌∙◌}
use mathlib.Core.Bool.{Bool, true, false, ◌||◌}
use mathlib.Core.Logic.{◌≢◌}
use native.Mathlib.Nat.{suc-mul}
use native.Mathlib.Omega.{arith}
use Rattle.std.specs.Prelude.{if◌then◌else◌}
use Rattle.rules.specs.Pass.{pass, sum_of, count_of, sum_where, count_where}
use Rattle.rules.specs.Replay.{at}
use Rattle.rules.proofs.Changes.{at_same, at_other}
use Rattle.rules.proofs.Searches.{sum_most, sum_le, sum_more, sum_halved}

-- an amount that is counted or not
counted_le : (c : Bool) (x y : ℕ) → x ≤ y → (if c then x else 0) ≤ (if c then y else 0)
counted_le true x y e = e
counted_le false x y e = omega arith

counted_more : (c : Bool) (x y w : ℕ) → x ≤ y + w → (if c then x else 0) ≤ (if c then y else 0) + w
counted_more true x y w e = e
counted_more false x y w e = omega arith

counted_half : (c : Bool) (x y : ℕ) → x ≤ y / 2 → (if c then x else 0) ≤ (if c then y else 0) / 2
counted_half true x y e = e
counted_half false x y e = omega arith

module _ {B : Type 0} (chosen : ℕ → Bool) (a b : B → ℕ) (f g : ℕ → B) (n : ℕ) where
  pub where_le : ((i : ℕ) → i < n → a (f i) ≤ b (g i)) → sum_where chosen a f n ≤ sum_where chosen b g n
  unfolding sum_where
  where_le each = sum_le _ _ (λ i. i) (λ i. i) n (λ i below. counted_le (chosen i) _ _ (each i below))

  -- one place may have w more
  pub where_more : (i w : ℕ) → ((j : ℕ) → j < n → j ≢ i → a (f j) ≤ b (g j)) → a (f i) ≤ b (g i) + w →
      sum_where chosen a f n ≤ sum_where chosen b g n + w
  unfolding sum_where
  where_more i w each here =
      sum_more _ _ (λ i. i) (λ i. i) n i w (λ j below other. counted_le (chosen j) _ _ (each j below other))
      (counted_more (chosen i) _ _ w here)

  pub where_halved : ((i : ℕ) → i < n → a (f i) ≤ b (g i) / 2) → sum_where chosen a f n ≤ sum_where chosen b g n / 2
  unfolding sum_where
  where_halved each = sum_halved _ _ (λ i. i) (λ i. i) n (λ i below. counted_half (chosen i) _ _ (each i below))

-- ---- no amount over a most
pub where_most : {B : Type 0} (chosen : ℕ → Bool) (a : B → ℕ) (f : ℕ → B) (n most : ℕ) → ((i : ℕ) → i < n → a (f i) ≤ most) →
    sum_where chosen a f n ≤ n * most
unfolding sum_where
where_most chosen a f n most each =
    sum_most _ (λ i. i) n most (λ i below. counted_most (chosen i) (each i below))
  where
    counted_most : (c : Bool) {x : ℕ} → x ≤ most → (if c then x else 0) ≤ most
    counted_most true e = e
    counted_most false e = omega arith

-- ---- every place chosen
pub where_all : {B : Type 0} (a : B → ℕ) (f : ℕ → B) (n : ℕ) → sum_where (λ i. true) a f n ≡ sum_of a f n
unfolding sum_where sum_of pass
where_all a f zero = refl
where_all a f (suc n) = rw (where_all a f n)

pub count_all : (n : ℕ) → count_where (λ i. true) n ≡ n
unfolding count_where count_of sum_of pass
count_all zero = refl
count_all (suc n) = rw (count_all n) (omega arith)

-- ---- more places chosen
-- sums by place that are equal
pub sum_same : {B C : Type 0} (a : B → ℕ) (b : C → ℕ) (f : ℕ → B) (g : ℕ → C) (n : ℕ) → ((i : ℕ) → i < n → a (f i) ≡ b (g i)) →
    sum_of a f n ≡ sum_of b g n
unfolding sum_of pass
sum_same a b f g zero each = refl
sum_same a b f g (suc n) each = rw (sum_same a b f g n (λ i below. each i (omega arith)), each n (omega arith))

-- the last place is chosen or not as b says, and the others are as before
module _ (chosen : ℕ → Bool) (n : ℕ) (b : Bool) where
  before : (i : ℕ) → i < n → at n b chosen i ≡ chosen i
  before i below = at_other n i b chosen (omega arith)

  count_last : count_where (at n b chosen) (suc n) ≡ count_where chosen n + (if b then 1 else 0)
  unfolding count_where count_of sum_of pass
  count_last =
      rw (at_same n b chosen)
      (ap (λ (k : ℕ). k + (if b then 1 else 0))
      (sum_same (λ i. if at n b chosen i then 1 else 0) (λ i. if chosen i then 1 else 0) (λ i. i) (λ i. i) n
      (λ i below. rw (before i below))))

  sum_last : {B : Type 0} (a : B → ℕ) (f : ℕ → B) →
      sum_where (at n b chosen) a f (suc n) ≡ sum_where chosen a f n + (if b then a (f n) else 0)
  unfolding sum_where sum_of pass
  sum_last a f =
      rw (at_same n b chosen)
      (ap (λ (k : ℕ). k + (if b then a (f n) else 0))
      (sum_same (λ i. if at n b chosen i then a (f i) else 0) (λ i. if chosen i then a (f i) else 0) (λ i. i) (λ i. i) n
      (λ i below. rw (before i below))))

-- A choice grows by as many more as there are among others, and its sum by the least amount of these for each.
module _ {B : Type 0} (chosen among : ℕ → Bool) (a : B → ℕ) (f : ℕ → B) (least : ℕ) where
  abbrev pub either : ℕ → Bool
  either i = chosen i || among i

  pub record Larger (n extra : ℕ) : Type 0 where
    pub choice : ℕ → Bool
    pub many : count_where choice n ≡ count_where chosen n + extra
    pub sum : sum_where chosen a f n + extra * least ≤ sum_where choice a f n

  next : (n k more : ℕ) (b : Bool) (x : Larger n k) →
      count_where x.choice n + (if b then 1 else 0) ≡ count_where chosen (suc n) + more →
      sum_where chosen a f (suc n) + more * least ≤ sum_where x.choice a f n + (if b then a (f n) else 0) → Larger (suc n) more
  next n k more b x many sum =
      record { choice = at n b x.choice; many = count_last x.choice n b ∙ many; sum = rw (sum_last x.choice n b a f) sum }

  abbrev Each : ℕ → Type 0
  Each n = (i : ℕ) → i < n → among i ≡ true → least ≤ a (f i)

  abbrev Grows : ℕ → Type 0
  Grows n = (extra : ℕ) → count_where chosen n + extra ≤ count_where either n → Larger n extra

  step : (n extra : ℕ) → Each (suc n) → Grows n → (b c : Bool) → chosen n ≡ b → among n ≡ c →
      count_where chosen n + (if b then 1 else 0) + suc extra ≤ count_where either n + (if b || c then 1 else 0) →
      Larger (suc n) (suc extra)
  unfolding count_where count_of sum_where sum_of pass
  step n extra each grows true c here also room =
      let x = grows (suc extra) (omega arith) in
      next n (suc extra) (suc extra) true x (rw here (omega (arith, x.many))) (rw here (omega (arith, x.sum)))
  step n extra each grows false false here also room =
      let x = grows (suc extra) (omega arith) in
      next n (suc extra) (suc extra) false x (rw here (omega (arith, x.many))) (rw here (omega (arith, x.sum)))
  step n extra each grows false true here also room =
      let x = grows extra (omega arith) in
      next n extra (suc extra) true x (rw here (omega (arith, x.many)))
      (rw (here, suc-mul extra least) (omega (arith, x.sum, each n (omega arith) also)))

  pub larger : (n : ℕ) → Each n → Grows n
  unfolding count_where count_of sum_where sum_of pass
  larger n each zero room = record { choice = chosen; many = omega arith; sum = omega arith }
  larger zero each (suc extra) room = absurd (omega arith)
  larger (suc n) each (suc extra) room =
      step n extra each (larger n (λ i below. each i (omega arith))) (chosen n) (among n) refl refl room
