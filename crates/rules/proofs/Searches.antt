-- Laws of the passes, once for every test and order: what a search that found a place says of it and of every other, what it says
-- where it found none, and how sums and counts compare by place. Each by induction on the elements passed.
-- Assumes nothing.
use Prim.Native.Nat.{ℕ, zero, suc, ◌+◌, ◌*◌, ◌/◌, ◌≤◌, ◌<◌}
use mathlib.Core.Path.{◌≡◌, refl, sym, ◌∙◌, ap}
use mathlib.Core.Bool.{Bool, true, false, ◌&&◌, true≢false}
use mathlib.Core.Logic.{◌≢◌}
use native.Mathlib.Nat.{add-zero, add-suc, mul-one, suc-mul}
use native.Mathlib.Decide.{ℕ_discrete}
use native.Mathlib.Omega.{arith}
use borrow.Author.Tests.{ltb-true, ltb-false}
use lib.Dec.{ltb}
use Rattle.rules.specs.declared.Record.{Record}
use Rattle.rules.specs.Pass.{Found}
use Rattle.std.specs.Prelude.{Some, None}
use Rattle.std.specs.Prelude.{if◌then◌else◌}
use Rattle.rules.specs.Pass.{pass, first, best, first_of, best_of, sum_of, count_of, all_of, any_of, lowest_not}

-- no test both passes and fails
pub clash : {A : Type 0} {b : Bool} → b ≡ true → b ≡ false → A
clash passes fails = absurd (true≢false (sym passes ∙ fails))

-- what holds below n and at n holds below the next
up_to : (P : ℕ → Type 0) (n : ℕ) → ((i : ℕ) → i < n → P i) → P n → (i : ℕ) → i < suc n → P i
up_to P n below here i h = elim (ℕ_discrete i n) [ yes e ↦ rw e here | no e ↦ below i (omega arith) ]

-- a pass looks at the records below n alone
pub pass_same : {A B : Type 0} (step : A → ℕ → B → A) (held : A) (f g : ℕ → B) (n : ℕ) →
    ((i : ℕ) → i < n → f i ≡ g i) → pass step held f n ≡ pass step held g n
unfolding pass
pass_same step held f g zero same = refl
pass_same step held f g (suc n) same =
    cc (pass_same step held f g n (λ i below. same i (omega arith)), same n (omega arith))

-- ---- the first that passes a test
module _ (test : Record → Bool) (f : ℕ → Record) where
  pub record IsFirst (n i : ℕ) (r : Record) : Type 0 where
    pub inside : i < n
    pub is : r ≡ f i
    pub passes : test r ≡ true
    pub before : (j : ℕ) → j < i → test (f j) ≡ false

  -- what a search of n records says, by what it found
  abbrev First : ℕ → Found → Type 0
  First n None = (i : ℕ) → i < n → test (f i) ≡ false
  First n (Some (i, r)) = IsFirst n i r

  first_step : (n : ℕ) (x : Found) → First n x → First (suc n) (first test x n (f n))
  unfolding first
  first_step n None none = go (test (f n)) refl
    where
      go : (b : Bool) → test (f n) ≡ b → First (suc n) (if b then Some (n, (f n)) else None)
      go true e = record { inside = omega arith; is = refl; passes = e; before = none }
      go false e = up_to _ n none e
  first_step n (Some (i, r)) h = record { inside = omega arith; is = h.is; passes = h.passes; before = h.before }

  first_is : (n : ℕ) → First n (first_of test f n)
  unfolding first_of pass
  first_is zero = λ i below. absurd (omega arith)
  first_is (suc n) = first_step n (first_of test f n) (first_is n)

  pub first_at : (n i : ℕ) (r : Record) → first_of test f n ≡ Some (i, r) → IsFirst n i r
  first_at n i r e = rw e at (first_is n)

  pub first_nowhere : (n : ℕ) → first_of test f n ≡ None → (i : ℕ) → i < n → test (f i) ≡ false
  first_nowhere n e = rw e at (first_is n)

  -- once found, it stays
  pub first_found : (n i : ℕ) → i < n → test (f i) ≡ true → ((j : ℕ) → j < i → test (f j) ≡ false) → first_of test f n ≡ Some (i, (f i))
  first_found n i below passes before = go (first_of test f n) (first_is n)
    where
      go : (x : Found) → First n x → x ≡ Some (i, (f i))
      go None none = clash passes (none i below)
      go (Some (j, r)) h =
          let not_before : ¬ (j < i) = λ l. clash h.passes (ap test h.is ∙ before j l) in
          let not_after : ¬ (i < j) = λ l. clash passes (h.before i l) in
          let e : j ≡ i = omega arith in
          cc

-- ---- the best that passes a test, first among equals
module _ (test : Record → Bool) (beats : Record → Record → Bool) (f : ℕ → Record) where
  pub record IsBest (n i : ℕ) (r : Record) : Type 0 where
    pub inside : i < n
    pub is : r ≡ f i
    pub passes : test r ≡ true
    pub unbeaten : (j : ℕ) → j < n → test (f j) ≡ true → beats (f j) r ≡ false
    -- it beats all before it, so no equal stands before it
    pub before : (j : ℕ) → j < i → test (f j) ≡ true → beats r (f j) ≡ true

  -- what a search of n records says, by what it found
  abbrev Best : ℕ → Found → Type 0
  Best n None = (i : ℕ) → i < n → test (f i) ≡ false
  Best n (Some (i, r)) = IsBest n i r

-- in an order by which what beats another beats all that do not beat that other
module _ (test : Record → Bool) (beats : Record → Record → Bool)
    (over : (r s t : Record) → beats r s ≡ true → beats t s ≡ false → beats r t ≡ true)
    (one_way : (r s : Record) → beats r s ≡ true → beats s r ≡ false)
    (never : (r : Record) → beats r r ≡ false) (f : ℕ → Record) where
  best_step : (n : ℕ) (x : Found) → Best test beats f n x → Best test beats f (suc n) (best test beats x n (f n))
  unfolding best
  best_step n None none = go (test (f n)) refl
    where
      go : (b : Bool) → test (f n) ≡ b → Best test beats f (suc n) (if b then Some (n, (f n)) else None)
      go true e =
          record {
            inside = omega arith;
            is = refl;
            passes = e;
            unbeaten = up_to _ n (λ j below passes. clash passes (none j below)) (λ passes. never (f n));
            before = λ j below passes. clash passes (none j below);
          }
      go false e = up_to _ n none e
  best_step n (Some (i, r)) h = go (test (f n)) (beats (f n) r) refl refl
    where
      kept : (test (f n) ≡ true → beats (f n) r ≡ false) → IsBest test beats f (suc n) i r
      kept last =
          record {
            inside = omega arith;
            is = h.is;
            passes = h.passes;
            unbeaten = up_to _ n h.unbeaten last;
            before = h.before;
          }

      go : (b w : Bool) → test (f n) ≡ b → beats (f n) r ≡ w → Best test beats f (suc n) (if b && w then Some (n, (f n)) else Some (i, r))
      go true true e wins =
          let beaten : (j : ℕ) → j < n → test (f j) ≡ true → beats (f n) (f j) ≡ true =
          λ j below passes. over (f n) r (f j) wins (h.unbeaten j below passes) in
          record {
            inside = omega arith;
            is = refl;
            passes = e;
            unbeaten = up_to _ n (λ j below passes. one_way (f n) (f j) (beaten j below passes)) (λ passes. never (f n));
            before = beaten;
          }
      go true false e loses = kept (λ passes. loses)
      go false w e any = kept (λ passes. clash passes e)

  best_is : (n : ℕ) → Best test beats f n (best_of test beats f n)
  unfolding best_of pass
  best_is zero = λ i below. absurd (omega arith)
  best_is (suc n) = best_step n (best_of test beats f n) (best_is n)

  pub best_at : (n i : ℕ) (r : Record) → best_of test beats f n ≡ Some (i, r) → IsBest test beats f n i r
  best_at n i r e = rw e at (best_is n)

  pub best_nowhere : (n : ℕ) → best_of test beats f n ≡ None → (i : ℕ) → i < n → test (f i) ≡ false
  best_nowhere n e = rw e at (best_is n)

  -- there is one such place, and it is found
  pub best_found : (n i : ℕ) → IsBest test beats f n i (f i) → best_of test beats f n ≡ Some (i, (f i))
  best_found n i b = go (best_of test beats f n) (best_is n)
    where
      go : (x : Found) → Best test beats f n x → x ≡ Some (i, (f i))
      go None none = clash b.passes (none i b.inside)
      go (Some (j, r)) h =
          let passes : test (f j) ≡ true = ap test (sym h.is) ∙ h.passes in
          let not_before : ¬ (j < i) = λ l. clash (b.before j l passes) (ap (beats (f i)) (sym h.is) ∙ h.unbeaten i b.inside b.passes) in
          let not_after : ¬ (i < j) =
          λ l. clash (ap (λ (s : Record). beats s (f i)) (sym h.is) ∙ h.before i l b.passes) (b.unbeaten j h.inside passes) in
          let e : j ≡ i = omega arith in
          cc

-- ---- all and any
pub both : (a b : Bool) → (a && b) ≡ true → (a ≡ true) × (b ≡ true)
both true b e = (refl, e)
both false b e = clash e refl

module _ {B : Type 0} (test : B → Bool) (f : ℕ → B) where
  pub all_at : (n : ℕ) → all_of test f n ≡ true → (i : ℕ) → i < n → test (f i) ≡ true
  unfolding all_of pass
  all_at zero e = λ i below. absurd (omega arith)
  all_at (suc n) e = let h = both (all_of test f n) (test (f n)) e in up_to _ n (all_at n h.0) h.1

  pub all_of_lem : (n : ℕ) → ((i : ℕ) → i < n → test (f i) ≡ true) → all_of test f n ≡ true
  unfolding all_of pass
  all_of_lem zero each = refl
  all_of_lem (suc n) each = rw (all_of_lem n (λ i below. each i (omega arith))) (each n (omega arith))

  -- what a pass of n records says, by its value
  abbrev Any : ℕ → Bool → Type 0
  Any n true = (i : ℕ) × (i < n) × (test (f i) ≡ true)
  Any n false = (i : ℕ) → i < n → test (f i) ≡ false

  any_step : (n : ℕ) (b so_far : Bool) → test (f n) ≡ b → Any n so_far → Any (suc n) (if b then true else so_far)
  any_step n true so_far e h = (n, omega arith, e)
  any_step n false true e h = (h.0, omega arith, h.2)
  any_step n false false e h = up_to _ n h e

  any_is : (n : ℕ) → Any n (any_of test f n)
  unfolding any_of pass
  any_is zero = λ i below. absurd (omega arith)
  any_is (suc n) = any_step n (test (f n)) (any_of test f n) refl (any_is n)

  pub any_at : (n i : ℕ) → i < n → test (f i) ≡ true → any_of test f n ≡ true
  any_at n i below passes = go (any_of test f n) (any_is n)
    where
      go : (b : Bool) → Any n b → b ≡ true
      go true h = refl
      go false none = clash passes (none i below)

  pub any_none : (n : ℕ) → ((i : ℕ) → i < n → test (f i) ≡ false) → any_of test f n ≡ false
  any_none n none = go (any_of test f n) (any_is n)
    where
      go : (b : Bool) → Any n b → b ≡ false
      go true h = clash h.2 (none h.0 h.1)
      go false h = refl

  pub none_any : (n : ℕ) → any_of test f n ≡ false → (i : ℕ) → i < n → test (f i) ≡ false
  none_any n e = rw e at (any_is n)

-- ---- the lowest number at which a test fails
module _ (test : ℕ → Bool) where
  record IsLowest (n k : ℕ) : Type 0 where
    within : k ≤ n
    fails : k < n → test k ≡ false
    before : (i : ℕ) → i < k → test i ≡ true

  lowest_step : (n k : ℕ) (l b : Bool) → ltb k n ≡ l → test n ≡ b → IsLowest n k →
      IsLowest (suc n) (if l then k else if b then suc n else n)
  lowest_step n k true b l e h =
      let l : k < n = ltb-true k n l in
      record { within = omega arith; fails = λ below. h.fails l; before = h.before }
  lowest_step n k false true l e h =
      let l : k ≡ n = omega (arith, ltb-false k n l) in
      record { within = omega arith; fails = λ below. absurd (omega arith); before = up_to _ n (rw l at h.before) e }
  lowest_step n k false false l e h =
      let l : k ≡ n = omega (arith, ltb-false k n l) in
      record { within = omega arith; fails = λ below. e; before = rw l at h.before }

  lowest_is : (n : ℕ) → IsLowest n (lowest_not test n)
  unfolding lowest_not
  lowest_is zero =
      record { within = omega arith; fails = λ below. absurd (omega arith); before = λ i below. absurd (omega arith) }
  lowest_is (suc n) = lowest_step n (lowest_not test n) (ltb (lowest_not test n) n) (test n) refl refl (lowest_is n)

  pub lowest_within : (n : ℕ) → lowest_not test n ≤ n
  lowest_within n = (lowest_is n).within

  pub lowest_fails : (n : ℕ) → lowest_not test n < n → test (lowest_not test n) ≡ false
  lowest_fails n below = (lowest_is n).fails below

  pub lowest_before : (n i : ℕ) → i < lowest_not test n → test i ≡ true
  lowest_before n i below = (lowest_is n).before i below

  -- it is the one with all before it passing
  pub lowest_found : (n i : ℕ) → i < n → test i ≡ false → ((j : ℕ) → j < i → test j ≡ true) → lowest_not test n ≡ i
  lowest_found n i below fails before =
      let k = lowest_not test n in
      let not_before : ¬ (k < i) = λ l. clash (before k l) (lowest_fails n (omega arith)) in
      let not_after : ¬ (i < k) = λ l. clash (lowest_before n i l) fails in
      omega arith

  pub lowest_none : (n : ℕ) → ((j : ℕ) → j < n → test j ≡ true) → lowest_not test n ≡ n
  lowest_none n all =
      let not_below : ¬ (lowest_not test n < n) = λ l. clash (all _ l) (lowest_fails n l) in
      omega (arith, lowest_within n)

-- ---- sums and counts
module _ {B : Type 0} (amount : B → ℕ) where
  pub sum_split : (f : ℕ → B) (a b : ℕ) → sum_of amount f (a + b) ≡ sum_of amount f a + sum_of amount (λ i. f (a + i)) b
  unfolding sum_of pass
  sum_split f a zero = rw (add-zero a) (omega arith)
  sum_split f a (suc b) = rw add-suc (omega (arith, sum_split f a b))

  pub sum_least : (f : ℕ → B) (n least : ℕ) → ((i : ℕ) → i < n → least ≤ amount (f i)) → n * least ≤ sum_of amount f n
  unfolding sum_of pass
  sum_least f zero least each = omega arith
  sum_least f (suc n) least each =
      rw (suc-mul n least) (omega (arith, sum_least f n least (λ i below. each i (omega arith)), each n (omega arith)))

  pub sum_most : (f : ℕ → B) (n most : ℕ) → ((i : ℕ) → i < n → amount (f i) ≤ most) → sum_of amount f n ≤ n * most
  unfolding sum_of pass
  sum_most f zero most each = omega arith
  sum_most f (suc n) most each =
      rw suc-mul (omega (arith, sum_most f n most (λ i below. each i (omega arith)), each n (omega arith)))

-- sums by place: each amount at most another, at most half another, or at most another but for w more at one place
module _ {B : Type 0} (a b : B → ℕ) (f g : ℕ → B) where
  pub sum_le : (n : ℕ) → ((i : ℕ) → i < n → a (f i) ≤ b (g i)) → sum_of a f n ≤ sum_of b g n
  unfolding sum_of pass
  sum_le zero each = omega arith
  sum_le (suc n) each = omega (arith, sum_le n (λ i below. each i (omega arith)), each n (omega arith))

  pub sum_halved : (n : ℕ) → ((i : ℕ) → i < n → a (f i) ≤ b (g i) / 2) → sum_of a f n ≤ sum_of b g n / 2
  unfolding sum_of pass
  sum_halved zero each = omega arith
  sum_halved (suc n) each = omega (arith, sum_halved n (λ i below. each i (omega arith)), each n (omega arith))

  pub sum_more : (n i w : ℕ) → ((j : ℕ) → j < n → j ≢ i → a (f j) ≤ b (g j)) → a (f i) ≤ b (g i) + w →
      sum_of a f n ≤ sum_of b g n + w
  unfolding sum_of pass
  sum_more zero i w each here = omega arith
  sum_more (suc n) i w each here =
      elim (ℕ_discrete n i) [
        | yes e ↦ omega (arith, sum_le n (λ j below. each j (omega arith) (omega arith)), rw (← e) at here)
        | no e ↦ omega (arith, sum_more n i w (λ j below. each j (omega arith)) here, each n (omega arith) e)
      ]

at_most_one : (b : Bool) → (if b then 1 else 0) ≤ 1
at_most_one true = omega arith
at_most_one false = omega arith

module _ {B : Type 0} (test : B → Bool) (f : ℕ → B) where
  pub count_within : (n : ℕ) → count_of test f n ≤ n
  unfolding count_of
  count_within n = rw mul-one at (sum_most (λ r. if test r then 1 else 0) f n 1 (λ i below. at_most_one (test (f i))))

  -- a count below n leaves a record out
  pub count_below : (n : ℕ) → count_of test f n < n → (i : ℕ) × (i < n) × (test (f i) ≡ false)
  unfolding count_of sum_of pass
  count_below zero below = absurd (omega arith)
  count_below (suc n) below = go (test (f n)) refl (count_below n) below
    where
      go : (b : Bool) → test (f n) ≡ b → (count_of test f n < n → (i : ℕ) × (i < n) × (test (f i) ≡ false)) →
          count_of test f n + (if b then 1 else 0) < suc n → (i : ℕ) × (i < suc n) × (test (f i) ≡ false)
      go true e earlier below = let h = earlier (omega arith) in (h.0, omega arith, h.2)
      go false e earlier below = (n, omega arith, e)
