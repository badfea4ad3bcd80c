-- An accepted epoch's answer does not depend on how its two fractions are written. Assumes nothing.
use Prim.Native.Nat.{ℕ, zero, suc, ◌-◌, ◌*◌, ◌≤◌, ◌<◌}
use mathlib.Core.Path.{◌≡◌, refl, sym, ap, ◌∙◌}
use mathlib.Core.Bool.{Bool, true, false}
use mathlib.Core.List.{List}
use native.Mathlib.Omega.{arith}
use borrow.Author.Tests.{ltb-true, ltb-false}
use lib.Dec.{ltb}
use Rattle.std.specs.Prelude.{Ok}
use Rattle.std.proofs.Math.Nat.{lt_of_mul-lt-mul_right, mul-lt-mul_of_pos_right, mul_assoc, mul_left_comm, mul_right_comm, mul-mul-mul_comm, mul-le-mul_right, le_of_mul-le-mul_left}
use Rattle.rules.specs.Calls.{unless}
use Rattle.scaler.specs.declared.Ratio.{Ratio}
use Rattle.scaler.specs.declared.Epoch.{Epoch}
use Rattle.scaler.specs.Scale.{below, on_average, off_average, whole, tolerated, over_target, grow_due, on_below, off_below, off_above, decided, scaled, scale_verdict, scale_outcome}
use Rattle.scaler.specs.Bounds.{InBounds, IsFraction}
use Rattle.scaler.specs.Fractions.{Equals, times, with_fractions}
use Rattle.scaler.proofs.Bounds.{accepted_epoch, in_bounds}

-- ---- where a and b, times v, are c and d, times y
scaled_less : (a b c d v y : ℕ) → a * v ≡ c * y → b * v ≡ d * y → 1 ≤ v → a < b → c < d
scaled_less a b c d v y first second some l =
    let more : a * v < b * v = mul-lt-mul_of_pos_right l some in
    lt_of_mul-lt-mul_right y (omega (arith, first, second, more))

scaled_test : (a b c d v y : ℕ) → a * v ≡ c * y → b * v ≡ d * y → 1 ≤ v → 1 ≤ y → ltb a b ≡ ltb c d
scaled_test a b c d v y first second some also = go (ltb a b) (ltb c d) refl refl
  where
    go : (s t : Bool) → ltb a b ≡ s → ltb c d ≡ t → s ≡ t
    go true true es et = refl
    go false false es et = refl
    go true false es et =
        let l = scaled_less a b c d v y first second some (ltb-true a b es) in
        absurd (omega (arith, l, ltb-false c d et))
    go false true es et =
        let l = scaled_less c d a b y v (sym first) (sym second) also (ltb-true c d et) in
        absurd (omega (arith, l, ltb-false a b es))

-- ---- a ratio in place of an equal one
module _ (a b : Ratio) (same : Equals a b) (some : 1 ≤ a.under) (other : 1 ≤ b.under) (c : Ratio) where
  overs : a.over * c.under * b.under ≡ b.over * c.under * a.under
  overs = mul_right_comm a.over c.under b.under ∙ ap (λ n. n * c.under) same ∙ mul_right_comm b.over a.under c.under

  unders : c.over * a.under * b.under ≡ c.over * b.under * a.under
  unders = mul_right_comm c.over a.under b.under

  below_left : below a c ≡ below b c
  unfolding below
  below_left = scaled_test _ _ _ _ b.under a.under overs unders other some

  below_right : below c a ≡ below c b
  unfolding below
  below_right = scaled_test _ _ _ _ b.under a.under unders overs other some

module _ (lookups : List ℕ) (e : Epoch) (imbalance target : Ratio) (same_imbalance : Equals imbalance e.imbalance)
    (same_target : Equals target e.target) (accepted : scale_verdict lookups e ≡ Ok tt) where
  abbrev other : Epoch
  other = with_fractions imbalance target e

  module _ (also : scale_verdict lookups other ≡ Ok tt) where
    abbrev of_one : InBounds lookups e
    of_one = in_bounds lookups e accepted

    abbrev of_other : InBounds lookups other
    of_other = in_bounds lookups other also

    tolerated_same : Equals (tolerated other) (tolerated e)
    unfolding tolerated with_fractions
    tolerated_same =
        mul-mul-mul_comm (whole - e.tolerance) target.over whole e.target.under
        ∙ ap (λ n. (whole - e.tolerance) * whole * n) same_target
        ∙ sym (mul-mul-mul_comm (whole - e.tolerance) e.target.over whole target.under)

    some : 1 ≤ (tolerated other).under
    unfolding tolerated with_fractions
    some = omega (arith, of_other.target.under_some)

    also_some : 1 ≤ (tolerated e).under
    unfolding tolerated
    also_some = omega (arith, of_one.target.under_some)

    over_same : over_target lookups other ≡ over_target lookups e
    unfolding over_target with_fractions
    over_same = below_left imbalance e.imbalance same_imbalance of_other.imbalance.under_some of_one.imbalance.under_some _

    on_same : on_below other ≡ on_below e
    unfolding on_below on_average with_fractions
    on_same = below_right (tolerated other) (tolerated e) tolerated_same some also_some (on_average e)

    off_same : (off_below other ≡ off_below e) × (off_above other ≡ off_above e)
    unfolding off_below off_above off_average with_fractions
    off_same = (
      below_right (tolerated other) (tolerated e) tolerated_same some also_some (off_average e),
      below_left (tolerated other) (tolerated e) tolerated_same some also_some (off_average e),
    )

    pub equal_fractions : scale_outcome lookups other ≡ scale_outcome lookups e
    unfolding scale_outcome unless scaled decided grow_due on_average off_average with_fractions
    equal_fractions = rw (also, accepted, over_same, on_same, off_same.0, off_same.1) refl

-- ---- both parts times one number
times_same : (n : ℕ) (r : Ratio) → Equals (times n r) r
unfolding times
times_same n r = mul_assoc n r.over r.under ∙ mul_left_comm n r.over r.under

some_parts : (n m : ℕ) → 1 ≤ n * m → (1 ≤ n) × (1 ≤ m)
some_parts zero m some = absurd (omega (arith, some))
some_parts (suc n) zero some = absurd (omega (arith, some))
some_parts (suc n) (suc m) some = (omega arith, omega arith)

module _ (n : ℕ) (r : Ratio) (h : IsFraction (times n r)) where
  parts : (1 ≤ n) × (1 ≤ r.under)
  unfolding times
  parts = some_parts n r.under h.under_some

  no_more : (part : ℕ) → part ≤ n * part
  no_more part = omega (arith, mul-le-mul_right part parts.0)

  one_fraction : IsFraction r
  unfolding times
  one_fraction =
      record {
        over_few = omega (arith, h.over_few, no_more r.over);
        under_some = parts.1;
        under_few = omega (arith, h.under_few, no_more r.under);
      }

module _ (lookups : List ℕ) (e : Epoch) (i t : ℕ) where
  abbrev written : Epoch
  written = with_fractions (times i e.imbalance) (times t e.target) e

  unwritten : InBounds lookups written → InBounds lookups e
  unfolding with_fractions times
  unwritten h =
      record {
        sizes = h.sizes;
        stores_whole = h.stores_whole;
        stores_some = h.stores_some;
        stores_few = h.stores_few;
        lookups_few = h.lookups_few;
        on_few = h.on_few;
        off_few = h.off_few;
        imbalance = one_fraction i e.imbalance h.imbalance;
        imbalance_some = le_of_mul-le-mul_left {k = i} h.imbalance_some (parts i e.imbalance h.imbalance).0;
        target = one_fraction t e.target h.target;
        tolerance_few = h.tolerance_few;
      }

  -- if the multiples are in bounds, the answer is that of the epoch itself
  pub same_fraction : scale_verdict lookups written ≡ Ok tt → scale_outcome lookups written ≡ scale_outcome lookups e
  same_fraction accepted =
      equal_fractions lookups e (times i e.imbalance) (times t e.target) (times_same i e.imbalance) (times_same t e.target)
      (accepted_epoch lookups e (unwritten (in_bounds lookups written accepted))) accepted
