-- Algorithm 3, case by case, with each cross product written out: which answer an accepted epoch has.
-- Assumes nothing but what each says.
use Prim.Native.Nat.{ℕ, ◌+◌, ◌-◌, ◌*◌, ◌/◌, ◌≤◌, ◌<◌}
use mathlib.Core.Path.{◌≡◌, refl}
use mathlib.Core.Bool.{Bool, true, false, ◌&&◌}
use mathlib.Core.List.{List}
use mathlib.Core.Logic.{inl, inr}
use native.Mathlib.Omega.{arith}
use borrow.Author.Tests.{lt-ltb, le-ltb, le-leb, lt-leb, eq-eqb, ne_eqb}
use Rattle.std.specs.Prelude.{Ok}
use Rattle.rules.specs.Calls.{unless}
use Rattle.scaler.specs.declared.Epoch.{Epoch}
use Rattle.scaler.specs.declared.Scale.TheVariants.{Grow, Shrink, Age, Stay}
use Rattle.scaler.specs.Scale.{ratio, below, imbalance, on_average, off_average, tolerated, over_target, grow_due, on_below, off_below, off_above, decided, scaled, scale_verdict, scale_outcome}
use Rattle.scaler.specs.Cases.{Over, AsWarm, NotDue, OnBelow, OnEnough, OffBelow, OffAbove, OffExact}

module _ (lookups : List ℕ) (e : Epoch) (accepted : scale_verdict lookups e ≡ Ok tt) where
  -- | 2: .. twice each. .. 4: .. the new target, hits on lines over C, not reduced
  pub due_grows : Over lookups e → AsWarm e → 2 * e.records ≤ 1024 →
      scale_outcome lookups e ≡ Ok (Grow (2 * e.lines) (2 * e.records) (ratio e.on e.lines))
  unfolding scale_outcome unless scaled decided grow_due over_target below imbalance on_average off_average
  due_grows over warm fits = rw (accepted, lt-ltb _ _ over, le-ltb _ _ warm, le-leb _ _ fits) refl

  -- | a grow with twice K over 1,024 .. becomes stay
  pub due_stays : Over lookups e → AsWarm e → 1024 < 2 * e.records → scale_outcome lookups e ≡ Ok Stay
  unfolding scale_outcome unless scaled decided grow_due over_target below imbalance on_average off_average
  due_stays over warm large = rw (accepted, lt-ltb _ _ over, le-ltb _ _ warm, lt-leb _ _ large) refl

  module _ (not_due : NotDue lookups e) where
    no_grow : grow_due lookups e ≡ false
    unfolding grow_due over_target below imbalance on_average off_average
    no_grow = go not_due
      where
        go : NotDue lookups e → grow_due lookups e ≡ false
        go (inl within) = rw (le-ltb _ _ within) refl
        go (inr colder) = rw (lt-ltb _ _ colder) (either (over_target lookups e))
          where
            either : (b : Bool) → (b && false) ≡ false
            either true = refl
            either false = refl

    -- | 7: .. C halved down and K halved up
    pub both_shrink : OnBelow e → OffBelow e → 2 ≤ e.lines → scale_outcome lookups e ≡ Ok (Shrink (e.lines / 2) ((e.records + 1) / 2))
    unfolding scale_outcome unless scaled decided on_below off_below below on_average off_average tolerated
    both_shrink on off several =
        rw (accepted, no_grow, lt-ltb _ _ on, lt-ltb _ _ off, ne_eqb e.lines 1 (λ one. omega (arith, several, one))) refl

    -- | a shrink with C 1, becomes stay
    pub both_stay : OnBelow e → OffBelow e → e.lines ≡ 1 → scale_outcome lookups e ≡ Ok Stay
    unfolding scale_outcome unless scaled decided on_below off_below below on_average off_average tolerated
    both_stay on off one = rw (accepted, no_grow, lt-ltb _ _ on, lt-ltb _ _ off, eq-eqb e.lines 1 one) refl

    -- | 9
    pub off_ages : OnBelow e → OffAbove e → scale_outcome lookups e ≡ Ok Age
    unfolding scale_outcome unless scaled decided on_below off_below off_above below on_average off_average tolerated
    off_ages on off = rw (accepted, no_grow, lt-ltb _ _ on, lt-ltb _ _ off, le-ltb _ _ (below_not e off)) refl
      where
        below_not : (f : Epoch) → OffAbove f →
            (1000 - f.tolerance) * f.target.over * (f.records - f.lines) ≤ f.off * (1000 * f.target.under)
        below_not f above = omega (arith, above)

    -- | Unless grow is due, an off-line average exactly at the tolerated target means stay
    pub exact_off_stays : OffExact e → scale_outcome lookups e ≡ Ok Stay
    unfolding scale_outcome unless scaled decided off_below off_above below off_average tolerated
    exact_off_stays exact = go (on_below e) refl
      where
        not_below : off_below e ≡ false
        not_below = le-ltb _ _ (omega (arith, exact))

        not_above : off_above e ≡ false
        not_above = le-ltb _ _ (omega (arith, exact))

        go : (b : Bool) → on_below e ≡ b → scale_outcome lookups e ≡ Ok Stay
        go true eb = rw (accepted, no_grow, eb, not_below, not_above) refl
        go false eb = rw (accepted, no_grow, eb) refl

    -- lines with hits enough
    pub on_stays : OnEnough e → scale_outcome lookups e ≡ Ok Stay
    unfolding scale_outcome unless scaled decided on_below below on_average tolerated
    on_stays enough = rw (accepted, no_grow, le-ltb _ _ enough) refl
