-- Two laws of which of four is due: what holds of each where it may be due holds of the one; and what is made of the one is the one of
-- what is made of each. Assumes nothing.
use Prim.Native.Nat.{ℕ, ◌*◌}
use mathlib.Core.Path.{◌≡◌, refl}
use mathlib.Core.Bool.{Bool, true, false, ◌&&◌}
use mathlib.Core.List.{List}
use lib.Dec.{eqb, leb}
use Rattle.std.specs.Prelude.{if◌then◌else◌}
use Rattle.rules.specs.Calls.{most_records}
use Rattle.scaler.specs.declared.Epoch.{Epoch}
use Rattle.scaler.specs.Scale.{grow_due, on_below, off_below, off_above, decided}

module _ (lookups : List ℕ) (e : Epoch) where
  pub holds_of : {A : Type 0} (P : A → Type 0) (grow shrink age stay : A) → (leb (2 * e.records) most_records ≡ true → P grow) →
      (eqb e.lines 1 ≡ false → P shrink) → P age → P stay → P (decided lookups e grow shrink age stay)
  unfolding decided
  holds_of P grow shrink age stay grows shrinks ages stays =
      go (grow_due lookups e) (leb (2 * e.records) most_records) (on_below e && off_below e) (eqb e.lines 1) (on_below e && off_above e)
      grows shrinks
    where
      go : (a b c d x : Bool) → (b ≡ true → P grow) → (d ≡ false → P shrink) →
          P (if a then if b then grow else stay else if c then if d then stay else shrink else if x then age else stay)
      go true true c d x g s = g refl
      go true false c d x g s = stays
      go false b true true x g s = stays
      go false b true false x g s = s refl
      go false b false d true g s = ages
      go false b false d false g s = stays

  pub made_of : {A B : Type 0} (f : A → B) (grow shrink age stay : A) →
      f (decided lookups e grow shrink age stay) ≡ decided lookups e (f grow) (f shrink) (f age) (f stay)
  unfolding decided
  made_of f grow shrink age stay =
      go (grow_due lookups e) (leb (2 * e.records) most_records) (on_below e && off_below e) (eqb e.lines 1) (on_below e && off_above e)
    where
      go : (a b c d x : Bool) →
          f (if a then if b then grow else stay else if c then if d then stay else shrink else if x then age else stay)
          ≡ (if a then if b then f grow else f stay else if c then if d then f stay else f shrink else if x then f age else f stay)
      go true true c d x = refl
      go true false c d x = refl
      go false b true true x = refl
      go false b true false x = refl
      go false b false d true = refl
      go false b false d false = refl
