-- The hottest record without a line, by its place and its heat: the first one, and then a record further. Assumes nothing.
use Prim.Native.Nat.{ℕ, zero, suc, ◌+◌, ◌<◌}
use mathlib.Core.Path.{◌≡◌, refl, sym, ◌∙◌, ap}
use mathlib.Core.Bool.{true, false, ◌&&◌}
use native.Mathlib.Numerals.{add-one}
use native.Mathlib.Omega.{arith}
use Rattle.rules.specs.declared.Record.{Record}
use Rattle.std.specs.Prelude.{Some, None, ltb}
use Rattle.rules.specs.Pass.{pass, best, best_of, first_of}
use Rattle.rules.specs.Table.{is_unlined, hotter, hottest_unlined}
use Rattle.rules.proofs.Searches.{first_at, first_nowhere}

module _ (f : ℕ → Record) where
  none_yet : (n : ℕ) → ((j : ℕ) → j < n → is_unlined (f j) ≡ false) → hottest_unlined f n ≡ None
  unfolding hottest_unlined best_of pass best
  none_yet zero none = refl
  none_yet (suc n) none = rw (none_yet n (λ j below. none j (omega arith)), none n (omega arith)) refl

  pub none_waits : (n : ℕ) → None ≡ first_of is_unlined f n → None ≡ hottest_unlined f n
  none_waits n e = sym (none_yet n (first_nowhere is_unlined f n (sym e)))

  pub first_inside : (n i : ℕ) (r : Record) → Some (i, r) ≡ first_of is_unlined f n → i < n
  first_inside n i r e = (first_at is_unlined f n i r (sym e)).inside

  -- the place i holds the hottest of the first n
  pub record Hottest (n i heat : ℕ) : Type 0 where
    pub is : Some (i, f i) ≡ hottest_unlined f n
    pub heat_is : heat ≡ (f i).heat

  pub first_waits : (n i : ℕ) (r : Record) → Some (i, r) ≡ first_of is_unlined f n → Hottest (i + 1) i r.heat
  unfolding hottest_unlined best_of pass best
  first_waits n i r e =
      let h = first_at is_unlined f n i r (sym e) in
      record {
        is = rw (add-one, none_yet i h.before, ap is_unlined (sym h.is) ∙ h.passes) refl;
        heat_is = ap (λ (r : Record). r.heat) h.is;
      }

  pub hottest_is : (n i heat : ℕ) (r : Record) → Hottest n i heat → r ≡ f i → Some (i, r) ≡ hottest_unlined f n
  hottest_is n i heat r h read = rw read h.is

  module _ (i b most : ℕ) (r : Record) (so_far : Hottest i b most) (read : r ≡ f i) where
    pub hotter_moves : (is_unlined r && ltb most r.heat) ≡ true → Hottest (i + 1) i r.heat
    unfolding hottest_unlined best_of pass best hotter
    hotter_moves wins =
        record { is = rw (add-one, ← so_far.is, ← so_far.heat_is, ← read, wins) refl; heat_is = ap (λ (r : Record). r.heat) read }

    pub hotter_stays : (is_unlined r && ltb most r.heat) ≡ false → Hottest (i + 1) b most
    unfolding hottest_unlined best_of pass best hotter
    hotter_stays loses =
        record { is = rw (add-one, ← so_far.is, ← so_far.heat_is, ← read, loses) refl; heat_is = so_far.heat_is }
