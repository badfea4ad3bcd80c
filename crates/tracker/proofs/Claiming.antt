-- The coldest record on a line, a record further, by heats: the largest number stands for none. Assumes nothing.
use Prim.Native.Nat.{ℕ, ◌+◌, ◌≤◌, ◌<◌}
use mathlib.Core.Path.{◌≡◌, refl}
use mathlib.Core.Bool.{true, false, ◌&&◌}
use native.Mathlib.Numerals.{add-one}
use native.Mathlib.Omega.{arith}
use borrow.Author.Tests.{lt-ltb, le-ltb}
use Rattle.rules.specs.declared.Record.{Record}
use Rattle.std.specs.Prelude.{Some, None, ltb, if◌then◌else◌}
use Rattle.std.proofs.lemmas.Grind.{common_steps}
use Rattle.rules.specs.Pass.{Found, pass, best, best_of}
use Rattle.rules.specs.Table.{is_lined, colder, coldest_lined}
use Rattle.tracker.specs.Claiming.{largest, heat_of, held_at}

-- whether a record is the coldest on a line, by its heat and that of the one found, or the largest number where there is none
coldest_by_heat : (i : ℕ) (r : Record) (heat : ℕ) (found : Found) → r.heat < largest → heat ≡ heat_of found →
    best is_lined colder found i r ≡ (if is_lined r && ltb r.heat heat then Some (i, r) else found)
unfolding best colder heat_of
coldest_by_heat i r heat None below is = grind (arith, common_steps)
coldest_by_heat i r heat (Some (j, s)) below is = rw is refl

-- the coldest record on a line, a record further
module _ (f : ℕ → Record) (n : ℕ) where
  pub coldest_none : (held_at f n n ≡ coldest_lined f 0) × (largest ≡ heat_of (held_at f n n))
  unfolding coldest_lined best_of pass heat_of
  coldest_none = (rw (le-ltb n n (omega arith)) refl, rw (le-ltb n n (omega arith)) refl)

  module _ (i best least : ℕ) (r : Record) (read : r ≡ f i) (below : r.heat < largest)
      (so_far : held_at f n best ≡ coldest_lined f i) (heat : least ≡ heat_of (held_at f n best)) where
    coldest_next : coldest_lined f (i + 1) ≡ (if is_lined r && ltb r.heat least then Some (i, r) else held_at f n best)
    unfolding coldest_lined best_of pass
    coldest_next = rw (add-one, ← so_far, ← read) (coldest_by_heat i r least (held_at f n best) below heat)

    pub coldest_moves : i < n → is_lined r ≡ true → r.heat < least →
        (held_at f n i ≡ coldest_lined f (i + 1)) × (r.heat ≡ heat_of (held_at f n i))
    unfolding heat_of
    coldest_moves inside lined colder = (
      rw (coldest_next, lined, lt-ltb r.heat least colder, lt-ltb i n inside, read) refl,
      rw (lt-ltb i n inside, read) refl,
    )

    pub coldest_stays : least ≤ r.heat → held_at f n best ≡ coldest_lined f (i + 1)
    coldest_stays warmer = rw coldest_next (grind (arith, common_steps))

    pub coldest_off : is_lined r ≡ false → held_at f n best ≡ coldest_lined f (i + 1)
    coldest_off unlined = rw (coldest_next, unlined) refl
