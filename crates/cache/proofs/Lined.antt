-- What a lookup says: one that finds a line gives the place of a record on that line, and in a memory whose states name lines that
-- are there the line lies inside. Assumes nothing.
use Prim.Native.Nat.{ℕ, ◌<◌}
use mathlib.Core.Path.{◌≡◌, refl}
use mathlib.Core.Bool.{Bool, true, false}
use native.Mathlib.Omega.{arith}
use borrow.Author.Tests.{ltb-true}
use Rattle.rules.specs.declared.Record.{Record}
use Rattle.rules.specs.Pass.{Found}
use Rattle.std.specs.Prelude.{Some, None}
use Rattle.rules.specs.declared.Lookup.TheVariants.{Unlined, Lined}
use Rattle.std.specs.Prelude.{if◌then◌else◌}
use Rattle.rules.specs.Table.{Memory, is_lined, is_filled, line_of, key_record, lookup, looked_up, places, size, line_total}
use Rattle.rules.specs.Calls.{most_records}
use Rattle.rules.proofs.Finds.{key_found}
use Rattle.lines.specs.Room.{LinesFit}

-- the record at place i is on line n
pub record IsOn (m : Memory) (i n : ℕ) : Type 0 where
  pub inside : i < size m
  pub lined : is_lined (places m i) ≡ true
  pub line : line_of (places m i) ≡ n
  pub few : n < most_records
  pub room : n < line_total m

module _ (m : Memory) (key i n : ℕ) (full : Bool) (ticket : ℕ) (fits : LinesFit m) where
  on_record : (r : Record) → i < size m → r ≡ places m i → is_lined r ≡ true → line_of r ≡ n → IsOn m i n
  unfolding is_lined line_of
  on_record r inside is lined line =
      let most = fits.state i inside in
      let more : 1 < (places m i).state = ltb-true _ _ (rw is at lined) in
      let at_line : line_of (places m i) ≡ n = rw is at line in
      record { inside = inside; lined = rw is at lined; line = at_line; few = omega (arith, fits.lines); room = omega arith }

  pub lined_at : lookup (places m) (size m) key ≡ Lined i n full ticket → IsOn m i n
  unfolding lookup looked_up
  lined_at e = found (key_record key (places m) (size m)) refl e
    where
      found : (x : Found) → key_record key (places m) (size m) ≡ x → looked_up x ≡ Lined i n full ticket → IsOn m i n
      found None k e = let z : ◌≡◌ {A = ℕ} 0 1 = cc in absurd (omega arith)
      found (Some (j, r)) k e = line (is_lined r) refl e
        where
          line : (b : Bool) → is_lined r ≡ b → (if b then Lined j (line_of r) (is_filled r) r.ticket else Unlined) ≡ Lined i n full ticket → IsOn m i n
          line true l e =
              let h = key_found (places m) (size m) key j r k in
              let same : j ≡ i = cc in
              on_record r (rw same at h.inside) (rw same at h.is) l (cc)
          line false l e = let z : ◌≡◌ {A = ℕ} 0 1 = cc in absurd (omega arith)
