-- The laws of bytes written into a buffer: what is written after what was written joins it, and what stands in front of the end.
-- Assumes nothing.
use Prim.Native.Nat.{ℕ, suc, ◌+◌, ◌≤◌, ◌<◌}
use mathlib.Core.List.{List, [], ◌∷◌, ◌++◌, append_assoc, append-nil}
use mathlib.Core.Path.{◌≡◌, refl}
use native.Mathlib.Omega.{arith}
use lib.ListN.{length, take, drop, set, length-append, length-take, take-append-drop}
use lib.Seq.{take_at, drop-append-add, drop-drop, set_split}
use Rattle.rules.specs.Journal.{Row, printed, printed_all}
use Rattle.rows.specs.Written.{written}

-- ---- a buffer
pub written_none : (out : List ℕ) (at : ℕ) → written out at [] ≡ out
unfolding written
written_none out at = grind (arith, take-append-drop)

pub written_one : (out : List ℕ) (at v : ℕ) → at < length out → set out at v ≡ written out at (v ∷ [])
unfolding written
written_one out at v room = let e : at + 1 ≡ suc at = omega arith in rw e (set_split out at v room)

module _ (out : List ℕ) (at : ℕ) (a : List ℕ) (room : at + length a ≤ length out) where
  front_length : length (take at out ++ a) ≡ at + length a
  front_length = simp (length-append, length-take) (omega arith)

  written_take : take (at + length a) (written out at a) ≡ take at out ++ a
  unfolding written
  written_take = rw (← append_assoc) (take_at (take at out ++ a) (drop (at + length a) out) (at + length a) front_length)

  written_drop : (n : ℕ) → drop (at + length a + n) (written out at a) ≡ drop (at + length a + n) out
  unfolding written
  written_drop n =
      rw (← append_assoc, ← front_length, drop-append-add, drop-drop, front_length)

  pub written_more : (middle : ℕ) (b : List ℕ) → middle ≡ at + length a → written (written out at a) middle b ≡ written out at (a ++ b)
  unfolding written
  written_more middle b is = rw is (grind (arith, written_take, written_drop, append_assoc, length-append))

-- what was written from the start stands in front of the end
pub written_front : (out a : List ℕ) → take (length a) (written out 0 a) ≡ a
unfolding written
written_front out a = take_at a (drop (0 + length a) out) (length a) refl

-- ---- rows
pub printed_join : (rows more : List Row) → printed_all (rows ++ more) ≡ printed_all rows ++ printed_all more
unfolding printed_all
printed_join [] more = refl
printed_join (row ∷ rows) more = rw (printed_join rows more, append_assoc)

pub printed_last : (rows : List Row) (row : Row) → printed_all (rows ++ (row ∷ [])) ≡ printed_all rows ++ printed row
unfolding printed_all
printed_last rows row = rw (printed_join rows (row ∷ []), append-nil)
