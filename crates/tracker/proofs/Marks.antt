-- Laws of the marks: no mark is right before the first record, each record on a line marks it, once every record is passed the lowest
-- unmarked line is the lowest unused one, and the first mark that is false is its mark.
-- Assumes nothing.
use Prim.Native.Nat.{ℕ, zero, suc, ◌+◌, ◌≤◌, ◌<◌}
use mathlib.Core.Path.{◌≡◌, refl, sym}
use mathlib.Core.Bool.{Bool, true, false, not}
use mathlib.Core.List.{List}
use native.Mathlib.Decide.{ℕ_discrete}
use native.Mathlib.Omega.{arith}
use borrow.Author.Tests.{eq-eqb, ne_eqb}
use lib.ListN.{length, get_or, set, replicate, take, length-set}
use lib.Seq.{get_or-set_same, get_or-set_other}
use Rattle.rules.specs.declared.Record.{Record}
use Rattle.std.specs.List.{position_or_len, position}
use native.Mathlib.Numerals.{add-one}
use Rattle.std.proofs.lemmas.List.Sums.{position_or_len_is}
use Rattle.std.proofs.lemmas.Grind.{common_steps}
use Rattle.rules.specs.Pass.{pass, any_of, lowest_not}
use Rattle.rules.proofs.Searches.{lowest_within, lowest_fails, lowest_before}
use Rattle.rules.specs.Table.{is_lined, line_of, is_on, is_used, lowest_unused}
use Rattle.tracker.specs.Claiming.{below}
use Rattle.tracker.specs.Marks.{Unmarked, Marks, lowest_unmarked}

pub none_marked : (n : ℕ) → Unmarked (replicate n false)
none_marked n = record { clear = false_at n }
  where
    false_at : (n i : ℕ) → get_or {A = Bool} (replicate n false) i false ≡ false
    false_at zero i = refl
    false_at (suc n) zero = refl
    false_at (suc n) (suc i) = false_at n i

pub marks_none : (f : ℕ → Record) (used : List Bool) → Unmarked used → Marks f 0 used
unfolding is_used any_of pass
marks_none f used h = record { marked = λ line below. h.clear line }

-- a record that is on a line marks it
pub marks_line : (f : ℕ → Record) (n : ℕ) (used : List Bool) → Marks f n used → is_lined (f n) ≡ true →
    Marks f (n + 1) (set used (line_of (f n)) true)
unfolding is_used any_of pass is_on
marks_line f n used so_far lined =
    record {
      marked =
          λ line below.
          let inside : line < length used = rw length-set at below in
          elim (ℕ_discrete (line_of (f n)) line) [
            | yes e ↦ rw (add-one, e, get_or-set_same used line true false, lined, eq-eqb line line refl) refl
            | no e ↦ rw (add-one, get_or-set_other used _ line true false (λ q. e (sym q)), lined, ne_eqb (line_of (f n)) line e) (so_far.marked line inside)
          ];
    }

-- one that is on none marks nothing
pub marks_stay : (f : ℕ → Record) (n : ℕ) (used : List Bool) → Marks f n used → is_lined (f n) ≡ false → Marks f (n + 1) used
unfolding is_used any_of pass is_on
marks_stay f n used so_far unlined = record { marked = λ line below. rw (add-one, unlined) (so_far.marked line below) }

module _ (f : ℕ → Record) (n : ℕ) (used : List Bool) (marks : Marks f n used) where
  pub lowest_unmarked_unused : (lines : ℕ) → lines ≤ length used → lowest_unmarked used lines ≡ lowest_unused f n lines
  unfolding lowest_unmarked lowest_unused lowest_not
  lowest_unmarked_unused zero all = refl
  lowest_unmarked_unused (suc line) all =
      rw (lowest_unmarked_unused line (omega arith), marks.marked line (omega arith))

-- the first false among the marks of so many lines is that of the lowest unmarked one
module _ (used : List Bool) (lines : ℕ) (inside : lines ≤ length used) where
  marks_length : length (take lines used) ≡ lines
  marks_length = grind (arith, common_steps)

  first_clear : position_or_len not (take lines used) ≡ lowest_unmarked used lines
  unfolding lowest_unmarked
  first_clear =
      let marks = take lines used in
      let at : ℕ → Bool = λ line. get_or used line false in
      let mark_of : (k : ℕ) → k < lines → get_or marks k false ≡ at k = λ k below. grind (arith, common_steps) in
      let size = marks_length in
      let within = lowest_within at lines in
      position_or_len_is not marks (lowest_unmarked used lines) false (omega arith)
      (λ k before. let h = lowest_before at lines k before in let e = mark_of k (omega arith) in grind arith)
      (λ below. let h = lowest_fails at lines (omega arith) in let e = mark_of (lowest_unmarked used lines) (omega arith) in grind arith)

  pub clear_is_unmarked : position not (take lines used) ≡ below lines (lowest_unmarked used lines)
  clear_is_unmarked = rw (first_clear, marks_length)
