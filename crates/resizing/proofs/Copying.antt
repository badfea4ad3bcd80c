-- What the loops that copy need: a line's bytes are as many as a picture has, and a record's place and line are inside. Assumes nothing.
use Prim.Native.Nat.{ℕ, ◌<◌}
use mathlib.Core.Path.{◌≡◌}
use mathlib.Core.List.{List}
use native.Mathlib.Omega.{arith}
use lib.ListN.{length, length-take, length-drop}
use mathlib.Core.Bool.{true}
use Rattle.rules.specs.declared.Record.{Record}
use Rattle.rules.specs.Table.{is_tracked, is_lined, line_of}
use Rattle.resizing.specs.Resize.{place_of, line_for}
use Rattle.resizing.specs.Room.{PackFits}
use Rattle.rules.proofs.Places.{length-put_line}
use Rattle.resizing.proofs.Counts.{count_before}
use Rattle.rules.specs.Bytes.{line_size, line_count, line_at, put_line}

pub line_length : (lines : List ℕ) (n : ℕ) → n < line_count lines → length (line_at lines n) ≡ line_size
unfolding line_at line_count
line_length lines n inside = rw (length-take, length-drop) (omega arith)

pub put_line_length : (lines : List ℕ) (n : ℕ) (picture : List ℕ) → n < line_count lines → length picture ≡ line_size →
    length (put_line lines n picture) ≡ length lines
put_line_length = length-put_line

-- what is kept has room in the target
module _ (f : ℕ → Record) (n lines to_records to_lines i : ℕ) (fits : PackFits f n lines to_records to_lines) (inside : i < n) where
  pub has_place : is_tracked (f i) ≡ true → place_of f i < to_records
  unfolding place_of
  has_place tracked = omega (arith, fits.tracked, count_before is_tracked f i n inside tracked)

  pub has_line : is_lined (f i) ≡ true → (line_for f i < to_lines) × (line_of (f i) < lines)
  unfolding line_for
  has_line lined = (omega (arith, fits.lined, count_before is_lined f i n inside lined), fits.line i inside lined)
