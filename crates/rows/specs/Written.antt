-- Bytes written into a buffer from a place.
use Rattle.std.specs.Prelude.{ℕ, ◌+◌, ◌≤◌, ◌≡◌, List, ◌++◌, length, take, drop}
use Rattle.rows.specs.declared.Rows.{Rows}

-- the most bytes that a row takes
abbrev pub row_size : ℕ
row_size = 92

unfoldable pub written : List ℕ → ℕ → List ℕ → List ℕ
written out at bytes = take at out ++ (bytes ++ drop (at + length bytes) out)

-- so many bytes have room after those that are written
abbrev pub HasRoom : Rows → ℕ → Type 0
HasRoom rows n = rows.end + n ≤ length rows.out.now

-- what a writer leaves: the same loan, as long as it was, with its bytes written from where the end was, and the end after them
pub record Puts (was : Rows) (bytes : List ℕ) (is : Rows) : Type 0 where
  pub same_lent : is.out.ghost_name ≡ was.out.ghost_name
  pub same_length : length is.out.now ≡ length was.out.now
  pub ends : is.end ≡ was.end + length bytes
  pub holds : is.out.now ≡ written was.out.now was.end bytes
