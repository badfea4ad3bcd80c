-- The search for a line: what it asks of the records, and what is found.
use Rattle.std.specs.Prelude.{ℕ, ◌+◌, ◌*◌, ◌≤◌, ◌<◌, ◌≡◌, ltb, if◌then◌else◌, Option, Some, None}
use Rattle.rules.specs.declared.Record.{Record}
use Rattle.rules.specs.Pass.{Found}
use Rattle.rules.specs.Table.{coldest_lined, lowest_unused}

-- more than any heat, and the place of no record
abbrev pub largest : ℕ
largest = 18446744073709551615

-- no heat is the largest number
abbrev pub HeatsUnder : (ℕ → Record) → ℕ → Type 0
HeatsUnder f n = (i : ℕ) → i < n → (f i).heat < largest

-- every line that a record is on is one of so many, and no heat is the largest number
pub record ClaimFits (f : ℕ → Record) (n lines : ℕ) : Type 0 where
  pub state : (i : ℕ) → i < n → (f i).state ≤ 1 + 2 * lines
  pub heat : HeatsUnder f n

unfoldable pub heat_of : Found → ℕ
heat_of None = largest
heat_of (Some (i, r)) = r.heat

-- the record at a place, if that is below n
abbrev pub held_at : (ℕ → Record) → ℕ → ℕ → Found
held_at f n place = if ltb place n then Some (place, f place) else None

-- a number, if it is below most
abbrev pub below : ℕ → ℕ → Option ℕ
below most n = if ltb n most then Some n else None

pub record IsClaim (f : ℕ → Record) (n lines : ℕ) (line : Option ℕ) (coldest : Found) : Type 0 where
  pub line_is : line ≡ below lines (lowest_unused f n lines)
  pub coldest_is : coldest ≡ coldest_lined f n
