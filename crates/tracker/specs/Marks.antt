-- Marks of used lines: true at a line where some record is on it.
use Rattle.std.specs.Prelude.{ℕ, ◌<◌, ◌≡◌, Bool, false, List, length, get_or}
use Rattle.rules.specs.declared.Record.{Record}
use Rattle.rules.specs.Pass.{lowest_not}
use Rattle.rules.specs.Table.{is_used}

-- no mark yet
pub record Unmarked (used : List Bool) : Type 0 where
  pub clear : (line : ℕ) → get_or used line false ≡ false

-- the marks of the first n records
pub record Marks (f : ℕ → Record) (n : ℕ) (used : List Bool) : Type 0 where
  pub marked : (line : ℕ) → line < length used → get_or used line false ≡ is_used f n line

unfoldable pub lowest_unmarked : List Bool → ℕ → ℕ
lowest_unmarked used = lowest_not (λ line. get_or used line false)
