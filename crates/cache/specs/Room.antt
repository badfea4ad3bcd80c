-- What the levelled sum asks of a part of a table, so that it does not wrap. Every table that passes the tests of a call has it.
use Rattle.std.specs.Prelude.{ℕ, ◌≤◌, ◌<◌, List}
use Rattle.rules.specs.Bytes.{record_at, record_count}
use Rattle.rules.specs.Table.{most_total}

-- the levels of a part of a table
pub record LevelsFit (part : List ℕ) (ceiling : ℕ) : Type 0 where
  pub ceiling_most : ceiling ≤ most_total
  pub heat_most : (i : ℕ) → i < record_count part → (record_at part i).heat ≤ most_total
