-- What giving a line asks of a memory, so that no line lies outside and the coldest record on one is found. Every memory that passes
-- the tests of a call has it.
use Rattle.std.specs.Prelude.{ℕ, ◌+◌, ◌*◌, ◌≤◌, ◌<◌}
use Rattle.rules.specs.Calls.{most_records}
use Rattle.rules.specs.Table.{Memory, places, size, line_total}
use Rattle.tracker.specs.Claiming.{HeatsUnder}

-- every line that a state names is there
pub record LinesFit (m : Memory) : Type 0 where
  pub state : (i : ℕ) → i < size m → (places m i).state ≤ 1 + 2 * line_total m
  pub lines : line_total m < most_records

-- no heat is the largest number
pub record HeatsBelow (m : Memory) : Type 0 where
  pub heat : HeatsUnder (places m) (size m)
