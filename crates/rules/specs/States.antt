-- The number of a state, which a record holds.
use Rattle.std.specs.Prelude.{ℕ}
use Rattle.rules.specs.declared.State.{State}
use Rattle.rules.specs.declared.State.TheVariants.{Free, Unlined, Empty, Filled}
use Rattle.rules.specs.Table.{empty_state, filled_state}

unfoldable pub state_number : State → ℕ
-- | State 0 is free, 1 is tracked without a line
state_number Free = 0
state_number Unlined = 1
state_number (Empty n) = empty_state n
state_number (Filled n) = filled_state n
