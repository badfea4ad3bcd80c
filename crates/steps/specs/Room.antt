-- What a read asks of a memory, so that no sum wraps: to be counted, and to be admitted once its record has a place. Every memory that
-- passes the tests of a call has it. And what is left of a read by then.
use Rattle.std.specs.Prelude.{ℕ, ◌≤◌, ◌<◌, ◌≡◌, List, Option, Some, None, Ok}
use Rattle.rules.specs.declared.Answer.TheVariants.{Passed}
use Rattle.rules.specs.Answers.{Reply}
use Rattle.rules.specs.Calls.{serial_limit}
use Rattle.rules.specs.Steps.{Outcome, outcome, admission}
use Rattle.lines.specs.Room.{LinesFit, HeatsBelow}
use Rattle.rules.specs.Bytes.{record_at, record_count}
use Rattle.rules.specs.Table.{Memory, most_total, aged_record, places, size}

-- heats and ceiling have room for a weight
pub record HeatsFit (m : Memory) : Type 0 where
  pub ceiling : m.gauge.ceiling ≤ most_total
  pub heat : (i : ℕ) → i < size m → (places m i).heat ≤ most_total

-- what step 5 asks for the record at a place, if there is one
abbrev pub Admits : Option ℕ → Memory → Type 0
Admits None m = Unit {0}
Admits (Some i) m = (i < record_count m.table) × LinesFit m × HeatsBelow m × (m.gauge.serial < serial_limit)

-- steps 5 and 6 for the record at a place, or passed where there is none
abbrev pub admitted : Option ℕ → Memory → Outcome Reply Memory
admitted None m = outcome (Ok Passed) m
admitted (Some i) m = admission i m

-- each record of a table is aged in its place
abbrev pub EachAged : List ℕ → List ℕ → Type 0
EachAged was is = (i : ℕ) → i < record_count was → record_at is i ≡ aged_record (record_at was i)
