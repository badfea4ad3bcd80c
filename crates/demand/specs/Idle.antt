-- The five idle versions that have to break the contracts. Each but the one that refuses all is refused where its contract says so, and
-- is idle only where a call is accepted.
use Rattle.std.specs.Prelude.{ℕ, ◌+◌, ◌≡◌, List, [], ◌∷◌, length, replicate, eqb, if◌then◌else◌, Ok, Err}
use Rattle.rules.specs.declared.Gauge.{Gauge}
use Rattle.rules.specs.declared.Answer.TheVariants.{Unknown, Passed}
use Rattle.rules.specs.declared.Refusal.TheVariants.{WrongSizes, NoLine}
use Rattle.rules.specs.Table.{Memory, size, with_total, with_ceiling, with_table, with_gauge}
use Rattle.rules.specs.Answers.{Reply, is_refused}
use Rattle.rules.specs.Steps.{Outcome, outcome, decay_for, grown, peek_steps, read_steps}
use Rattle.rules.specs.Calls.{unless, leaving, read_verdict, update_verdict, fill_verdict, read_outcome, update_outcome, fill_outcome}
use Rattle.rules.specs.Replay.{unheard}
use Rattle.rules.specs.Sample.{sample_start}
use Rattle.demand.specs.List.{read, Event, event, told, replay}
use Rattle.demand.specs.Demand3.{Demand3}

-- ---- the contracts
-- | Each callable function's contract gives its answer and every lent byte and gauge number afterwards by equations with the steps
abbrev pub MeetsRead : (Memory → ℕ → ℕ → Outcome Reply Memory) → Type 0
MeetsRead call = (m : Memory) (key w : ℕ) → call m key w ≡ read_outcome m key w

abbrev pub MeetsUpdate : (Memory → ℕ → ℕ → Outcome Reply Memory) → Type 0
MeetsUpdate call = (m : Memory) (key w : ℕ) → call m key w ≡ update_outcome m key w

abbrev pub MeetsFill : (Memory → ℕ → List ℕ → ℕ → Outcome Reply Memory) → Type 0
MeetsFill call = (m : Memory) (key : ℕ) (picture : List ℕ) (ticket : ℕ) → call m key picture ticket ≡ fill_outcome m key picture ticket

-- ---- the versions
-- | one that says 5 .. before looking
unfoldable pub idle_fill : Memory → ℕ → List ℕ → ℕ → Outcome Reply Memory
idle_fill m key picture ticket = unless (fill_verdict m picture) (leaving m) (outcome (Err NoLine) m)

-- | or unknown before looking
unfoldable pub idle_update : Memory → ℕ → ℕ → Outcome Reply Memory
idle_update m key w = unless (update_verdict m w) (leaving m) (outcome (Ok Unknown) m)

-- | one that answers passed to each read
unfoldable pub passing_read : Memory → ℕ → ℕ → Outcome Reply Memory
passing_read m key w = unless (read_verdict m w) (leaving m) (outcome (Ok Passed) m)

-- | one that tracks the first read and then only echoes
-- The first is the one that finds a total of 0; to echo is to take every read for a look.
unfoldable pub echoing_steps : Memory → ℕ → ℕ → Outcome Reply Memory
echoing_steps m key w = if eqb m.gauge.total 0 then read_steps m key w else peek_steps m key

unfoldable pub echoing_read : Memory → ℕ → ℕ → Outcome Reply Memory
echoing_read m key w = unless (read_verdict m w) (leaving m) (echoing_steps m key w)

-- | one that leaves the table empty: the answer and the total are a read's
unfoldable pub empty_steps : Memory → ℕ → ℕ → Outcome Reply Memory
empty_steps m key w =
    outcome (read_steps m key w).answer (with_table (replicate (length m.table) 0) (grown w (decay_for w m)))

unfoldable pub empty_read : Memory → ℕ → ℕ → Outcome Reply Memory
empty_read m key w = unless (read_verdict m w) (leaving m) (empty_steps m key w)

-- | or refuses all
unfoldable pub refusing_read : Memory → ℕ → ℕ → Outcome Reply Memory
refusing_read m key w = leaving m WrongSizes

-- | one with an invented total or ceiling: all but the gauge is as a read leaves it
unfoldable pub inventing : (Gauge → Gauge) → Memory → ℕ → ℕ → Outcome Reply Memory
inventing invent m key w =
    unless (read_verdict m w) (leaving m)
    (outcome (read_steps m key w).answer
    (with_gauge (invent (read_steps m key w).after.gauge) (read_steps m key w).after))

-- a total of one too many
unfoldable pub inventing_total : Memory → ℕ → ℕ → Outcome Reply Memory
inventing_total = inventing (λ g. with_total (g.total + 1) g)

-- the total for a ceiling
unfoldable pub inventing_ceiling : Memory → ℕ → ℕ → Outcome Reply Memory
inventing_ceiling = inventing (λ g. with_ceiling g.total g)

-- ---- demand 3 of a version of read
-- | 3 by the replay
-- a read's key and weight
pub record Read : Type 0 where
  pub key : ℕ
  pub weight : ℕ

abbrev pub reading : ℕ → ℕ → Read
reading key w = record { key = key; weight = w }

-- what it leaves after reads, one after another
unfoldable pub left_by : (Memory → ℕ → ℕ → Outcome Reply Memory) → Memory → List Read → Memory
left_by call m [] = m
left_by call m (r ∷ rs) = left_by call (call m r.key r.weight).after rs

-- and what happened
unfoldable pub events_by : (Memory → ℕ → ℕ → Outcome Reply Memory) → Memory → List Read → List Event
events_by call m [] = []
events_by call m (r ∷ rs) =
    event (read r.key r.weight) (is_refused (call m r.key r.weight).answer) m
    ∷ events_by call (call m r.key r.weight).after rs

-- demand 3 after them, from the sample's start
abbrev pub Demand3By : (Memory → ℕ → ℕ → Outcome Reply Memory) → List Read → Type 0
Demand3By call rs =
    Demand3 (left_by call sample_start rs) (replay (unheard (size sample_start)) (told (events_by call sample_start rs)))
    (events_by call sample_start rs)
