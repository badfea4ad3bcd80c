-- What the walk in code holds, in places and numbers, of what the walk of document 02 holds.
use Rattle.std.specs.Prelude.{ℕ, ◌+◌, ◌≡◌, Option, Some, None}
use Rattle.rules.specs.declared.Record.{Record}
use Rattle.tracker.specs.declared.Held.{Held}
use Rattle.rules.specs.Pass.{Found}
use Rattle.rules.specs.Walk.{Walk}
use Rattle.tracker.specs.Claiming.{largest, heat_of, held_at}

-- the record at a place; the largest number is the place of none
abbrev pub at : (ℕ → Record) → ℕ → Found
at f = held_at f largest

-- the record at a place, if it is that of one
abbrev pub found_in : (ℕ → Record) → Option ℕ → Found
found_in f None = None
found_in f (Some i) = Some (i, f i)

-- the records at the places that are held
abbrev pub held_records : (ℕ → Record) → Held → Walk
held_records f held = record { own = at f held.own; free = at f held.free; victim = at f held.victim }

unfoldable pub slack_of : Found → ℕ
slack_of None = largest
slack_of (Some (i, r)) = r.slack

-- the heat and the slack that are held are those of what was found, or the largest number where nothing was
abbrev pub NumbersOf : Held → Found → Type 0
NumbersOf held found = (held.heat ≡ heat_of found) × (held.slack ≡ slack_of found)

-- they are the victim's
abbrev pub VictimHeld : (ℕ → Record) → Held → Type 0
VictimHeld f held = NumbersOf held (at f held.victim)

-- how many of n records are walked over, where the walk stops at the key's
abbrev pub walked : ℕ → Found → ℕ
walked n None = n
walked n (Some (i, r)) = i + 1
