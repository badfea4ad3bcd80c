-- What a record's state says, what can happen to a record, what is looked for in a table, and when a table is in order.
use Rattle.std.specs.Prelude.{ℕ, zero, suc, ◌+◌, ◌*◌, ◌-◌, ◌/◌, ◌%◌, List, Bool, ◌&&◌, ◌||◌, length, replicate, ltb, leb, eqb, if◌then◌else◌, Some, None}
use Rattle.rules.specs.declared.Record.{Record}
use Rattle.rules.specs.declared.Gauge.{Gauge}
use Rattle.rules.specs.declared.Lookup.{Lookup}
use Rattle.rules.specs.declared.Lookup.TheVariants.{Untracked, Unlined, Lined}
use Rattle.rules.specs.Bytes.{record_at, put_record, record_count, line_count}
use Rattle.rules.specs.Pass.{Found, first_of, best_of, count_of, all_of, any_of, lowest_not}

-- What a call is lent. A C host lends the gauge as bytes (Calls.antt).
pub record Memory : Type 0 where
  pub table : List ℕ
  pub gauge : Gauge
  pub lines : List ℕ

-- ---- states
-- | State 0 is free
unfoldable pub is_free : Record → Bool
is_free r = eqb r.state 0

-- | a state over 0; a key that has one is tracked
unfoldable pub is_tracked : Record → Bool
is_tracked r = ltb 0 r.state

-- | 1 is tracked without a line
unfoldable pub is_unlined : Record → Bool
is_unlined r = eqb r.state 1

-- | 2 + 2 × n is on line n, line empty. 3 + 2 × n is on line n, line filled
unfoldable pub is_lined : Record → Bool
is_lined r = ltb 1 r.state

unfoldable pub line_of : Record → ℕ
line_of r = (r.state - 2) / 2

unfoldable pub is_filled : Record → Bool
is_filled r = is_lined r && eqb (r.state % 2) 1

unfoldable pub is_on : ℕ → Record → Bool
is_on n r = is_lined r && eqb (line_of r) n

unfoldable pub empty_state : ℕ → ℕ
empty_state n = 2 + 2 * n

unfoldable pub filled_state : ℕ → ℕ
filled_state n = 3 + 2 * n

-- | (all .. numbers are 0)
unfoldable pub is_zero : Record → Bool
is_zero r = eqb r.key 0 && eqb r.heat 0 && eqb r.slack 0 && eqb r.state 0 && eqb r.ticket 0

-- ---- a record, or a gauge, with one number changed
abbrev pub with_heat : ℕ → Record → Record
with_heat h r = record { key = r.key; heat = h; slack = r.slack; state = r.state; ticket = r.ticket }

abbrev pub with_slack : ℕ → Record → Record
with_slack s r = record { key = r.key; heat = r.heat; slack = s; state = r.state; ticket = r.ticket }

abbrev pub with_state : ℕ → Record → Record
with_state s r = record { key = r.key; heat = r.heat; slack = r.slack; state = s; ticket = r.ticket }

abbrev pub with_ticket : ℕ → Record → Record
with_ticket t r = record { key = r.key; heat = r.heat; slack = r.slack; state = r.state; ticket = t }

abbrev pub with_total : ℕ → Gauge → Gauge
with_total n g = record { total = n; ceiling = g.ceiling; serial = g.serial }

abbrev pub with_ceiling : ℕ → Gauge → Gauge
with_ceiling n g = record { total = g.total; ceiling = n; serial = g.serial }

abbrev pub with_serial : ℕ → Gauge → Gauge
with_serial n g = record { total = g.total; ceiling = g.ceiling; serial = n }

-- ---- what can happen to a record

-- | its heat grows by w
unfoldable pub heated : ℕ → Record → Record
heated w r = with_heat (r.heat + w) r

-- | its heat falls by w, not below 0 (CoT's Equation 1 could go lower)
unfoldable pub cooled : ℕ → Record → Record
cooled w r = with_heat (r.heat - w) r

unfoldable pub half_down : ℕ → ℕ
half_down n = n / 2

unfoldable pub half_up : ℕ → ℕ
half_up n = (n + 1) / 2

-- | Every heat becomes half, rounded down. Every slack becomes half, rounded up. (Half-life decay.)
unfoldable pub aged_record : Record → Record
aged_record r = with_slack (half_up r.slack) (with_heat (half_down r.heat) r)

-- | gets key, heat ceiling + w, slack ceiling, state 1. .. [The ticket] is 0 .. for records without a line (document 02)
unfoldable pub new_record : ℕ → ℕ → ℕ → Record
new_record key ceiling w = record { key = key; heat = ceiling + w; slack = ceiling; state = 1; ticket = 0 }

-- | that record's state becomes 1, and its ticket 0, as for all records without a line
unfoldable pub unlined : Record → Record
unlined r = with_ticket 0 (with_state 1 r)

-- | Withdraw, a new call, frees its key's record. (Document 02) Every free record is all zero
unfoldable pub freed : Record
freed = record { key = 0; heat = 0; slack = 0; state = 0; ticket = 0 }

-- | A line just taken is empty. .. the serial .. becomes that record's ticket
unfoldable pub on_empty_line : ℕ → ℕ → Record → Record
on_empty_line n ticket r = with_ticket ticket (with_state (empty_state n) r)

-- | a line it has becomes empty
unfoldable pub emptied : Record → Record
emptied r = if is_lined r then with_state (empty_state (line_of r)) r else r

-- | the state becomes filled
unfoldable pub filled : Record → Record
filled r = with_state (filled_state (line_of r)) r

-- ---- what is looked for, at f = record_at of a table and n = K
-- | A key's record is the first one with that key and a state over 0
unfoldable pub has_key : ℕ → Record → Bool
has_key key r = is_tracked r && eqb r.key key

unfoldable pub key_record : ℕ → (ℕ → Record) → ℕ → Found
key_record key = first_of (has_key key)

-- | the first free one
unfoldable pub free_record : (ℕ → Record) → ℕ → Found
free_record = first_of is_free

unfoldable pub colder : Record → Record → Bool
colder r s = ltb r.heat s.heat

unfoldable pub hotter : Record → Record → Bool
hotter r s = ltb s.heat r.heat

-- which of two records without a line leaves first: the colder one, and of equally cold ones that with more slack
unfoldable pub leaves : Record → Record → Bool
leaves r s = colder r s || (eqb r.heat s.heat && ltb s.slack r.slack)

-- | the victim is the coldest record without a line
-- | Among equally cold records without a line, the victim is now the one with the largest slack, then the first. (Document 02)
unfoldable pub victim : (ℕ → Record) → ℕ → Found
victim = best_of is_unlined leaves

-- | the coldest record on a line (first among equals)
unfoldable pub coldest_lined : (ℕ → Record) → ℕ → Found
coldest_lined = best_of is_lined colder

-- | the hottest record without one (first among equals)
unfoldable pub hottest_unlined : (ℕ → Record) → ℕ → Found
hottest_unlined = best_of is_unlined hotter

-- | a line used by no record, .. the lowest such line: its number, or C where every line is used
unfoldable pub is_used : (ℕ → Record) → ℕ → ℕ → Bool
is_used f n line = any_of (is_on line) f n

unfoldable pub lowest_unused : (ℕ → Record) → ℕ → ℕ → ℕ
lowest_unused f n lines = lowest_not (is_used f n) lines

-- | The key's record is looked up; if there is none, or it has no line ..; if the line is filled ..
unfoldable pub looked_up : Found → Lookup
looked_up None = Untracked
looked_up (Some (i, r)) = if is_lined r then Lined i (line_of r) (is_filled r) r.ticket else Unlined

unfoldable pub lookup : (ℕ → Record) → ℕ → ℕ → Lookup
lookup f n key = looked_up (key_record key f n)

-- ---- order
-- | L is 4,294,967,295
abbrev pub most_total : ℕ
most_total = 4294967295

-- | every heat at most total; every state is at most 1 + 2 × C; every free record is all zero
-- | [The ticket] is 0 .. for records without a line; a table with another there is not in order (document 02)
unfoldable pub record_in_order : ℕ → ℕ → Record → Bool
record_in_order total lines r =
    leb r.heat total
    && leb r.state (1 + 2 * lines)
    && (is_tracked r || is_zero r)
    && (is_lined r || eqb r.ticket 0)

-- | A table is in order when: total is at most L; ceiling and every heat are at most total; .. at most C records are on lines.
-- | Doubled keys or lines are not tested
unfoldable pub in_order : (ℕ → Record) → ℕ → ℕ → Gauge → Bool
in_order f n lines g =
    leb g.total most_total
    && leb g.ceiling g.total
    && all_of (record_in_order g.total lines) f n
    && leb (count_of is_lined f n) lines

-- ---- a table as a whole, in a memory
unfoldable pub places : Memory → ℕ → Record
places m = record_at m.table

unfoldable pub size : Memory → ℕ
size m = record_count m.table

unfoldable pub line_total : Memory → ℕ
line_total m = line_count m.lines

unfoldable pub with_table : List ℕ → Memory → Memory
with_table table m = record { table = table; gauge = m.gauge; lines = m.lines }

unfoldable pub with_gauge : Gauge → Memory → Memory
with_gauge g m = record { table = m.table; gauge = g; lines = m.lines }

unfoldable pub with_lines : List ℕ → Memory → Memory
with_lines lines m = record { table = m.table; gauge = m.gauge; lines = lines }

-- the record at place i becomes r
unfoldable pub write : Memory → ℕ → Record → Memory
write m i r = with_table (put_record m.table i r) m

-- each of the first n records is changed alike
unfoldable pub change_all : (Record → Record) → List ℕ → ℕ → List ℕ
change_all change table zero = table
change_all change table (suc n) =
    put_record (change_all change table n) n (change (record_at (change_all change table n) n))

-- | Fresh: every table byte and the gauge are zero. The lines keep their bytes. .. [The serial] is 0 in a fresh table (document 02)
unfoldable pub fresh_gauge : Gauge
fresh_gauge = record { total = 0; ceiling = 0; serial = 0 }

unfoldable pub fresh_memory : Memory → Memory
fresh_memory m = record { table = replicate (length m.table) 0; gauge = fresh_gauge; lines = m.lines }
