-- The steps of age, read, update, fill, withdraw, show and the levelled sum, on a memory that no refusal holds for (Calls.antt).
use Rattle.std.specs.Prelude.{ℕ, ◌+◌, ◌≤◌, max, List, true, false, ltb, eqb, if◌then◌else◌, Some, None, Ok, Err}
use Rattle.std.proofs.Math.Option.{Option, none, some}
use Rattle.rules.specs.declared.Record.{Record}
use Rattle.rules.specs.declared.Gauge.{Gauge}
use Rattle.rules.specs.declared.Lookup.{Lookup}
use Rattle.rules.specs.declared.Lookup.TheVariants.{Untracked, Unlined, Lined}
use Rattle.rules.specs.declared.Answer.{Answer}
use Rattle.rules.specs.declared.Answer.TheVariants.{Aged, Changed, Unknown, Stored, Passed, Withdrawn, Hit, Wanted}
use Rattle.rules.specs.declared.Refusal.TheVariants.{NoLine, AlreadyFilled, StaleTicket}
use Rattle.rules.specs.Answers.{Reply}
use Rattle.rules.specs.Bytes.{put_line}
use Rattle.rules.specs.Pass.{Found, sum_of}
use Rattle.rules.specs.Table.{Memory, is_free, is_lined, is_filled, line_of, with_ticket, with_total, with_ceiling, with_serial, aged_record, half_down, heated, cooled, new_record, unlined, freed, on_empty_line, emptied, filled, key_record, free_record, victim, coldest_lined, hottest_unlined, hotter, lowest_unused, lookup, most_total, places, size, line_total, with_table, with_gauge, with_lines, write, change_all}

-- What a call does: its answer, and what it leaves of what it was lent.
pub record Outcome (Answered Lent : Type 0) : Type 0 where
  pub answer : Answered
  pub after : Lent

abbrev pub outcome : {Answered Lent : Type 0} → Answered → Lent → Outcome Answered Lent
outcome a m = record { answer = a; after = m }

-- ---- Age
-- | Every heat, the total and the ceiling become half, rounded down. Every slack becomes half, rounded up.
unfoldable pub aged_gauge : Gauge → Gauge
aged_gauge g = with_ceiling (half_down g.ceiling) (with_total (half_down g.total) g)

unfoldable pub aged : Memory → Memory
aged m = with_gauge (aged_gauge m.gauge) (with_table (change_all aged_record m.table (size m)) m)

-- | Answer: aged.
unfoldable pub age_steps : Memory → Outcome Reply Memory
age_steps m = outcome (Ok Aged) (aged m)

-- ---- a ticket is given
-- | Each time a line is taken, and each time an update reaches a class that keeps its line, the serial grows by 1 and becomes
-- | that record's ticket. (Document 02)
unfoldable pub next_ticket : Memory → ℕ
next_ticket m = m.gauge.serial + 1

unfoldable pub ticketed : Memory → Memory
ticketed m = with_gauge (with_serial (next_ticket m) m.gauge) m

-- what a call may give: one ticket, or none
abbrev pub GivesOne : Memory → Memory → Type 0
GivesOne m after = (m.gauge.serial ≤ after.gauge.serial) × (after.gauge.serial ≤ next_ticket m)

-- the class at place i keeps its line
unfoldable pub renew : Memory → ℕ → Memory
renew m i = write (ticketed m) i (with_ticket (next_ticket m) (places m i))

-- ---- a line goes to a record
-- | it takes .. [the] line. .. A line just taken is empty.
unfoldable pub give_line : Memory → ℕ → ℕ → Memory
give_line m i n = write (ticketed m) i (on_empty_line n (next_ticket m) (places m i))

-- the record at place from becomes left, which has no line, and its line goes to the record at place to
unfoldable pub hand_on : Memory → ℕ → Record → ℕ → Memory
hand_on m from left to = give_line (write m from left) to (line_of (places m from))

-- | it takes that record's line and that record's state becomes 1
unfoldable pub hand_over : Memory → ℕ → ℕ → Memory
hand_over m from to = hand_on m from (unlined (places m from)) to

-- ---- Read
-- | 1. If total + w exceeds L, age first.
unfoldable pub decay_for : ℕ → Memory → Memory
decay_for w m = if ltb most_total (m.gauge.total + w) then aged m else m

-- | Then total grows by w.
unfoldable pub grown : ℕ → Memory → Memory
grown w m = with_gauge (with_total (m.gauge.total + w) m.gauge) m

-- | 3. .. gets key, heat ceiling + w, slack ceiling, state 1.
unfoldable pub track : Memory → ℕ → ℕ → ℕ → Memory
track m key w i = write m i (new_record key m.gauge.ceiling w)

-- | 4. .. Ceiling becomes the larger of ceiling and the victim's heat.
unfoldable pub raised : ℕ → Memory → Memory
raised heat m = with_gauge (with_ceiling (max m.gauge.ceiling heat) m.gauge) m

-- | The victim's record then gets the key, heat ceiling + w, slack ceiling, state 1.
unfoldable pub evict : Memory → ℕ → ℕ → ℕ → Record → Memory
evict m key w i v = track (raised v.heat m) key w i

-- | 5. If the key has no line: with a line used by no record, it takes the lowest such line. Otherwise, if C is over 0 and
-- | its heat is greater than that of the coldest record on a line (first among equals), it takes that record's line and that
-- | record's state becomes 1. (With C = 0 no record of a table in order is on a line.)
unfoldable pub replace_coldest : Memory → ℕ → Found → Memory
replace_coldest m i None = m
replace_coldest m i (Some (j, r)) = if hotter (places m i) r then hand_over m j i else m

unfoldable pub promote : Memory → ℕ → ℕ → Memory
promote m i n = if ltb n (line_total m) then give_line m i n else replace_coldest m i (coldest_lined (places m) (size m))

unfoldable pub admit : Memory → ℕ → Memory
admit m i = if is_lined (places m i) then m else promote m i (lowest_unused (places m) (size m) (line_total m))

-- | 6. Answer: hit with the line number if its line is filled; wanted with the number if empty; passed if it has no line.
-- | .. Wanted carries the ticket (document 02)
unfoldable pub read_answer : Record → Answer
read_answer r = if is_filled r then Hit (line_of r) else if is_lined r then Wanted (line_of r) r.ticket else Passed

unfoldable pub admission : ℕ → Memory → Outcome Reply Memory
admission i m = outcome (Ok (read_answer (places (admit m i) i))) (admit m i)

-- | 2. Tracked key: its heat grows by w. 3. Untracked key with a free record: the first free one. 4. Untracked key, no free
-- | record: the victim. (A table in order, with C under K, has a free record or a victim.)
unfoldable pub place : Memory → ℕ → ℕ → Found → Found → Found → Outcome Reply Memory
place m key w (Some (i, r)) free coldest = admission i (write m i (heated w r))
place m key w None (Some (i, r)) coldest = admission i (track m key w i)
place m key w None None (Some (i, r)) = admission i (evict m key w i r)
place m key w None None None = outcome (Ok Passed) m

unfoldable pub read_counted : Memory → ℕ → ℕ → Outcome Reply Memory
read_counted m key w =
    place m key w
    (key_record key (places m) (size m))
    (free_record (places m) (size m))
    (victim (places m) (size m))

-- a read with a weight of 1 or more: steps 1 to 6
unfoldable pub warm_steps : Memory → ℕ → ℕ → Outcome Reply Memory
warm_steps m key w = read_counted (grown w (decay_for w m)) key w

-- a look, which is a read of weight 0 (document 02)
-- | It answers hit, wanted or passed as the table stands, an untracked key being passed
unfoldable pub peek_answer : Found → Answer
peek_answer None = Passed
peek_answer (Some (i, r)) = read_answer r

-- | and changes nothing
unfoldable pub peek_steps : Memory → ℕ → Outcome Reply Memory
peek_steps m key = outcome (Ok (peek_answer (key_record key (places m) (size m)))) m

-- | A read of weight 0 is now accepted. (Any other read is document 01's.)
unfoldable pub read_steps : Memory → ℕ → ℕ → Outcome Reply Memory
read_steps m key w = if eqb w 0 then peek_steps m key else warm_steps m key w

-- ---- Update
-- | If it has a line and the hottest record without one (first among equals) is now strictly hotter, that record takes the
-- | line, empty, and the key's state becomes 1. (Otherwise it keeps its line, and gets a new ticket: document 02.)
unfoldable pub demote_for : Memory → ℕ → Found → Memory
demote_for m i None = renew m i
demote_for m i (Some (j, r)) = if hotter r (places m i) then hand_over m i j else renew m i

unfoldable pub demote : Memory → ℕ → Memory
demote m i = if is_lined (places m i) then demote_for m i (hottest_unlined (places m) (size m)) else m

-- | An untracked key changes nothing; answer: unknown. Otherwise its heat falls by w, not below 0, and a line it has becomes
-- | empty. .. Answer: changed.
unfoldable pub change : Memory → ℕ → Found → Outcome Reply Memory
change m w None = outcome (Ok Unknown) m
change m w (Some (i, r)) = outcome (Ok Changed) (demote (write m i (emptied (cooled w r))) i)

unfoldable pub update_steps : Memory → ℕ → ℕ → Outcome Reply Memory
update_steps m key w = change m w (key_record key (places m) (size m))

-- ---- Fill
-- | the 64 bytes are written into that line's part of the lent lines, and the state becomes filled. Answer: stored.
unfoldable pub store_in : Memory → ℕ → ℕ → List ℕ → Outcome Reply Memory
store_in m i n picture = outcome (Ok Stored) (with_lines (put_line m.lines n picture) (write m i (filled (places m i))))

-- | if there is none, or it has no line, the call ends there with 5; if the line is filled, with 6. .. a fill must bring [the
-- | ticket] back .. 9, a fill with another ticket, tested after 6 (document 02). Otherwise the 64 bytes are written
unfoldable pub store : Memory → List ℕ → ℕ → Lookup → Outcome Reply Memory
store m picture ticket Untracked = outcome (Err NoLine) m
store m picture ticket Unlined = outcome (Err NoLine) m
store m picture ticket (Lined i n true given) = outcome (Err AlreadyFilled) m
store m picture ticket (Lined i n false given) =
    if eqb ticket given then store_in m i n picture else outcome (Err StaleTicket) m

-- | The key's record is looked up
unfoldable pub fill_steps : Memory → ℕ → List ℕ → ℕ → Outcome Reply Memory
fill_steps m key picture ticket = store m picture ticket (lookup (places m) (size m) key)

-- ---- Withdraw (document 02)
-- | A line it had goes, empty and with a new ticket, to the hottest tracked record left without one, first among equals, or becomes
-- | unused.
unfoldable pub vacate_for : Memory → ℕ → Found → Memory
vacate_for m i None = write m i freed
vacate_for m i (Some (j, r)) = hand_on m i freed j

-- | Withdraw, a new call, frees its key's record.
unfoldable pub vacate : Memory → ℕ → Memory
vacate m i = if is_lined (places m i) then vacate_for m i (hottest_unlined (places m) (size m)) else write m i freed

-- | Its answer is withdrawn .., or unknown for an untracked key
unfoldable pub withdraw : Memory → Found → Outcome Reply Memory
withdraw m None = outcome (Ok Unknown) m
withdraw m (Some (i, r)) = outcome (Ok Withdrawn) (vacate m i)

unfoldable pub withdraw_steps : Memory → ℕ → Outcome Reply Memory
withdraw_steps m key = withdraw m (key_record key (places m) (size m))

-- ---- Show
-- | the line when the key's record is on a filled line, else the stand-in
unfoldable pub shown_line : Lookup → Option ℕ
shown_line Untracked = none
shown_line Unlined = none
shown_line (Lined i n true ticket) = some n
shown_line (Lined i n false ticket) = none

-- ---- Levelled sum
-- | the larger of heat and ceiling; free records count with heat 0
unfoldable pub level : ℕ → Record → ℕ
level ceiling r = max (if is_free r then 0 else r.heat) ceiling

-- | The sum, over all K records
unfoldable pub levelled_sum : Memory → ℕ
levelled_sum m = sum_of (level m.gauge.ceiling) (places m) (size m)
