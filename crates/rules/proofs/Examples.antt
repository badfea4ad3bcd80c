-- Closed examples that hold the definitions where no law and none of the paper's examples would notice: each is run. Assumes nothing.
use Prim.Native.Nat.{ℕ, zero, suc, ◌+◌, ◌*◌, ◌^◌, ◌≤◌}
use mathlib.Core.Path.{◌≡◌, refl, ap}
use mathlib.Core.Logic.{◌≢◌}
use mathlib.Core.Option.{none, some}
use mathlib.Core.List.{List, [], ◌∷◌, ◌++◌}
use native.Mathlib.Omega.{arith}
use lib.ListN.{get_or, replicate}
use Rattle.rules.specs.declared.Record.{Record}
use Rattle.rules.specs.declared.Gauge.{Gauge}
use Rattle.rules.specs.declared.Answer.{Answer}
use Rattle.rules.specs.declared.Answer.TheVariants.{Aged, Changed, Stored, Passed, Withdrawn, Hit, Wanted}
use Rattle.rules.specs.declared.Refusal.{Refusal}
use Rattle.rules.specs.declared.Refusal.TheVariants.{WrongSizes, WrongWeight, NotInOrder, WrongPicture, NoLine, AlreadyFilled, UnknownForm, ShortEnd, StaleTicket, SerialSpent, DoubledPosition, WrongRing, WrongEpoch}
use Rattle.rules.specs.Refusals.{number}
use Rattle.rules.specs.declared.Entry.{Entry}
use Rattle.rules.specs.Answers.{Reply}
use Rattle.std.specs.Prelude.{◌-◌, Bool, true, false, ◌&&◌, ◌||◌, leb, eqb, Option, Some, None, Result, Ok, Err}
use Rattle.rules.specs.Bytes.{get64, record_size, put_record, line_size, put_gauge}
use Rattle.rules.specs.Pass.{all_of}
use Rattle.rules.specs.Table.{Memory, with_lines, key_record, places, size}
use Rattle.rules.specs.Steps.{Outcome, outcome, GivesOne}
use Rattle.rules.specs.Calls.{OfSizes, host_lent, HostMemory, HostRead, read_lent, exported, exported_read, plain_verdict, age_outcome, read_outcome, update_outcome, fill_outcome, withdraw_outcome, levelled_outcome, show_line}
use Rattle.rules.specs.Answers.{said, values_of}
use Rattle.rules.specs.Numbers.{NamesLine, TellsLine, key_said, read_said, standing, form_good, form_values, said_at}
use Rattle.rules.specs.Journal.{decimal, printed, printed_all, journal_run, start_run, run_for, entry_at, decoded, unknown_word, stored_word, passed_word, withdrawn_word, hit_word, wanted_word, refused_word}
use Rattle.rules.specs.Sample.{sample_entry, sample_journal, sample_start, sample_end, sample_picture, host_start, row, gauge_of, numbers, three_records}
use Rattle.rules.specs.Replay.{Truth, withdraw_truth}
use Rattle.rules.proofs.Changes.{at_same, at_other}
use Rattle.rules.proofs.Computing.{computing}
use Rattle.rules.proofs.Peek.{peek_shows}

-- ---- the sample
-- what its journal leaves, byte for byte
pub sample_memory : (journal_run sample_start sample_journal).memory ≡ sample_end
unfolding computing
sample_memory = refl

-- what its first n rows leave
abbrev after_rows : ℕ → Memory
after_rows n = (run_for sample_journal (start_run sample_start) n).memory

-- | Row 12 of the sample journal now evicts class 11 (document 02): it is as cold as class 7 and has more slack
pub row_12_evicts_11 :
    (after_rows 11 ≡ with_lines (sample_picture 105) (three_records (numbers 5 2 0 2 3) (numbers 7 1 0 1 0) (numbers 11 1 1 1 0) (gauge_of 6 1 3) 1))
    × (after_rows 12 ≡ with_lines (sample_picture 105) (three_records (numbers 5 2 0 2 3) (numbers 7 1 0 1 0) (numbers 9 2 1 1 0) (gauge_of 7 1 3) 1))
unfolding computing
row_12_evicts_11 = (refl, refl)

-- a table such as its row 10 finds: class 7 has no line
abbrev before_row_10 : Memory
before_row_10 = with_lines (sample_picture 105) (three_records (numbers 5 4 0 2 3) (numbers 7 2 0 1 0) (numbers 11 3 2 1 0) (gauge_of 12 2 3) 1)

-- so that the fill is refused with 5 whatever its ticket
pub row_10_refused : (ticket : ℕ) → fill_outcome before_row_10 7 (sample_picture 107) ticket ≡ outcome (Err NoLine) before_row_10
unfolding computing
row_10_refused ticket = refl

-- ---- records and gauge, by their bytes
-- n bytes, each one more than that before it
abbrev rising : ℕ → ℕ → List ℕ
rising byte zero = []
rising byte (suc n) = byte ∷ rising (suc byte) n

pub record_by_bytes :
    put_record (replicate 40 255) 0
    (numbers 578437695752307201 1157159078456920585 1735880461161533969 2314601843866147353 2893323226570760737)
    ≡ rising 1 40
unfolding computing
record_by_bytes = refl

pub gauge_by_bytes : put_gauge (replicate 24 255) (gauge_of 578437695752307201 1157159078456920585 1735880461161533969) ≡ rising 1 24
unfolding computing
gauge_by_bytes = refl

-- one byte fewer, one more
pub gauge_of_24 :
    ((exported (λ m. update_outcome m 5 1) (host_start 23)).answer ≡ 1) × ((exported (λ m. update_outcome m 5 1) (host_start 25)).answer ≡ 1)
unfolding computing
gauge_of_24 = (refl, refl)

-- ---- two lines, the first empty and the second filled
abbrev two_lines : Memory
two_lines = three_records (numbers 9 4 0 1 0) (numbers 7 4 0 2 3) (numbers 8 4 0 5 6) (gauge_of 20 0 6) 2

pub second_line_hit : (read_outcome two_lines 8 1).answer ≡ Ok (Hit 1)
unfolding computing
second_line_hit = refl

-- | the line when the key's record is on a filled line, else the stand-in
pub shows_filled : (show_line two_lines 8 ≡ some 1) × (show_line two_lines 7 ≡ none)
unfolding computing
shows_filled = (refl, refl)

-- and a look hits there alone
pub looks_as_shown : ((read_outcome two_lines 8 0).answer ≡ Ok (Hit 1)) × (¬ ((read_outcome two_lines 7 0).answer ≡ Ok (Hit 0)))
looks_as_shown = (
  (peek_shows two_lines 8 1).1 shows_filled.0,
  λ e. let shown = (peek_shows two_lines 7 0).0 e in let hidden = shows_filled.1 in let z : ◌≡◌ {A = ℕ} 0 1 = cc in omega arith,
)

-- what a lookup says of the second: 6, its place, its line and its ticket; and of the first
pub second_line_said :
    (key_said (key_record 8 (places two_lines) (size two_lines)) ≡ said (some 6) (2 ∷ 1 ∷ 6 ∷ []))
    × (key_said (key_record 7 (places two_lines) (size two_lines)) ≡ said none (1 ∷ 0 ∷ 3 ∷ []))
unfolding computing key_said
second_line_said = (refl, refl)

-- ---- an update
-- a class as hot as the hottest without a line keeps its line, emptied
pub equal_keeps_line :
    (places (update_outcome (three_records (numbers 7 4 0 3 5) (numbers 8 3 0 1 0) (numbers 9 3 0 1 0) (gauge_of 20 0 5) 1) 7 1).after 0).state ≡ 2
unfolding computing
equal_keeps_line = refl

-- ---- the levelled sum, with a free record: 5 + 2 + 2
pub levels_summed : levelled_outcome (three_records (numbers 7 5 0 2 3) (numbers 8 1 0 1 0) (numbers 0 0 0 0 0) (gauge_of 20 2 4) 1) ≡ Ok 9
unfolding computing
levels_summed = refl

-- ---- order
pub free_not_zero : plain_verdict (three_records (numbers 7 4 0 2 3) (numbers 1 0 0 0 0) (numbers 9 4 0 1 0) (gauge_of 20 0 4) 2) ≡ Err NotInOrder
unfolding computing
free_not_zero = refl

-- | Doubled keys or lines are not tested
-- nor tickets
pub doubled_pass :
    (plain_verdict (three_records (numbers 7 4 0 2 3) (numbers 7 4 0 1 0) (numbers 9 4 0 1 0) (gauge_of 20 0 4) 2) ≡ Ok tt)
    × (plain_verdict (three_records (numbers 7 4 0 2 3) (numbers 8 4 0 2 3) (numbers 9 4 0 1 0) (gauge_of 20 0 4) 2) ≡ Ok tt)
unfolding computing
doubled_pass = (refl, refl)

-- ---- a fill that comes late
-- | A sorter is told wanted, fetches, and meanwhile the picture changes. (Document 02)
abbrev told : Memory
told = (read_outcome sample_start 5 3).after

abbrev changed : Memory
changed = (update_outcome told 5 1).after

abbrev told_anew : Memory
told_anew = (read_outcome changed 5 1).after

abbrev filled_anew : Memory
filled_anew = (fill_outcome told_anew 5 (sample_picture 106) 2).after

-- the picture that it fetched is refused and leaves all as it was; the one that it fetches anew is stored and hit
pub late_fill :
    ((read_outcome sample_start 5 3).answer ≡ Ok (Wanted 0 1))
    × ((update_outcome told 5 1).answer ≡ Ok Changed)
    × (fill_outcome changed 5 (sample_picture 105) 1 ≡ outcome (Err StaleTicket) changed)
    × ((read_outcome changed 5 1).answer ≡ Ok (Wanted 0 2))
    × ((fill_outcome told_anew 5 (sample_picture 106) 2).answer ≡ Ok Stored)
    × ((read_outcome filled_anew 5 1).answer ≡ Ok (Hit 0))
    × (filled_anew.lines ≡ sample_picture 106)
unfolding computing
late_fill = (refl, refl, refl, refl, refl, refl, refl)

-- ---- who gets tickets
-- | Each time a line is taken, and each time an update reaches a class that keeps its line, the serial grows by 1 and becomes
-- | that record's ticket. (Document 02)
-- Class 21 is on line 1, filled, and colder than 23 on line 0, empty; 22 has no line.
abbrev lined : ℕ → Memory
lined serial = three_records (numbers 21 8 1 5 35) (numbers 22 7 2 1 0) (numbers 23 10 3 2 36) (gauge_of 60 4 serial) 2

abbrev leaves : Answer → Record → Record → Record → Gauge → Outcome Reply Memory
leaves answer x y z gauge = outcome (Ok answer) (three_records x y z gauge 2)

-- a read takes an unused line
pub unused_line_ticketed :
    read_outcome (three_records (numbers 12 9 2 2 30) (numbers 0 0 0 0 0) (numbers 0 0 0 0 0) (gauge_of 50 4 33) 2) 11 3
    ≡ leaves (Wanted 1 34) (numbers 12 9 2 2 30) (numbers 11 7 4 4 34) (numbers 0 0 0 0 0) (gauge_of 53 4 34)
unfolding computing
unused_line_ticketed = refl

-- a read takes the coldest's line: of a class that was tracked, and of one that takes the victim's record
pub taken_line_ticketed :
    (read_outcome (lined 39) 22 2 ≡ leaves (Wanted 1 40) (numbers 21 8 1 1 0) (numbers 22 9 2 4 40) (numbers 23 10 3 2 36) (gauge_of 62 4 40))
    × (read_outcome (lined 39) 24 2 ≡ leaves (Wanted 1 40) (numbers 21 8 1 1 0) (numbers 24 9 7 4 40) (numbers 23 10 3 2 36) (gauge_of 62 7 40))
unfolding computing
taken_line_ticketed = (refl, refl)

-- an update's class keeps its line: a filled one, an empty one, and where every tracked class has one
pub kept_line_ticketed :
    (update_outcome (lined 39) 21 1 ≡ leaves Changed (numbers 21 7 1 4 40) (numbers 22 7 2 1 0) (numbers 23 10 3 2 36) (gauge_of 60 4 40))
    × (update_outcome (lined 39) 23 1 ≡ leaves Changed (numbers 21 8 1 5 35) (numbers 22 7 2 1 0) (numbers 23 9 3 2 40) (gauge_of 60 4 40))
    × (update_outcome (three_records (numbers 0 0 0 0 0) (numbers 12 9 2 5 30) (numbers 0 0 0 0 0) (gauge_of 50 4 33) 2) 12 11
    ≡ leaves Changed (numbers 0 0 0 0 0) (numbers 12 0 2 4 34) (numbers 0 0 0 0 0) (gauge_of 50 4 34))
unfolding computing
kept_line_ticketed = (refl, refl, refl)

-- its line goes to a hotter class: one ticket, the taker's
pub lost_line_ticketed :
    update_outcome (lined 39) 21 2 ≡ leaves Changed (numbers 21 6 1 1 0) (numbers 22 7 2 4 40) (numbers 23 10 3 2 36) (gauge_of 60 4 40)
unfolding computing
lost_line_ticketed = refl

-- none by a read of a class that has its line, or that gets none
pub reads_unticketed :
    (read_outcome (lined 39) 21 3 ≡ leaves (Hit 1) (numbers 21 11 1 5 35) (numbers 22 7 2 1 0) (numbers 23 10 3 2 36) (gauge_of 63 4 39))
    × (read_outcome (lined 39) 23 3 ≡ leaves (Wanted 0 36) (numbers 21 8 1 5 35) (numbers 22 7 2 1 0) (numbers 23 13 3 2 36) (gauge_of 63 4 39))
    × (read_outcome (lined 39) 22 1 ≡ leaves Passed (numbers 21 8 1 5 35) (numbers 22 8 2 1 0) (numbers 23 10 3 2 36) (gauge_of 61 4 39))
    × (read_outcome (lined 39) 24 1 ≡ leaves Passed (numbers 21 8 1 5 35) (numbers 24 8 7 1 0) (numbers 23 10 3 2 36) (gauge_of 61 7 39))
unfolding computing
reads_unticketed = (refl, refl, refl, refl)

-- none by an update of a class without a line or untracked, by a fill or by an aging
pub others_unticketed :
    (update_outcome (lined 39) 22 3 ≡ leaves Changed (numbers 21 8 1 5 35) (numbers 22 4 2 1 0) (numbers 23 10 3 2 36) (gauge_of 60 4 39))
    × (update_outcome (lined 39) 24 3 ≡ outcome (Ok Answer.Unknown) (lined 39))
    × (fill_outcome (lined 39) 23 (sample_picture 105) 36
    ≡ outcome (Ok Stored)
    (with_lines (sample_picture 105 ++ sample_picture 170)
    (three_records (numbers 21 8 1 5 35) (numbers 22 7 2 1 0) (numbers 23 10 3 3 36) (gauge_of 60 4 39) 2)))
    × (age_outcome (lined 39) ≡ leaves Aged (numbers 21 4 1 5 35) (numbers 22 3 1 1 0) (numbers 23 5 2 2 36) (gauge_of 30 2 39))
unfolding computing
others_unticketed = (refl, refl, refl, refl)

-- ---- withdrawals (document 02)
abbrev zero_record : Record
zero_record = numbers 0 0 0 0 0

-- | frees its key's record. A line it had goes, empty and with a new ticket, to the hottest tracked record left without one
-- a filled line, an empty one; of a class without a line and of an untracked one nothing else changes
pub withdrawn_handed :
    (withdraw_outcome (lined 39) 21 ≡ leaves Withdrawn zero_record (numbers 22 7 2 4 40) (numbers 23 10 3 2 36) (gauge_of 60 4 40))
    × (withdraw_outcome (lined 39) 23 ≡ leaves Withdrawn (numbers 21 8 1 5 35) (numbers 22 7 2 2 40) zero_record (gauge_of 60 4 40))
    × (withdraw_outcome (lined 39) 22 ≡ leaves Withdrawn (numbers 21 8 1 5 35) zero_record (numbers 23 10 3 2 36) (gauge_of 60 4 39))
    × (withdraw_outcome (lined 39) 24 ≡ outcome (Ok Answer.Unknown) (lined 39))
unfolding computing
withdrawn_handed = (refl, refl, refl, refl)

-- | the hottest .., first among equals
-- the hottest comes last; the first of the equals has neither the least key nor the least slack
pub withdrawn_to_hottest :
    (withdraw_outcome (three_records (numbers 21 8 1 5 35) (numbers 22 6 0 1 0) (numbers 24 7 2 1 0) (gauge_of 60 4 39) 2) 21
    ≡ leaves Withdrawn zero_record (numbers 22 6 0 1 0) (numbers 24 7 2 4 40) (gauge_of 60 4 40))
    × (withdraw_outcome (three_records (numbers 21 8 1 5 35) (numbers 24 7 2 1 0) (numbers 22 7 1 1 0) (gauge_of 60 4 39) 2) 21
    ≡ leaves Withdrawn zero_record (numbers 24 7 2 4 40) (numbers 22 7 1 1 0) (gauge_of 60 4 40))
unfolding computing
withdrawn_to_hottest = (refl, refl)

-- however cold it is, and a free record before it gets none; also one that is hotter than the class withdrawn; and where the first of the
-- equals has the least key and the least slack
pub withdrawn_to_whoever :
    (withdraw_outcome (three_records zero_record (numbers 21 8 1 5 35) (numbers 22 0 0 1 0) (gauge_of 60 4 39) 2) 21
    ≡ leaves Withdrawn zero_record zero_record (numbers 22 0 0 4 40) (gauge_of 60 4 40))
    × (withdraw_outcome (three_records (numbers 21 6 1 5 35) (numbers 22 7 2 1 0) (numbers 23 10 3 2 36) (gauge_of 60 4 39) 2) 21
    ≡ leaves Withdrawn zero_record (numbers 22 7 2 4 40) (numbers 23 10 3 2 36) (gauge_of 60 4 40))
    × (withdraw_outcome (three_records (numbers 21 8 1 5 35) (numbers 22 7 1 1 0) (numbers 24 7 2 1 0) (gauge_of 60 4 39) 2) 21
    ≡ leaves Withdrawn zero_record (numbers 22 7 1 4 40) (numbers 24 7 2 1 0) (gauge_of 60 4 40))
unfolding computing
withdrawn_to_whoever = (refl, refl, refl)

-- | or becomes unused
-- and no ticket is given; a free record gets none
pub withdrawn_unused :
    (withdraw_outcome (three_records (numbers 0 0 0 0 0) (numbers 21 8 1 5 35) (numbers 23 10 3 2 36) (gauge_of 60 4 39) 2) 21
    ≡ leaves Withdrawn zero_record zero_record (numbers 23 10 3 2 36) (gauge_of 60 4 39))
    × (withdraw_outcome (three_records (numbers 0 0 0 0 0) (numbers 23 10 3 2 36) (numbers 0 0 0 0 0) (gauge_of 60 4 39) 2) 23
    ≡ leaves Withdrawn zero_record zero_record zero_record (gauge_of 60 4 39))
unfolding computing
withdrawn_unused = (refl, refl)

-- of a key with two records the first goes, and of a line with two records the one that is freed hands it on
pub withdrawn_doubled :
    (withdraw_outcome (three_records (numbers 21 8 1 5 35) (numbers 21 7 2 1 0) (numbers 23 10 3 2 36) (gauge_of 60 4 39) 2) 21
    ≡ leaves Withdrawn zero_record (numbers 21 7 2 4 40) (numbers 23 10 3 2 36) (gauge_of 60 4 40))
    × (withdraw_outcome (three_records (numbers 21 8 1 5 35) (numbers 22 7 2 1 0) (numbers 23 10 3 4 36) (gauge_of 60 4 39) 2) 21
    ≡ leaves Withdrawn zero_record (numbers 22 7 2 4 40) (numbers 23 10 3 4 36) (gauge_of 60 4 40))
unfolding computing
withdrawn_doubled = (refl, refl)

-- read again while the ceiling is over 0, the class gets heat ceiling + w and slack ceiling in its free record: without a line, and with
-- the one that it had, which nobody waited for
pub withdrawn_read_again :
    (read_outcome (withdraw_outcome (lined 39) 22).after 22 2
    ≡ leaves Passed (numbers 21 8 1 5 35) (numbers 22 6 4 1 0) (numbers 23 10 3 2 36) (gauge_of 62 4 39))
    × (read_outcome (withdraw_outcome (three_records (numbers 21 8 1 5 35) (numbers 0 0 0 0 0) (numbers 23 10 3 2 36) (gauge_of 60 4 39) 2) 21).after 21 1
    ≡ leaves (Wanted 1 40) (numbers 21 5 4 4 40) zero_record (numbers 23 10 3 2 36) (gauge_of 61 4 40))
unfolding computing
withdrawn_read_again = (refl, refl)

-- ---- a host's read
-- m as a C host lends it, with that many gauge bytes, and bytes for the ticket
abbrev by_host : ℕ → Memory → List ℕ → HostRead
by_host n m ticket = read_lent (host_lent m.table (put_gauge (replicate n 170) m.gauge) m.lines) ticket

abbrev reading : ℕ → ℕ → HostRead → Outcome ℕ HostRead
reading key w = exported_read (λ m. read_outcome m key w)

-- | an exported read lends 8 more bytes .., which get the ticket on wanted (document 02)
-- a ticket that it gives, and one that a look tells of
pub host_wanted :
    (reading 22 2 (by_host 24 (lined 72623859790382855) (replicate 8 170))
    ≡ outcome 4001
    (by_host 24
    (three_records (numbers 21 8 1 1 0) (numbers 22 9 2 4 72623859790382856) (numbers 23 10 3 2 36) (gauge_of 62 4 72623859790382856) 2)
    (8 ∷ 7 ∷ 6 ∷ 5 ∷ 4 ∷ 3 ∷ 2 ∷ 1 ∷ [])))
    × (reading 23 0 (by_host 24 (lined 39) (replicate 8 170)) ≡ outcome 4000 (by_host 24 (lined 39) (36 ∷ replicate 7 0)))
unfolding computing
host_wanted = (refl, refl)

-- | and otherwise stay
-- hit, passed
pub host_not_wanted :
    (reading 21 3 (by_host 24 (lined 39) (replicate 8 170))
    ≡ outcome 2001
    (by_host 24 (three_records (numbers 21 11 1 5 35) (numbers 22 7 2 1 0) (numbers 23 10 3 2 36) (gauge_of 63 4 39) 2) (replicate 8 170)))
    × (reading 22 1 (by_host 24 (lined 39) (replicate 8 170))
    ≡ outcome 104
    (by_host 24 (three_records (numbers 21 8 1 5 35) (numbers 22 8 2 1 0) (numbers 23 10 3 2 36) (gauge_of 61 4 39) 2) (replicate 8 170)))
unfolding computing
host_not_wanted = (refl, refl)

-- refused, with every byte as it was: by its weight, by the gauge's bytes, by the ticket's
abbrev Refuses : ℕ → ℕ → ℕ → ℕ → Type 0
Refuses gauge ticket w number =
    reading 23 w (by_host gauge (lined 39) (replicate ticket 170)) ≡ outcome number (by_host gauge (lined 39) (replicate ticket 170))

-- | (another length gives 1)
pub host_refused : Refuses 24 8 65536 2 × Refuses 23 8 3 1 × Refuses 25 8 3 1 × Refuses 24 7 3 1 × Refuses 24 9 3 1 × Refuses 24 0 3 1
unfolding computing
host_refused = (refl, refl, refl, refl, refl, refl)

-- | In the replay the class's true heat becomes 0. (Document 02)
-- and nothing else: no other class's, not the total, no picture
pub truth_withdrawn : (t : Truth) (key other : ℕ) → other ≢ key →
    ((withdraw_truth t key).heat key ≡ 0)
    × ((withdraw_truth t key).heat other ≡ t.heat other)
    × ((withdraw_truth t key).total ≡ t.total)
    × ((withdraw_truth t key).picture ≡ t.picture)
unfolding withdraw_truth
truth_withdrawn t key other apart = (at_same key 0 t.heat, at_other key other 0 t.heat apart, refl, refl)

-- ---- a host's withdrawal
abbrev withdrawing : ℕ → ℕ → Memory → Outcome ℕ HostMemory
withdrawing key gauge m = exported (λ m. withdraw_outcome m key) (by_host gauge m []).memory

-- | withdrawn (105 when exported), or unknown for an untracked key, and refusals 1, 3 and 10 apply
pub host_withdrawn :
    (withdrawing 21 24 (lined 39)
    ≡ outcome 105 (by_host 24 (three_records zero_record (numbers 22 7 2 4 40) (numbers 23 10 3 2 36) (gauge_of 60 4 40) 2) []).memory)
    × (withdrawing 24 24 (lined 39) ≡ outcome 102 (by_host 24 (lined 39) []).memory)
    × (withdrawing 21 23 (lined 39) ≡ outcome 1 (by_host 23 (lined 39) []).memory)
    × (withdrawing 21 24 (three_records (numbers 21 8 1 5 35) (numbers 22 7 2 1 9) (numbers 23 10 3 2 36) (gauge_of 60 4 39) 2)
    ≡ outcome 3 (by_host 24 (three_records (numbers 21 8 1 5 35) (numbers 22 7 2 1 9) (numbers 23 10 3 2 36) (gauge_of 60 4 39) 2) []).memory)
    × (withdrawing 24 24 (lined 9223372036854775808) ≡ outcome 10 (by_host 24 (lined 9223372036854775808) []).memory)
unfolding computing
host_withdrawn = (refl, refl, refl, refl, refl)

-- and no value comes with these
pub without_values : (values_of (Ok Withdrawn) ≡ []) × (values_of (Ok Changed) ≡ []) × (values_of (Ok Answer.Unknown) ≡ [])
unfolding computing
without_values = (refl, refl, refl)

-- ---- what a wanted says, and how many tickets a call gives
pub wanted_said : read_said (lined 39) 22 2 ≡ said (some 4001) (40 ∷ [])
unfolding computing read_said standing
wanted_said = refl

pub gives_bite : (¬ GivesOne (lined 39) (lined 41)) × (¬ GivesOne (lined 39) (lined 38))
unfolding computing
gives_bite = (λ d. let e : 41 ≤ 40 = d.1 in omega arith, λ d. let e : 39 ≤ 38 = d.0 in omega arith)

-- ---- lines and sizes
abbrev cleared : ℕ → ℕ → Memory
cleared k c = record { table = replicate (record_size * k) 0; gauge = gauge_of 0 0 0; lines = replicate (line_size * c) 0 }

-- a line that is not there
pub names_bite : (ticket : ℕ) →
    (¬ NamesLine 1 (Ok (Hit 1)))
    × (¬ NamesLine 1 (Ok (Wanted 1 ticket)))
    × (¬ NamesLine 1024 (Ok (Hit 1023)))
    × (¬ NamesLine 1024 (Ok (Wanted 1023 ticket)))
    × (¬ NamesLine 1 (Ok (Wanted 0 (2 ^ 64))))
names_bite ticket = (
  λ d. omega (arith, (d.hit 1 refl).0),
  λ d. omega (arith, (d.wanted 1 ticket refl).0),
  λ d. omega (arith, (d.hit 1023 refl).1),
  λ d. omega (arith, (d.wanted 1023 ticket refl).1),
  λ d. omega (arith, (d.wanted 0 (2 ^ 64) refl).2),
)

-- and a ticket that the bytes do not hold
abbrev ticket_in : Reply → ℕ
ticket_in a = get_or (values_of a) 0 0

pub tells_bite : (bytes : List ℕ) →
    (¬ TellsLine 1 (Ok (Hit 1)) 2001 bytes)
    × (¬ TellsLine 1 (Ok (Hit 1999)) 3999 bytes)
    × (¬ TellsLine 1 (Ok (Wanted 1 (get64 bytes 0))) 4001 bytes)
    × (¬ TellsLine 1 (Ok (Wanted 0 (get64 bytes 0 + 1))) 4000 bytes)
unfolding values_of
tells_bite bytes = (
  λ d. omega (arith, (d.hit (omega arith) (omega arith)).1),
  λ d. omega (arith, (d.hit (omega arith) (omega arith)).1),
  λ d. omega (arith, (d.wanted (omega arith)).1),
  λ d. let e : get64 bytes 0 + 1 ≡ get64 bytes 0 = ap ticket_in (d.wanted (omega arith)).0 in omega arith,
)

-- the least and the most
pub least_and_most : OfSizes (cleared 1 0) 1 0 × OfSizes (cleared 1024 1023) 1024 1023
least_and_most = (
  record { some_record = omega arith; records_few = omega arith; lines_fewer = omega arith; table = refl; lines = refl },
  record { some_record = omega arith; records_few = omega arith; lines_fewer = omega arith; table = refl; lines = refl },
)

-- ---- the journal, by its bytes
pub read_by_bytes : entry_at ((1 ∷ 0 ∷ 3 ∷ 1 ∷ 0 ∷ 0 ∷ 0 ∷ 0 ∷ 5 ∷ 0 ∷ 0 ∷ 0 ∷ 0 ∷ 0 ∷ 0 ∷ 128 ∷ []) ++ replicate 72 0) 0
    ≡ decoded (Some (Ok (Entry.Read 9223372036854775813 259))) 88
unfolding computing
read_by_bytes = refl

pub read_said_by_bytes : said_at ((1 ∷ 0 ∷ 3 ∷ 1 ∷ 0 ∷ 0 ∷ 0 ∷ 0 ∷ 5 ∷ []) ++ replicate 79 0) 0 ≡ said (some 1) (5 ∷ 259 ∷ [])
unfolding computing said_at form_good form_values
read_said_by_bytes = refl

-- | the journal keeps a fill's ticket in bytes 80 to 87 (document 02)
-- a second record: its key, its picture's place, its ticket
abbrev second_fill : List ℕ
second_fill = replicate 88 0 ++ (3 ∷ replicate 7 0) ++ rising 11 8 ++ replicate 64 9 ++ rising 1 8

pub fill_by_bytes :
    (entry_at second_fill 88 ≡ decoded (Some (Ok (Entry.Fill 1301839424133073931 104 578437695752307201))) 176)
    × (said_at second_fill 88 ≡ said (some 3) (1301839424133073931 ∷ 104 ∷ 578437695752307201 ∷ []))
unfolding computing said_at form_good form_values
fill_by_bytes = (refl, refl)

-- any ticket is of known form
pub fill_of_any_ticket : (a b c d e f g h : ℕ) →
    entry_at ((3 ∷ replicate 79 0) ++ (a ∷ b ∷ c ∷ d ∷ e ∷ f ∷ g ∷ h ∷ [])) 0
    ≡ decoded (Some (Ok (Entry.Fill 0 16 (get64 (a ∷ b ∷ c ∷ d ∷ e ∷ f ∷ g ∷ h ∷ []) 0)))) 88
unfolding computing
fill_of_any_ticket a b c d e f g h = refl

-- | The journal kind is 5, in the form of an aging but with the key. (Document 02)
pub withdrawal_by_bytes :
    (entry_at ((5 ∷ replicate 7 0) ++ rising 1 8 ++ replicate 72 0) 0 ≡ decoded (Some (Ok (Entry.Withdraw 578437695752307201))) 88)
    × (said_at ((5 ∷ replicate 7 0) ++ rising 1 8 ++ replicate 72 0) 0 ≡ said (some 5) (578437695752307201 ∷ []))
    × (said_at ((5 ∷ replicate 87 0)) 0 ≡ said (some 5) (0 ∷ []))
unfolding computing said_at form_good form_values
withdrawal_by_bytes = (refl, refl, refl)

-- passed over: a kind of 0; byte 1, byte 7 or the picture's last byte of a read; a fill's weight; an aging's weight or key; a
-- read's byte 87, an update's 83, an aging's 80; a kind of 6
abbrev Unknown : List ℕ → Type 0
Unknown j = entry_at j 0 ≡ decoded (Some (Err UnknownForm)) 88

pub unknown_forms :
    Unknown (replicate 88 0)
    × Unknown ((1 ∷ 1 ∷ []) ++ replicate 86 0)
    × Unknown ((1 ∷ []) ++ replicate 6 0 ++ (1 ∷ []) ++ replicate 80 0)
    × Unknown ((1 ∷ []) ++ replicate 78 0 ++ (1 ∷ []) ++ replicate 8 0)
    × Unknown ((3 ∷ 0 ∷ 0 ∷ 1 ∷ []) ++ replicate 84 0)
    × Unknown ((4 ∷ 0 ∷ 1 ∷ []) ++ replicate 85 0)
    × Unknown ((4 ∷ []) ++ replicate 7 0 ++ (1 ∷ []) ++ replicate 79 0)
    × Unknown ((1 ∷ []) ++ replicate 86 0 ++ (1 ∷ []))
    × Unknown ((2 ∷ []) ++ replicate 82 0 ++ (1 ∷ []) ++ replicate 4 0)
    × Unknown ((4 ∷ []) ++ replicate 79 0 ++ (1 ∷ []) ++ replicate 7 0)
    × Unknown ((6 ∷ []) ++ replicate 87 0)
unfolding computing
unknown_forms = (refl, refl, refl, refl, refl, refl, refl, refl, refl, refl, refl)

-- of a withdrawal each byte that is not 0, but for the kind's and those of the key, 8 to 15
abbrev is_seven : Option (Result Entry Refusal) → Bool
is_seven (Some (Ok entry)) = false
is_seven (Some (Err cause)) = eqb (number cause) 7
is_seven None = false

pub withdrawal_byte_by_byte :
    all_of (λ n. (leb 7 n && leb n 14) || is_seven (entry_at ((5 ∷ []) ++ replicate n 0 ++ (1 ∷ []) ++ replicate (86 - n) 0) 0).entry) (λ n. n) 87
    ≡ true
unfolding computing
withdrawal_byte_by_byte = refl

-- | 8 now means 1 to 87 bytes left (document 02)
pub short_end_stayed_at :
    (entry_at (replicate 89 0) 88 ≡ decoded (Some (Err ShortEnd)) 88) × (entry_at (replicate 175 0) 88 ≡ decoded (Some (Err ShortEnd)) 88)
unfolding computing
short_end_stayed_at = (refl, refl)

-- ---- what a run prints: 1 refused-7 0 0, 2 refused-8 0 0; and L
pub refused_rows : printed_all (journal_run sample_start (replicate 175 0)).rows
    ≡ 49 ∷ 32 ∷ 114 ∷ 101 ∷ 102 ∷ 117 ∷ 115 ∷ 101 ∷ 100 ∷ 45 ∷ 55 ∷ 32 ∷ 48 ∷ 32 ∷ 48 ∷ 10
    ∷ 50 ∷ 32 ∷ 114 ∷ 101 ∷ 102 ∷ 117 ∷ 115 ∷ 101 ∷ 100 ∷ 45 ∷ 56 ∷ 32 ∷ 48 ∷ 32 ∷ 48 ∷ 10 ∷ []
unfolding computing printed_all printed
refused_rows = refl

-- looks: of an untracked class while the line is unused, at an empty line, at a filled one, of an untracked class
pub looks_printed :
    (journal_run sample_start
    (sample_entry 1 5 0 0 0
    ++ sample_entry 1 5 3 0 0
    ++ sample_entry 1 5 0 0 0
    ++ sample_entry 3 5 0 105 1
    ++ sample_entry 1 5 0 0 0
    ++ sample_entry 1 9 0 0 0)).rows
    ≡ row 1 passed_word 0 0
    ∷ row 2 wanted_word 3 0
    ∷ row 3 wanted_word 3 0
    ∷ row 4 stored_word 3 0
    ∷ row 5 hit_word 3 0
    ∷ row 6 passed_word 3 0
    ∷ []
unfolding computing
looks_printed = refl

-- of a class that is tracked, of one that is not any more, and one of unknown form
pub withdrawals_printed :
    (journal_run sample_start
    (sample_entry 1 5 3 0 0
    ++ sample_entry 5 5 0 0 0
    ++ sample_entry 5 5 0 0 0
    ++ sample_entry 5 5 0 9 0)).rows
    ≡ row 1 wanted_word 3 0
    ∷ row 2 withdrawn_word 3 0
    ∷ row 3 unknown_word 3 0
    ∷ row 4 (refused_word ++ decimal 7) 3 0
    ∷ []
unfolding computing
withdrawals_printed = refl

-- its word, letter by letter
pub withdrawn_text : printed (row 2 withdrawn_word 3 0)
    ≡ 50 ∷ 32 ∷ 119 ∷ 105 ∷ 116 ∷ 104 ∷ 100 ∷ 114 ∷ 97 ∷ 119 ∷ 110 ∷ 32 ∷ 51 ∷ 32 ∷ 48 ∷ 10 ∷ []
unfolding computing printed
withdrawn_text = refl

pub ten_digits : decimal 4294967295 ≡ 52 ∷ 50 ∷ 57 ∷ 52 ∷ 57 ∷ 54 ∷ 55 ∷ 50 ∷ 57 ∷ 53 ∷ []
unfolding computing
ten_digits = refl

-- ---- the paper's number of each refusal
pub refusals_numbered :
    (number WrongSizes ≡ 1)
    × (number WrongWeight ≡ 2)
    × (number NotInOrder ≡ 3)
    × (number WrongPicture ≡ 4)
    × (number NoLine ≡ 5)
    × (number AlreadyFilled ≡ 6)
    × (number UnknownForm ≡ 7)
    × (number ShortEnd ≡ 8)
    × (number StaleTicket ≡ 9)
    × (number SerialSpent ≡ 10)
    × (number DoubledPosition ≡ 11)
    × (number WrongRing ≡ 12)
    × (number WrongEpoch ≡ 13)
unfolding number
refusals_numbered = (refl, refl, refl, refl, refl, refl, refl, refl, refl, refl, refl, refl, refl)

-- ---- among equally cold classes without a line the one with the most slack leaves, whatever its place and key
pub most_slack_leaves :
    read_outcome (three_records (numbers 12 5 1 1 0) (numbers 11 5 2 1 0) (numbers 13 5 0 1 0) (gauge_of 20 3 0) 0) 24 1
    ≡ outcome (Ok Passed) (three_records (numbers 12 5 1 1 0) (numbers 24 6 5 1 0) (numbers 13 5 0 1 0) (gauge_of 21 5 0) 0)
unfolding computing
most_slack_leaves = refl

-- a colder class with less slack leaves before it
pub colder_leaves :
    read_outcome (three_records (numbers 12 5 9 1 0) (numbers 11 5 1 1 0) (numbers 13 4 0 1 0) (gauge_of 20 3 0) 0) 24 1
    ≡ outcome (Ok Passed) (three_records (numbers 12 5 9 1 0) (numbers 11 5 1 1 0) (numbers 24 5 4 1 0) (gauge_of 21 4 0) 0)
unfolding computing
colder_leaves = refl

-- of classes with as much slack the first leaves, whatever their keys
pub first_of_equals_leaves :
    read_outcome (three_records (numbers 12 5 2 1 0) (numbers 11 5 2 1 0) (numbers 13 5 2 1 0) (gauge_of 20 3 0) 0) 24 1
    ≡ outcome (Ok Passed) (three_records (numbers 24 6 5 1 0) (numbers 11 5 2 1 0) (numbers 13 5 2 1 0) (gauge_of 21 5 0) 0)
unfolding computing
first_of_equals_leaves = refl

-- slacks are compared in all of their 64 bits, and whole, also where they are over the ceiling and the heats are 0
pub largest_slack_leaves :
    read_outcome
    (three_records
    (numbers 13 0 18446744073709551614 1 0)
    (numbers 12 0 9223372036854775807 1 0)
    (numbers 11 0 18446744073709551615 1 0)
    (gauge_of 20 3 0)
    0)
    24
    1
    ≡ outcome (Ok Passed)
    (three_records
    (numbers 13 0 18446744073709551614 1 0)
    (numbers 12 0 9223372036854775807 1 0)
    (numbers 24 4 3 1 0)
    (gauge_of 21 3 0)
    0)
unfolding computing
largest_slack_leaves = refl

-- a read that ages first chooses by what is left of heats and slacks: here all heats are 2 then, and the two larger slacks 2
pub aged_first_leaves :
    read_outcome (three_records (numbers 12 4 2 1 0) (numbers 11 5 3 1 0) (numbers 13 5 4 1 0) (gauge_of 4294967295 0 0) 0) 24 1
    ≡ outcome (Ok Passed) (three_records (numbers 12 2 1 1 0) (numbers 24 3 2 1 0) (numbers 13 2 2 1 0) (gauge_of 2147483648 2 0) 0)
unfolding computing
aged_first_leaves = refl

-- and of equally cold classes on lines the first loses its line, whatever their slacks
pub first_of_equals_yields :
    read_outcome (three_records (numbers 12 5 1 3 1) (numbers 11 5 3 5 2) (numbers 13 5 2 1 0) (gauge_of 20 3 2) 2) 13 1
    ≡ outcome (Ok (Wanted 0 3)) (three_records (numbers 12 5 1 1 0) (numbers 11 5 3 5 2) (numbers 13 6 2 2 3) (gauge_of 21 3 3) 2)
unfolding computing
first_of_equals_yields = refl
