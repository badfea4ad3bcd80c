-- Document 01's "At the edges", those of serials and tickets, and the order of tests where several causes hold, each run on the
-- definitions. Assumes nothing.
use Prim.Native.Nat.{ℕ, ◌*◌, ◌≤◌, ◌<◌}
use mathlib.Core.Path.{◌≡◌, refl}
use mathlib.Core.Bool.{true, false, and-false}
use mathlib.Core.Logic.{◌≢◌}
use mathlib.Core.List.{List, [], ◌∷◌}
use native.Mathlib.Omega.{arith}
use borrow.Author.Tests.{le-ltb, le-leb, eq-eqb, ne_eqb}
use lib.ListN.{length, replicate}
use Rattle.rules.specs.declared.Record.{Record}
use Rattle.rules.specs.declared.Answer.TheVariants.{Stored}
use Rattle.rules.specs.declared.Refusal.TheVariants.{WrongSizes, WrongWeight, NotInOrder, WrongPicture, NoLine, AlreadyFilled, StaleTicket, SerialSpent}
use Rattle.std.specs.Prelude.{Ok, Err}
use Rattle.rules.specs.Bytes.{record_size, record_count, line_size, line_count, put_record}
use Rattle.rules.specs.Table.{Memory, is_lined, record_in_order}
use Rattle.rules.specs.Calls.{most_weight, serial_limit, lent, sizes_good, read_weight_good, update_weight_good, picture_good, serial_good, must, verdict, sizes_test, order_test, serial_test, plain_verdict, read_verdict, update_verdict, fill_verdict, withdraw_verdict, read_outcome, fill_outcome, withdraw_outcome}
use Rattle.rules.specs.Sample.{gauge_of, numbers, sample_picture}
use Rattle.rules.proofs.Computing.{computing}
use Rattle.rules.proofs.Verdicts.{plain_accepted}

-- a fresh memory of k records and c lines, with a total
abbrev cleared : ℕ → ℕ → ℕ → Memory
cleared k c total = lent (replicate (record_size * k) 0) (gauge_of total 0 0) (replicate (line_size * c) 0)

-- two records, the first as given and the second free, and one line, at a serial
abbrev holding : Record → ℕ → Memory
holding r serial = lent (put_record (replicate (record_size * 2) 0) 0 r) (gauge_of 0 0 serial) (replicate line_size 0)

-- class 7 in a state
abbrev stated : ℕ → Memory
stated s = holding (numbers 7 0 0 s 0) 0

-- class 7 with ticket 5 on a line that is empty, and on one that is filled
abbrev at_serial : ℕ → Memory
at_serial serial = holding (numbers 7 0 0 2 5) serial

abbrev filled_at : ℕ → Memory
filled_at serial = holding (numbers 7 0 0 3 5) serial

-- ---- | 40,960 table bytes pass and 41,000 give 1 (document 02)
pub most_bytes_pass : sizes_good (replicate 40960 0) [] ≡ true
unfolding sizes_good record_count line_count
most_bytes_pass = refl

-- with as many lines as it can have
pub most_lines_pass : sizes_good (replicate 40960 0) (replicate 65472 0) ≡ true
unfolding sizes_good record_count line_count
most_lines_pass = refl

pub more_bytes_refused : sizes_good (replicate 41000 0) [] ≡ false
unfolding sizes_good record_count line_count
more_bytes_refused = refl

-- ---- | K = 1 with no lines passes; with one line, 1.
pub one_record_passes : plain_verdict (cleared 1 0 0) ≡ Ok tt
unfolding computing
one_record_passes = refl

pub one_record_one_line : plain_verdict (cleared 1 1 0) ≡ Err WrongSizes
unfolding computing
one_record_one_line = refl

-- ---- | Weight 65,535 passes, 65,536 gives 2.
pub most_weight_passes : read_verdict (cleared 1 0 0) 65535 ≡ Ok tt
unfolding computing
most_weight_passes = refl

pub more_weight_refused : read_verdict (cleared 1 0 0) 65536 ≡ Err WrongWeight
unfolding computing
more_weight_refused = refl

-- an update's weight has a test of its own
pub update_most_weight_passes : update_verdict (cleared 1 0 0) 65535 ≡ Ok tt
unfolding computing
update_most_weight_passes = refl

pub update_more_weight_refused : update_verdict (cleared 1 0 0) 65536 ≡ Err WrongWeight
unfolding computing
update_more_weight_refused = refl

-- | Updates of weight 0 are still refused with 2. (Document 02)
-- whatever they are lent, but for wrong sizes, which come first
pub update_of_nothing : (m : Memory) → update_verdict m 0 ≡ verdict (sizes_test m ∷ must false WrongWeight ∷ [])
unfolding update_verdict update_weight_good verdict
update_of_nothing m = refl

-- ---- | Total 4,294,967,294 and a read of 1: no aging; one more such read ages first and leaves 2,147,483,648.
abbrev after_one : Memory
after_one = (read_outcome (cleared 1 0 4294967294) 5 1).after

pub no_aging_yet : after_one.gauge.total ≡ 4294967295
unfolding computing
no_aging_yet = refl

pub ages_first : (read_outcome after_one 5 1).after.gauge.total ≡ 2147483648
unfolding computing
ages_first = refl

-- ---- | With C = 1, state 3 is in order and 4 is not.
pub state_3_in_order : plain_verdict (stated 3) ≡ Ok tt
unfolding computing
state_3_in_order = refl

pub state_4_not : plain_verdict (stated 4) ≡ Err NotInOrder
unfolding computing
state_4_not = refl

-- ---- | [The ticket] is 0 .. for records without a line; a table with another there is not in order (document 02)
-- of a free record, and of a tracked one in its lowest byte and in its highest
pub ticket_without_line :
    (plain_verdict (holding (numbers 0 0 0 0 1) 9) ≡ Err NotInOrder)
    × (plain_verdict (holding (numbers 7 0 0 1 1) 9) ≡ Err NotInOrder)
    × (plain_verdict (holding (numbers 7 0 0 1 9223372036854775808) 9) ≡ Err NotInOrder)
unfolding computing
ticket_without_line = (refl, refl, refl)

pub no_ticket_without_line : plain_verdict (holding (numbers 7 0 0 1 0) 9) ≡ Ok tt
unfolding computing
no_ticket_without_line = refl

-- on a line any ticket is in order, 0 or above the serial
pub any_ticket_on_line :
    (plain_verdict (holding (numbers 7 0 0 2 0) 9) ≡ Ok tt)
    × (plain_verdict (holding (numbers 7 0 0 2 10) 9) ≡ Ok tt)
    × (plain_verdict (holding (numbers 7 0 0 3 18446744073709551615) 9) ≡ Ok tt)
unfolding computing
any_ticket_on_line = (refl, refl, refl)

-- the serial is no part of the order
pub any_serial : plain_verdict (at_serial 18446744073709551615) ≡ Ok tt
unfolding computing
any_serial = refl

-- ---- | 10, a read over 0, update or fill when the serial is 9,223,372,036,854,775,808 or more (document 02)
-- and a withdrawal
pub last_serial_passes :
    (read_verdict (at_serial 9223372036854775807) 1 ≡ Ok tt)
    × (update_verdict (at_serial 9223372036854775807) 1 ≡ Ok tt)
    × (fill_verdict (at_serial 9223372036854775807) (sample_picture 0) ≡ Ok tt)
    × (withdraw_verdict (at_serial 9223372036854775807) ≡ Ok tt)
unfolding computing
last_serial_passes = (refl, refl, refl, refl)

pub serial_refused :
    (read_verdict (at_serial 9223372036854775808) 1 ≡ Err SerialSpent)
    × (update_verdict (at_serial 9223372036854775808) 1 ≡ Err SerialSpent)
    × (fill_verdict (at_serial 9223372036854775808) (sample_picture 0) ≡ Err SerialSpent)
    × (withdraw_verdict (at_serial 9223372036854775808) ≡ Err SerialSpent)
unfolding computing
serial_refused = (refl, refl, refl, refl)

pub most_serial_refused : read_verdict (at_serial 18446744073709551615) 65535 ≡ Err SerialSpent
unfolding computing
most_serial_refused = refl

-- ---- | Order of tests: 1, then 2 or 4, then 3, 5, 6.
pub sizes_before_weight : read_verdict (cleared 1 1 0) 65536 ≡ Err WrongSizes
unfolding computing
sizes_before_weight = refl

pub sizes_before_picture : fill_verdict (cleared 1 1 0) [] ≡ Err WrongSizes
unfolding computing
sizes_before_picture = refl

pub weight_before_order : read_verdict (stated 4) 65536 ≡ Err WrongWeight
unfolding computing
weight_before_order = refl

pub picture_before_order : fill_verdict (stated 4) [] ≡ Err WrongPicture
unfolding computing
picture_before_order = refl

pub order_before_line : (fill_outcome (stated 4) 9 (sample_picture 0) 0).answer ≡ Err NotInOrder
unfolding computing
order_before_line = refl

-- whatever the ticket
pub line_before_filled : (ticket : ℕ) → (fill_outcome (stated 3) 9 (sample_picture 0) ticket).answer ≡ Err NoLine
unfolding computing
line_before_filled ticket = refl

-- | 10, .. tested after 3 (document 02)
-- and so before 5, 6 and 9
pub order_before_serial :
    (read_verdict (holding (numbers 7 0 0 4 5) 9223372036854775808) 1 ≡ Err NotInOrder)
    × (update_verdict (holding (numbers 7 0 0 4 5) 9223372036854775808) 1 ≡ Err NotInOrder)
    × (fill_verdict (holding (numbers 7 0 0 4 5) 9223372036854775808) (sample_picture 0) ≡ Err NotInOrder)
    × (withdraw_verdict (holding (numbers 7 0 0 4 5) 9223372036854775808) ≡ Err NotInOrder)
unfolding computing
order_before_serial = (refl, refl, refl, refl)

-- | refusals 1, 3 and 10 apply (document 02)
-- one record that is not in order with a line too many, and no serial left
pub sizes_before_order :
    withdraw_verdict (lent (put_record (replicate record_size 0) 0 (numbers 7 0 0 9 5)) (gauge_of 0 0 9223372036854775808) (replicate line_size 0))
    ≡ Err WrongSizes
unfolding computing
sizes_before_order = refl

-- and all before the key is looked for
pub serial_before_unknown : (withdraw_outcome (at_serial 9223372036854775808) 9).answer ≡ Err SerialSpent
unfolding computing
serial_before_unknown = refl

pub serial_before_line : (fill_outcome (at_serial 9223372036854775808) 9 (sample_picture 0) 5).answer ≡ Err SerialSpent
unfolding computing
serial_before_line = refl

pub serial_before_filled : (fill_outcome (filled_at 9223372036854775808) 7 (sample_picture 0) 5).answer ≡ Err SerialSpent
unfolding computing
serial_before_filled = refl

pub serial_before_ticket : (fill_outcome (at_serial 9223372036854775808) 7 (sample_picture 0) 6).answer ≡ Err SerialSpent
unfolding computing
serial_before_ticket = refl

-- | 9, a fill with another ticket, tested after 6 (document 02)
-- its own or another
pub filled_before_ticket : (ticket : ℕ) → (fill_outcome (filled_at 8) 7 (sample_picture 0) ticket).answer ≡ Err AlreadyFilled
unfolding computing
filled_before_ticket ticket = refl

-- one more, one less, none, the serial, and one that agrees in the lowest byte
pub ticket_last :
    ((fill_outcome (at_serial 8) 7 (sample_picture 0) 6).answer ≡ Err StaleTicket)
    × ((fill_outcome (at_serial 8) 7 (sample_picture 0) 4).answer ≡ Err StaleTicket)
    × ((fill_outcome (at_serial 8) 7 (sample_picture 0) 0).answer ≡ Err StaleTicket)
    × ((fill_outcome (at_serial 8) 7 (sample_picture 0) 8).answer ≡ Err StaleTicket)
    × ((fill_outcome (at_serial 8) 7 (sample_picture 0) 261).answer ≡ Err StaleTicket)
unfolding computing
ticket_last = (refl, refl, refl, refl, refl)

pub ticket_brought_back : (fill_outcome (at_serial 8) 7 (sample_picture 0) 5).answer ≡ Ok Stored
unfolding computing
ticket_brought_back = refl

-- ---- of any record and any memory
-- | [The ticket] is 0 .. for records without a line; a table with another there is not in order
pub ticket_off_line : (total lines : ℕ) (r : Record) → r.state ≤ 1 → r.ticket ≢ 0 → record_in_order total lines r ≡ false
unfolding record_in_order is_lined
ticket_off_line total lines r off some-ticket = rw (le-ltb 1 r.state off, ne_eqb r.ticket 0 some-ticket, and-false)

-- | 10, a read over 0, update or fill when the serial is 9,223,372,036,854,775,808 or more, tested after 3
-- where no other test fails
pub spent_everywhere : (m : Memory) (w : ℕ) (picture : List ℕ) → plain_verdict m ≡ Ok tt → 9223372036854775808 ≤ m.gauge.serial →
    0 < w → w ≤ 65535 → length picture ≡ 64 →
    (read_verdict m w ≡ Err SerialSpent)
    × (update_verdict m w ≡ Err SerialSpent)
    × (fill_verdict m picture ≡ Err SerialSpent)
    × (withdraw_verdict m ≡ Err SerialSpent)
unfolding read_verdict update_verdict fill_verdict withdraw_verdict read_weight_good update_weight_good picture_good serial_good sizes_test order_test serial_test verdict
spent_everywhere m w picture accepted spent weighs light whole =
    let good = plain_accepted m accepted in
    let high = le-ltb m.gauge.serial serial_limit spent in
    let low = le-leb w most_weight light in (
      rw (good.sizes, good.order, low, ne_eqb w 0 (omega arith), high),
      rw (good.sizes, good.order, le-leb 1 w weighs, low, high),
      rw (good.sizes, good.order, eq-eqb (length picture) line_size whole, high),
      rw (good.sizes, good.order, high),
    )
