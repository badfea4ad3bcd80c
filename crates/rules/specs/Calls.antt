-- One definition a call: its answer and all it leaves, for accepted and refused calls alike, by a Rattle caller or a C host.
use Rattle.std.specs.Prelude.{ℕ, ◌*◌, ◌≤◌, ◌<◌, ◌≡◌, List, [], ◌∷◌, Bool, ◌&&◌, ◌||◌, length, replicate, ltb, leb, eqb, if◌then◌else◌, Result, Ok, Err}
use Rattle.std.proofs.Math.Option.{Option, none}
use Rattle.rules.specs.declared.Gauge.{Gauge}
use Rattle.rules.specs.declared.View.{View}
use Rattle.rules.specs.declared.Hub.{Hub}
use Rattle.rules.specs.declared.Answer.TheVariants.{Aged, Changed, Unknown, Stored, Passed, Withdrawn, Hit, Wanted}
use Rattle.rules.specs.declared.Refusal.{Refusal}
use Rattle.rules.specs.declared.Refusal.TheVariants.{WrongSizes, WrongWeight, NotInOrder, WrongPicture, SerialSpent}
use Rattle.rules.specs.Refusals.{number}
use Rattle.rules.specs.Bytes.{number_size, put64, record_size, record_count, line_size, line_count, gauge_size, gauge_at, put_gauge}
use Rattle.rules.specs.Table.{Memory, in_order, lookup, places, size, line_total, fresh_memory}
use Rattle.rules.specs.Answers.{Reply, Completion, number_of, done_number, completion_number}
use Rattle.rules.specs.Steps.{Outcome, outcome, age_steps, read_steps, update_steps, fill_steps, withdraw_steps, shown_line, levelled_sum}

-- ---- the tests
-- | K from 1 to 1,024
abbrev pub most_records : ℕ
most_records = 1024

-- | table not whole records, K outside 1 to 1,024, lines not whole, C not under K
unfoldable pub sizes_good : List ℕ → List ℕ → Bool
sizes_good table lines =
    eqb (record_size * record_count table) (length table)
    && leb 1 (record_count table)
    && leb (record_count table) most_records
    && eqb (line_size * line_count lines) (length lines)
    && ltb (line_count lines) (record_count table)

-- | K records of [40] bytes, .. K from 1 to 1,024. .. C lines of 64 bytes, .. C from 0 to K − 1
pub record OfSizes (m : Memory) (k c : ℕ) : Type 0 where
  pub some_record : 1 ≤ k
  pub records_few : k ≤ most_records
  pub lines_fewer : c < k
  pub table : length m.table ≡ record_size * k
  pub lines : length m.lines ≡ line_size * c

-- | a key with weight w, the number of pieces waiting, 1 to 65,535
abbrev pub most_weight : ℕ
most_weight = 65535

-- | read .. weight .. over 65,535. .. A read of weight 0 is now accepted. (Document 02)
unfoldable pub read_weight_good : ℕ → Bool
read_weight_good w = leb w most_weight

-- | Update of a key with weight w, 1 to 65,535. .. Updates of weight 0 are still refused with 2. (Document 02)
unfoldable pub update_weight_good : ℕ → Bool
update_weight_good w = leb 1 w && leb w most_weight

-- | picture to fill not 64 bytes
unfoldable pub picture_good : List ℕ → Bool
picture_good picture = eqb (length picture) line_size

unfoldable pub order_good : Memory → Bool
order_good m = in_order (places m) (size m) (line_total m) m.gauge

-- | when the serial is 9,223,372,036,854,775,808 or more (document 02)
abbrev pub serial_limit : ℕ
serial_limit = 9223372036854775808

unfoldable pub serial_good : Memory → Bool
serial_good m = ltb m.gauge.serial serial_limit

-- A test, and why a call is refused where it fails.
pub record Test : Type 0 where
  pub passes : Bool
  pub cause : Refusal

abbrev pub must : Bool → Refusal → Test
must good cause = record { passes = good; cause = cause }

-- by the first test that fails
unfoldable pub verdict : List Test → Completion
verdict [] = Ok tt
verdict (t ∷ ts) = if t.passes then verdict ts else Err t.cause

-- | Order of tests: 1, then 2 or 4, then 3, 5, 6. .. 9, .. tested after 6; 10, .. tested after 3. (5, 6 and 9 are among the steps of a
-- | fill.)
unfoldable pub sizes_test : Memory → Test
sizes_test m = must (sizes_good m.table m.lines) WrongSizes

unfoldable pub order_test : Memory → Test
order_test m = must (order_good m) NotInOrder

unfoldable pub serial_test : Bool → Test
serial_test good = must good SerialSpent

unfoldable pub unless : {Given : Type 0} → Completion → (Refusal → Given) → Given → Given
unless (Ok u) refused given = given
unless (Err cause) refused given = refused cause

-- | Returned: the number. Left as it was: all lent memory
abbrev pub leaving : {Given Lent : Type 0} → Lent → Refusal → Outcome (Result Given Refusal) Lent
leaving lent cause = outcome (Err cause) lent

-- ---- the calls
-- the tests of aging, show and levelled sum
unfoldable pub plain_verdict : Memory → Completion
plain_verdict m = verdict (sizes_test m ∷ order_test m ∷ [])

unfoldable pub age_outcome : Memory → Outcome Reply Memory
age_outcome m = unless (plain_verdict m) (leaving m) (age_steps m)

-- | a read over 0
unfoldable pub read_verdict : Memory → ℕ → Completion
read_verdict m w =
    verdict (sizes_test m ∷ must (read_weight_good w) WrongWeight ∷ order_test m ∷ serial_test (eqb w 0 || serial_good m) ∷ [])

unfoldable pub read_outcome : Memory → ℕ → ℕ → Outcome Reply Memory
read_outcome m key w = unless (read_verdict m w) (leaving m) (read_steps m key w)

unfoldable pub update_verdict : Memory → ℕ → Completion
update_verdict m w =
    verdict (sizes_test m ∷ must (update_weight_good w) WrongWeight ∷ order_test m ∷ serial_test (serial_good m) ∷ [])

unfoldable pub update_outcome : Memory → ℕ → ℕ → Outcome Reply Memory
update_outcome m key w = unless (update_verdict m w) (leaving m) (update_steps m key w)

unfoldable pub fill_verdict : Memory → List ℕ → Completion
fill_verdict m picture =
    verdict (sizes_test m ∷ must (picture_good picture) WrongPicture ∷ order_test m ∷ serial_test (serial_good m) ∷ [])

unfoldable pub fill_outcome : Memory → ℕ → List ℕ → ℕ → Outcome Reply Memory
fill_outcome m key picture ticket = unless (fill_verdict m picture) (leaving m) (fill_steps m key picture ticket)

-- | refusals 1, 3 and 10 apply (document 02)
unfoldable pub withdraw_verdict : Memory → Completion
withdraw_verdict m = verdict (sizes_test m ∷ order_test m ∷ serial_test (serial_good m) ∷ [])

unfoldable pub withdraw_outcome : Memory → ℕ → Outcome Reply Memory
withdraw_outcome m key = unless (withdraw_verdict m) (leaving m) (withdraw_steps m key)

-- | Fresh gives only 1. .. Fresh .. answers done.
unfoldable pub fresh_outcome : Memory → Outcome Completion Memory
fresh_outcome m =
    unless (verdict (sizes_test m ∷ [])) (leaving m) (outcome (Ok tt) (fresh_memory m))

-- | Show gives no numbers: where cause 1 or 3 holds, it returns the stand-in too.
unfoldable pub show_line : Memory → ℕ → Option ℕ
show_line m key = unless (plain_verdict m) (λ cause. none) (shown_line (lookup (places m) (size m) key))

-- | Levelled sum .. Refusals 1 and 3.
unfoldable pub levelled_outcome : Memory → Result ℕ Refusal
levelled_outcome m = unless (plain_verdict m) (λ cause. Err cause) (Ok (levelled_sum m))

-- ---- in the words of a function's contract
abbrev pub lent : List ℕ → Gauge → List ℕ → Memory
lent table gauge lines = record { table = table; gauge = gauge; lines = lines }

-- what a view shows, and what a hub holds
abbrev pub seen : View → Memory
seen v = lent v.table.now v.gauge v.lines.now

abbrev pub memory : Hub → Memory
memory h = lent h.table.now h.gauge.now h.lines.now

-- a hub still holds what it was lent: the table in its place, as long as it was, the gauge in its place, and the lines as they were
abbrev pub SameLent : Hub → Hub → Type 0
SameLent was is =
    (is.table.ghost_name ≡ was.table.ghost_name) × (length is.table.now ≡ length was.table.now)
    × (is.gauge.ghost_name ≡ was.gauge.ghost_name) × (is.lines ≡ was.lines)

-- ---- a call by a C host
-- | The hub's host program is in C; it calls through exported functions and lends the gauge as [24] bytes
pub record HostMemory : Type 0 where
  pub table : List ℕ
  pub gauge : List ℕ
  pub lines : List ℕ

abbrev pub host_lent : List ℕ → List ℕ → List ℕ → HostMemory
host_lent table gauge lines = record { table = table; gauge = gauge; lines = lines }

-- what a host's memory holds
unfoldable pub held : HostMemory → Memory
held h = record { table = h.table; gauge = gauge_at h.gauge; lines = h.lines }

-- what a host's memory becomes where a call leaves m
unfoldable pub stored : HostMemory → Memory → HostMemory
stored h m = record { table = m.table; gauge = put_gauge h.gauge m.gauge; lines = m.lines }

-- | gauge bytes not [24]
unfoldable pub gauge_test : HostMemory → Test
gauge_test h = must (eqb (length h.gauge) gauge_size) WrongSizes

unfoldable pub hosted :
    {Given : Type 0} → (Memory → Outcome (Result Given Refusal) Memory) → HostMemory → Outcome (Result Given Refusal) HostMemory
hosted call h =
    unless (verdict (gauge_test h ∷ [])) (leaving h)
    (outcome (call (held h)).answer (stored h (call (held h)).after))

-- | An exported read, update, fill or aging returns one number
-- (and a withdrawal: document 02)
unfoldable pub exported : (Memory → Outcome Reply Memory) → HostMemory → Outcome ℕ HostMemory
exported call h = outcome (number_of (hosted call h).answer) (hosted call h).after

-- ---- a read by a C host
-- | an exported read lends 8 more bytes (document 02)
pub record HostRead : Type 0 where
  pub memory : HostMemory
  pub ticket : List ℕ

abbrev pub read_lent : HostMemory → List ℕ → HostRead
read_lent h ticket = record { memory = h; ticket = ticket }

-- | a number in 8 bytes .. A length that isn't whole is refused as a wrong count. .. another length gives 1
unfoldable pub number_test : List ℕ → Test
number_test bytes = must (eqb (length bytes) number_size) WrongSizes

-- | which get the ticket on wanted and otherwise stay
unfoldable pub put_ticket : List ℕ → Reply → List ℕ
put_ticket bytes (Ok Aged) = bytes
put_ticket bytes (Ok Changed) = bytes
put_ticket bytes (Ok Unknown) = bytes
put_ticket bytes (Ok Stored) = bytes
put_ticket bytes (Ok Passed) = bytes
put_ticket bytes (Ok Withdrawn) = bytes
put_ticket bytes (Ok (Hit n)) = bytes
put_ticket bytes (Ok (Wanted n ticket)) = put64 bytes 0 ticket
put_ticket bytes (Err cause) = bytes

unfoldable pub hosted_read : (Memory → Outcome Reply Memory) → HostRead → Outcome Reply HostRead
hosted_read call h =
    unless (verdict (number_test h.ticket ∷ [])) (leaving h)
    (outcome (hosted call h.memory).answer
    (read_lent (hosted call h.memory).after (put_ticket h.ticket (hosted call h.memory).answer)))

unfoldable pub exported_read : (Memory → Outcome Reply Memory) → HostRead → Outcome ℕ HostRead
exported_read call h = outcome (number_of (hosted_read call h).answer) (hosted_read call h).after

-- ---- fresh and the levelled sum by a C host
-- | Fresh, .. answers done. (The number that a host is told for it: Answers.antt.)
unfoldable pub exported_fresh : HostMemory → Outcome ℕ HostMemory
exported_fresh h = outcome (completion_number (hosted fresh_outcome h).answer) (hosted fresh_outcome h).after

-- the number that a host is told, and what becomes of the 8 bytes that it lent for a value
unfoldable pub put_value : List ℕ → Result ℕ Refusal → Outcome ℕ (List ℕ)
put_value bytes (Ok n) = outcome done_number (put64 bytes 0 n)
put_value bytes (Err cause) = outcome (number cause) bytes

unfoldable pub exported_sum : HostMemory → List ℕ → Outcome ℕ (List ℕ)
exported_sum h sum =
    unless (verdict (gauge_test h ∷ number_test sum ∷ [])) (λ cause. outcome (number cause) sum) (put_value sum (levelled_outcome (held h)))

-- ---- the same, by all tests in one row and byte by byte
-- | Fresh: every table byte and the gauge are zero. The lines keep their bytes. .. Fresh gives only 1.
abbrev pub fresh_told : HostMemory → Outcome ℕ HostMemory
fresh_told h =
    unless (verdict (gauge_test h ∷ sizes_test (held h) ∷ [])) (λ cause. outcome (number cause) h)
    (outcome 0 (host_lent (replicate (length h.table) 0) (replicate gauge_size 0) h.lines))

-- | Refusals 1 and 3.
abbrev pub sum_told : HostMemory → List ℕ → Outcome ℕ (List ℕ)
sum_told h sum =
    unless (verdict (gauge_test h ∷ must (eqb (length sum) 8) WrongSizes ∷ sizes_test (held h) ∷ order_test (held h) ∷ [])) (λ cause. outcome (number cause) sum)
    (outcome 0 (put64 sum 0 (levelled_sum (held h))))
