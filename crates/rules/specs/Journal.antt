-- The journal: its record forms, reading it from a position, and running a whole journal on a memory with the rows it prints.
use Rattle.std.specs.Prelude.{ℕ, zero, suc, ◌+◌, ◌-◌, ◌*◌, ◌/◌, ◌%◌, ◌≡◌, List, [], ◌∷◌, ◌++◌, Bool, true, ◌&&◌, length, get_or, take, drop, ltb, leb, eqb, if◌then◌else◌, Option, Some, None, Result, Ok, Err}
use Rattle.rules.specs.declared.Entry.{Entry}
use Rattle.rules.specs.declared.Entry.TheVariants.{Read, Update, Fill, Age, Withdraw}
use Rattle.rules.specs.declared.Decoded.{Decoded}
use Rattle.rules.specs.declared.Answer.TheVariants.{Aged, Changed, Unknown, Stored, Passed, Withdrawn, Hit, Wanted}
use Rattle.rules.specs.declared.Refusal.{Refusal}
use Rattle.rules.specs.declared.Refusal.TheVariants.{UnknownForm, ShortEnd}
use Rattle.rules.specs.Refusals.{number}
use Rattle.rules.specs.Bytes.{get64, line_size}
use Rattle.rules.specs.Table.{Memory}
use Rattle.rules.specs.Answers.{Reply, read_kind, update_kind, fill_kind, age_kind, withdraw_kind}
use Rattle.rules.specs.Steps.{Outcome, outcome}
use Rattle.rules.specs.Calls.{age_outcome, read_outcome, update_outcome, fill_outcome, withdraw_outcome}

-- ---- the forms, of the record that begins at a position
-- | no header. .. in records of 88 bytes (document 02)
abbrev pub entry_size : ℕ
entry_size = 88

-- | Byte 0 is the kind
unfoldable pub kind_at : List ℕ → ℕ → ℕ
kind_at j at = get_or j at 0

-- | Bytes 2 and 3 are the weight, .. least significant byte first
unfoldable pub weight_at : List ℕ → ℕ → ℕ
weight_at j at = get_or j (at + 2) 0 + get_or j (at + 3) 0 * 256

-- | 8 to 15 the key
unfoldable pub key_at : List ℕ → ℕ → ℕ
key_at j at = get64 j (at + 8)

-- | 16 to 79 the picture
unfoldable pub picture_place : ℕ → ℕ
picture_place at = at + 16

unfoldable pub picture_at : List ℕ → ℕ → List ℕ
picture_at j place = take line_size (drop place j)

-- | the journal keeps a fill's ticket in bytes 80 to 87 (document 02)
unfoldable pub ticket_at : List ℕ → ℕ → ℕ
ticket_at j at = get64 j (at + 80)

-- n bytes from a position are all 0
unfoldable pub zeros : List ℕ → ℕ → ℕ → Bool
zeros j at zero = true
zeros j at (suc n) = zeros j at n && eqb (get_or j (at + n) 0) 0

-- | Byte 1 is 0. .. 4 to 7 are 0
unfoldable pub gaps_zero : List ℕ → ℕ → Bool
gaps_zero j at = zeros j (at + 1) 1 && zeros j (at + 4) 4

-- | the picture is all 0 except in fills
unfoldable pub picture_zero : List ℕ → ℕ → Bool
picture_zero j at = zeros j (picture_place at) line_size

-- | Weight is 0 in fills and agings (and in withdrawals: document 02)
unfoldable pub weight_zero : List ℕ → ℕ → Bool
weight_zero j at = eqb (weight_at j at) 0

-- | an aging's key is 0
unfoldable pub key_zero : List ℕ → ℕ → Bool
key_zero j at = eqb (key_at j at) 0

-- | [the ticket is] zero otherwise
unfoldable pub ticket_zero : List ℕ → ℕ → Bool
ticket_zero j at = eqb (ticket_at j at) 0

-- | anything else is 7
unfoldable pub of_form : Bool → Entry → Result Entry Refusal
of_form good entry = if good then Ok entry else Err UnknownForm

-- | 1 read, 2 update, 3 fill, 4 age. .. kind is 5, in the form of an aging but with the key (document 02)
unfoldable pub whole_entry : List ℕ → ℕ → Result Entry Refusal
whole_entry j at =
    if eqb (kind_at j at) read_kind
    then of_form (gaps_zero j at && picture_zero j at && ticket_zero j at) (Read (key_at j at) (weight_at j at))
    else if eqb (kind_at j at) update_kind
    then of_form (gaps_zero j at && picture_zero j at && ticket_zero j at) (Update (key_at j at) (weight_at j at))
    else if eqb (kind_at j at) fill_kind
    then of_form (gaps_zero j at && weight_zero j at) (Fill (key_at j at) (picture_place at) (ticket_at j at))
    else if eqb (kind_at j at) age_kind
    then of_form (gaps_zero j at && weight_zero j at && picture_zero j at && key_zero j at && ticket_zero j at) Age
    else of_form
    (eqb (kind_at j at) withdraw_kind && gaps_zero j at && weight_zero j at && picture_zero j at && ticket_zero j at)
    (Withdraw (key_at j at))

-- ---- reading from a position
-- | A reader that holds the lent journal and its position gives one record after another. A 7 moves it past that record, an 8
-- | leaves it there, and with no byte left it answers done.
unfoldable pub decoded : Option (Result Entry Refusal) → ℕ → Decoded
decoded entry next = record { entry = entry; next = next }

unfoldable pub entry_at : List ℕ → ℕ → Decoded
entry_at j at =
    if leb (length j) at
    then decoded None at
    else if ltb (length j - at) entry_size
    then decoded (Some (Err ShortEnd)) at
    else decoded (Some (whole_entry j at)) (at + entry_size)

-- ---- a run
-- | the answer's word without its line number (or `refused-` and the number)
-- a number in decimal, of at most 20 digits, as 64 bits hold
unfoldable pub digits : ℕ → ℕ → List ℕ
digits zero n = []
digits (suc most) n = if ltb n 10 then (48 + n) ∷ [] else digits most (n / 10) ++ ((48 + n % 10) ∷ [])

unfoldable pub decimal : ℕ → List ℕ
decimal n = digits 20 n

-- the words, letter by letter
abbrev pub aged_word : List ℕ
aged_word = 97 ∷ 103 ∷ 101 ∷ 100 ∷ []

abbrev pub changed_word : List ℕ
changed_word = 99 ∷ 104 ∷ 97 ∷ 110 ∷ 103 ∷ 101 ∷ 100 ∷ []

abbrev pub unknown_word : List ℕ
unknown_word = 117 ∷ 110 ∷ 107 ∷ 110 ∷ 111 ∷ 119 ∷ 110 ∷ []

abbrev pub stored_word : List ℕ
stored_word = 115 ∷ 116 ∷ 111 ∷ 114 ∷ 101 ∷ 100 ∷ []

abbrev pub passed_word : List ℕ
passed_word = 112 ∷ 97 ∷ 115 ∷ 115 ∷ 101 ∷ 100 ∷ []

abbrev pub withdrawn_word : List ℕ
withdrawn_word = 119 ∷ 105 ∷ 116 ∷ 104 ∷ 100 ∷ 114 ∷ 97 ∷ 119 ∷ 110 ∷ []

abbrev pub hit_word : List ℕ
hit_word = 104 ∷ 105 ∷ 116 ∷ []

abbrev pub wanted_word : List ℕ
wanted_word = 119 ∷ 97 ∷ 110 ∷ 116 ∷ 101 ∷ 100 ∷ []

abbrev pub refused_word : List ℕ
refused_word = 114 ∷ 101 ∷ 102 ∷ 117 ∷ 115 ∷ 101 ∷ 100 ∷ 45 ∷ []

unfoldable pub word_of : Reply → List ℕ
word_of (Ok Aged) = aged_word
word_of (Ok Changed) = changed_word
word_of (Ok Unknown) = unknown_word
word_of (Ok Stored) = stored_word
word_of (Ok Passed) = passed_word
word_of (Ok Withdrawn) = withdrawn_word
word_of (Ok (Hit n)) = hit_word
word_of (Ok (Wanted n ticket)) = wanted_word
word_of (Err cause) = refused_word ++ decimal (number cause)

-- | prints per record: its number from 1, the answer's word .., total, ceiling, one space between
pub record Row : Type 0 where
  pub number : ℕ
  pub word : List ℕ
  pub total : ℕ
  pub ceiling : ℕ

unfoldable pub printed : Row → List ℕ
printed row =
    decimal row.number ++ (32 ∷ row.word) ++ (32 ∷ decimal row.total) ++ (32 ∷ decimal row.ceiling) ++ (10 ∷ [])

unfoldable pub printed_all : List Row → List ℕ
printed_all [] = []
printed_all (row ∷ rows) = printed row ++ printed_all rows

-- A run so far: the memory, the reader's position, how many records have been numbered, and the rows printed.
pub record Run : Type 0 where
  pub memory : Memory
  pub at : ℕ
  pub numbered : ℕ
  pub rows : List Row

unfoldable pub row_of : ℕ → Outcome Reply Memory → Row
row_of n o =
    record {
      number = n;
      word = word_of o.answer;
      total = o.after.gauge.total;
      ceiling = o.after.gauge.ceiling;
    }

unfoldable pub printing : Run → ℕ → Outcome Reply Memory → Run
printing run next o =
    record {
      memory = o.after;
      at = next;
      numbered = suc run.numbered;
      rows = run.rows ++ (row_of (suc run.numbered) o ∷ []);
    }

-- what a record does
unfoldable pub performed : List ℕ → Result Entry Refusal → Memory → Outcome Reply Memory
performed j (Ok (Read key w)) m = read_outcome m key w
performed j (Ok (Update key w)) m = update_outcome m key w
performed j (Ok (Fill key place ticket)) m = fill_outcome m key (picture_at j place) ticket
performed j (Ok Age) m = age_outcome m
performed j (Ok (Withdraw key)) m = withdraw_outcome m key
performed j (Err cause) m = outcome (Err cause) m

-- | 7: all [left as it was]; the program reads on. 8: all; the program ends. Both are numbered and printed like the others.
-- (Where none is left, nothing is done and nothing printed.)
unfoldable pub carried : List ℕ → Run → ℕ → Option (Result Entry Refusal) → Run
carried j run next None = run
carried j run next (Some entry) = printing run next (performed j entry run.memory)

unfoldable pub perform : List ℕ → Run → Decoded → Run
perform j run d = carried j run d.next d.entry

-- the next n records of a journal
unfoldable pub run_for : List ℕ → Run → ℕ → Run
run_for j run zero = run
run_for j run (suc n) = perform j (run_for j run n) (entry_at j (run_for j run n).at)

-- | A short end counts as one more record here.
unfoldable pub entry_count : List ℕ → ℕ
entry_count j = (length j + (entry_size - 1)) / entry_size

-- a run that goes on: at the start of a piece of the journal, with so many records numbered before it
abbrev pub going_on : Memory → ℕ → Run
going_on m numbered = record { memory = m; at = 0; numbered = numbered; rows = [] }

-- the run of a journal, by that of its first piece and that of the rest
pub record Joined (first rest all : Run) : Type 0 where
  pub memory : all.memory ≡ rest.memory
  pub numbered : all.numbered ≡ rest.numbered
  pub rows : all.rows ≡ first.rows ++ rest.rows

-- | reads a journal .., starts fresh
unfoldable pub start_run : Memory → Run
start_run m = going_on m 0

unfoldable pub journal_run : Memory → List ℕ → Run
journal_run m j = run_for j (start_run m) (entry_count j)
