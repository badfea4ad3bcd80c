-- Resizes with a known outcome, and what keeps the promises from being thinned unnoticed: memories that miss a clause by one. Each example
-- is run. Assumes nothing.
use Prim.Native.Nat.{ℕ, zero, suc, ◌+◌, ◌*◌, ◌≤◌, ◌<◌}
use mathlib.Core.Path.{◌≡◌, refl, sym, ap}
use mathlib.Core.Bool.{Bool, true, false, true≢false, ◌||◌}
use mathlib.Core.Logic.{◌⊎◌, inl, inr, ⊎_elim}
use mathlib.Core.Option.{none, some}
use mathlib.Core.List.{List, [], ◌∷◌, ◌++◌}
use native.Mathlib.Omega.{arith}
use lib.ListN.{get_or, replicate, take}
use lib.Dec.{eqb}
use Rattle.std.specs.Prelude.{min, Ok, Err}
use Rattle.rules.specs.declared.Record.{Record}
use Rattle.rules.specs.declared.Gauge.{Gauge}
use Rattle.rules.specs.declared.Refusal.{Refusal}
use Rattle.rules.specs.declared.Refusal.TheVariants.{WrongSizes, NotInOrder, SerialSpent}
use Rattle.rules.specs.Answers.{said}
use Rattle.rules.specs.declared.Answer.TheVariants.{Aged}
use Rattle.rules.specs.Bytes.{IsBytes, record_size, put_record, put_gauge}
use Rattle.rules.specs.Pass.{count_where, sum_where}
use Rattle.rules.specs.Table.{Memory, is_unlined, places, size, line_total, with_table, with_lines}
use Rattle.rules.specs.Steps.{outcome, age_steps, level}
use Rattle.rules.specs.Sample.{gauge_of, numbers, sample_picture}
use Rattle.rules.specs.Calls.{unless, age_outcome, HostMemory, host_lent}
use Rattle.rules.specs.Replay.{Truth}
use Rattle.rules.proofs.Invariant.{Holds}
use Rattle.rules.proofs.Searches.{clash}
use Rattle.resizing.specs.Resize.{tracked_count, lined_count, resize_truth, resize_outcome, resize_said, hosted_resize, exported_resize, resize_told}
use Rattle.resizing.specs.Kept.{Foremost, Stands, Resized, NobodyLoses}
use Rattle.resizing.proofs.Goes.{none_counted}
use Rattle.resizing.proofs.ResizeHolds.{resize_holds}
use Rattle.resizing.proofs.Refusals.{resize_leaves, hosted_resize_leaves}
use Rattle.resizing.proofs.Keeps.{resize_keeps, resize_gives, resize_loses_nobody, resize_same, resize_in_order}
use Rattle.resizing.proofs.Told.{host_resize}
use Rattle.resizing.proofs.Computing.{computing}

-- ---- what the examples are made of
-- a memory by its records, its gauge and one byte of each line, whose 64 bytes are alike
unfoldable pub table_of : List Record → List ℕ
table_of [] = []
table_of (r ∷ rs) = put_record (replicate record_size 0) 0 r ++ table_of rs

unfoldable pub lines_of : List ℕ → List ℕ
lines_of [] = []
lines_of (byte ∷ bytes) = sample_picture byte ++ lines_of bytes

abbrev of_records : List Record → Gauge → List ℕ → Memory
of_records rs gauge bytes = record { table = table_of rs; gauge = gauge; lines = lines_of bytes }

-- what is lent for so many records: no byte of it and no number is zero
abbrev target : ℕ → List ℕ → Memory
target records bytes = record { table = replicate (records * record_size) 170; gauge = gauge_of 6 7 8; lines = lines_of bytes }

-- an accepted resize, and all that it leaves of the target
abbrev Becomes : Memory → Memory → List Record → Gauge → List ℕ → Type 0
Becomes source to rs gauge bytes = resize_outcome source to ≡ outcome (Ok tt) (of_records rs gauge bytes)

abbrev free : Record
free = numbers 0 0 0 0 0

-- ---- fewer lines
-- three records, the first two on the two lines, filled, and heated so
abbrev lined : ℕ → ℕ → ℕ → Memory
lined a b c = of_records (numbers 1 a 0 3 1 ∷ numbers 2 b 0 5 2 ∷ numbers 3 c 1 1 0 ∷ []) (gauge_of 12 1 2) (11 ∷ 12 ∷ [])

-- | If more are on lines than the new C, the coldest lose them, first among equals.
-- the colder one, wherever it is; of two equally cold ones the first, whatever their other numbers are; a colder record without a line is
-- left alone
pub loses_line :
    Becomes (lined 5 4 3) (target 3 (21 ∷ []))
    (numbers 1 5 0 3 1 ∷ numbers 2 4 0 1 0 ∷ numbers 3 3 1 1 0 ∷ []) (gauge_of 12 1 2) (11 ∷ [])
    × Becomes (lined 4 5 3) (target 3 (21 ∷ []))
    (numbers 1 4 0 1 0 ∷ numbers 2 5 0 3 2 ∷ numbers 3 3 1 1 0 ∷ []) (gauge_of 12 1 2) (12 ∷ [])
    × Becomes
    (of_records (numbers 1 4 1 3 1 ∷ numbers 2 4 2 5 2 ∷ numbers 3 3 1 1 0 ∷ []) (gauge_of 12 1 2) (11 ∷ 12 ∷ []))
    (target 3 (21 ∷ []))
    (numbers 1 4 1 1 0 ∷ numbers 2 4 2 3 2 ∷ numbers 3 3 1 1 0 ∷ []) (gauge_of 12 1 2) (12 ∷ [])
    × Becomes
    (of_records (numbers 2 4 2 4 2 ∷ numbers 1 4 1 3 1 ∷ numbers 3 3 1 1 0 ∷ []) (gauge_of 12 1 2) (11 ∷ 12 ∷ []))
    (target 3 (21 ∷ []))
    (numbers 2 4 2 1 0 ∷ numbers 1 4 1 3 1 ∷ numbers 3 3 1 1 0 ∷ []) (gauge_of 12 1 2) (11 ∷ [])
unfolding computing table_of lines_of
loses_line = (refl, refl, refl, refl)

-- two in turn, to the last line; the first two of three equally cold ones; none where C suffices, and none where it is less than the lines
-- that there were and not than those in use
pub lose_lines :
    Becomes (lined 5 4 3) (target 3 [])
    (numbers 1 5 0 1 0 ∷ numbers 2 4 0 1 0 ∷ numbers 3 3 1 1 0 ∷ []) (gauge_of 12 1 2) []
    × Becomes
    (of_records (numbers 1 4 0 3 1 ∷ numbers 2 4 0 5 2 ∷ numbers 3 4 1 6 3 ∷ numbers 4 3 0 1 0 ∷ []) (gauge_of 20 1 3)
    (11 ∷ 12 ∷ 13 ∷ []))
    (target 4 (21 ∷ []))
    (numbers 1 4 0 1 0 ∷ numbers 2 4 0 1 0 ∷ numbers 3 4 1 2 3 ∷ numbers 4 3 0 1 0 ∷ []) (gauge_of 20 1 3) (13 ∷ [])
    × Becomes (lined 5 4 3) (target 3 (21 ∷ 22 ∷ []))
    (numbers 1 5 0 3 1 ∷ numbers 2 4 0 5 2 ∷ numbers 3 3 1 1 0 ∷ []) (gauge_of 12 1 2) (11 ∷ 12 ∷ [])
    × Becomes (of_records (numbers 1 4 0 5 3 ∷ numbers 2 3 0 1 0 ∷ free ∷ []) (gauge_of 7 0 4) (11 ∷ 12 ∷ [])) (target 2 (21 ∷ []))
    (numbers 1 4 0 3 3 ∷ numbers 2 3 0 1 0 ∷ []) (gauge_of 7 0 4) (12 ∷ [])
unfolding computing table_of lines_of
lose_lines = (refl, refl, refl, refl)

-- ---- fewer records
-- four records, the last on the line, empty, and of a heat of 2
abbrev waiting : Record → Record → Record → ℕ → Memory
waiting a b c ceiling = of_records (a ∷ b ∷ c ∷ numbers 4 2 0 2 1 ∷ []) (gauge_of 12 ceiling 1) (11 ∷ [])

-- | Then, if more are tracked than the new K, victims of [request 5's] order go, and the ceiling rises to the hottest one dropped if that
-- | is higher.
-- the coldest off the line; of equally cold ones that with more slack, and then the first
pub drops :
    Becomes (waiting (numbers 1 5 0 1 0) (numbers 2 3 0 1 0) (numbers 3 4 0 1 0) 0) (target 3 (21 ∷ []))
    (numbers 1 5 0 1 0 ∷ numbers 3 4 0 1 0 ∷ numbers 4 2 0 2 1 ∷ []) (gauge_of 12 3 1) (11 ∷ [])
    × Becomes (waiting (numbers 1 3 0 1 0) (numbers 2 3 1 1 0) (numbers 3 4 2 1 0) 0) (target 3 (21 ∷ []))
    (numbers 1 3 0 1 0 ∷ numbers 3 4 2 1 0 ∷ numbers 4 2 0 2 1 ∷ []) (gauge_of 12 3 1) (11 ∷ [])
    × Becomes (waiting (numbers 1 3 0 1 0) (numbers 3 3 1 1 0) (numbers 2 3 1 1 0) 0) (target 3 (21 ∷ []))
    (numbers 1 3 0 1 0 ∷ numbers 2 3 1 1 0 ∷ numbers 4 2 0 2 1 ∷ []) (gauge_of 12 3 1) (11 ∷ [])
    × Becomes (waiting (numbers 1 3 0 1 0) (numbers 2 3 1 1 0) (numbers 3 3 1 1 0) 0) (target 3 (21 ∷ []))
    (numbers 1 3 0 1 0 ∷ numbers 3 3 1 1 0 ∷ numbers 4 2 0 2 1 ∷ []) (gauge_of 12 3 1) (11 ∷ [])
unfolding computing table_of lines_of
drops = (refl, refl, refl, refl)

-- two in turn, and the ceiling is the heat of the hotter; it stays where it is higher, or as high; and nobody goes where K suffices
pub ceilings :
    Becomes (waiting (numbers 1 4 0 1 0) (numbers 2 5 0 1 0) (numbers 3 3 0 1 0) 1) (target 2 (21 ∷ []))
    (numbers 2 5 0 1 0 ∷ numbers 4 2 0 2 1 ∷ []) (gauge_of 12 4 1) (11 ∷ [])
    × Becomes (waiting (numbers 1 4 0 1 0) (numbers 2 5 0 1 0) (numbers 3 3 0 1 0) 6) (target 2 (21 ∷ []))
    (numbers 2 5 0 1 0 ∷ numbers 4 2 0 2 1 ∷ []) (gauge_of 12 6 1) (11 ∷ [])
    × Becomes (waiting (numbers 1 4 0 1 0) (numbers 2 5 0 1 0) (numbers 3 3 0 1 0) 4) (target 2 (21 ∷ []))
    (numbers 2 5 0 1 0 ∷ numbers 4 2 0 2 1 ∷ []) (gauge_of 12 4 1) (11 ∷ [])
    × Becomes (waiting (numbers 1 4 0 1 0) free (numbers 3 3 0 1 0) 1) (target 3 (21 ∷ []))
    (numbers 1 4 0 1 0 ∷ numbers 3 3 0 1 0 ∷ numbers 4 2 0 2 1 ∷ []) (gauge_of 12 1 1) (11 ∷ [])
unfolding computing table_of lines_of
ceilings = (refl, refl, refl, refl)

-- one that has just lost its line may be the victim, or not; its ticket and its picture are gone
pub both_go :
    Becomes (lined 5 3 4) (target 2 (21 ∷ []))
    (numbers 1 5 0 3 1 ∷ numbers 3 4 1 1 0 ∷ []) (gauge_of 12 3 2) (11 ∷ [])
    × Becomes (lined 5 4 3) (target 2 (21 ∷ []))
    (numbers 1 5 0 3 1 ∷ numbers 2 4 0 1 0 ∷ []) (gauge_of 12 3 2) (11 ∷ [])
    × Becomes (lined 5 4 3) (target 1 [])
    (numbers 1 5 0 1 0 ∷ []) (gauge_of 12 4 2) []
unfolding computing table_of lines_of
both_go = (refl, refl, refl)

-- ---- the copy
-- | Kept records are packed in their old order, the rest free
-- with free ones between them, before and after; no byte of the target's table is left
pub packs_records :
    Becomes
    (of_records (free ∷ numbers 3 5 1 1 0 ∷ free ∷ numbers 1 4 2 1 0 ∷ numbers 2 6 3 1 0 ∷ free ∷ []) (gauge_of 15 2 0) [])
    (target 4 [])
    (numbers 3 5 1 1 0 ∷ numbers 1 4 2 1 0 ∷ numbers 2 6 3 1 0 ∷ free ∷ []) (gauge_of 15 2 0) []
    × Becomes (of_records (free ∷ []) (gauge_of 9 3 4) []) (target 3 (21 ∷ [])) (free ∷ free ∷ free ∷ []) (gauge_of 9 3 4) (21 ∷ [])
unfolding computing table_of lines_of
packs_records = (refl, refl)

-- | and each kept record on a line gets the next line number in that order, with its line's 64 bytes, its ticket, and filled or empty as
-- | before.
-- at the same sizes, from lines in reverse; and lines beyond them stay as they were
pub numbers_lines :
    Becomes
    (of_records (numbers 1 4 0 7 5 ∷ numbers 2 3 0 1 0 ∷ numbers 3 6 1 4 9 ∷ numbers 4 5 2 3 7 ∷ []) (gauge_of 18 2 9)
    (11 ∷ 12 ∷ 13 ∷ []))
    (target 4 (21 ∷ 22 ∷ 23 ∷ []))
    (numbers 1 4 0 3 5 ∷ numbers 2 3 0 1 0 ∷ numbers 3 6 1 4 9 ∷ numbers 4 5 2 7 7 ∷ []) (gauge_of 18 2 9) (13 ∷ 12 ∷ 11 ∷ [])
    × Becomes
    (of_records (free ∷ numbers 3 6 1 6 9 ∷ numbers 4 5 2 5 7 ∷ free ∷ []) (gauge_of 18 2 9) (11 ∷ 12 ∷ 13 ∷ []))
    (target 5 (21 ∷ 22 ∷ 23 ∷ 24 ∷ []))
    (numbers 3 6 1 2 9 ∷ numbers 4 5 2 5 7 ∷ free ∷ free ∷ free ∷ []) (gauge_of 18 2 9) (13 ∷ 12 ∷ 23 ∷ 24 ∷ [])
unfolding computing table_of lines_of
numbers_lines = (refl, refl)

-- the record between them loses its line, which the last one's number passes over
pub renumbers_lines :
    Becomes
    (of_records (numbers 1 6 0 3 5 ∷ numbers 2 4 0 5 6 ∷ numbers 3 5 1 7 7 ∷ numbers 4 3 0 1 0 ∷ []) (gauge_of 18 2 9)
    (11 ∷ 12 ∷ 13 ∷ []))
    (target 4 (21 ∷ 22 ∷ []))
    (numbers 1 6 0 3 5 ∷ numbers 2 4 0 1 0 ∷ numbers 3 5 1 5 7 ∷ numbers 4 3 0 1 0 ∷ []) (gauge_of 18 2 9) (11 ∷ 13 ∷ [])
unfolding computing table_of lines_of
renumbers_lines = refl

-- ---- spare lines
-- four records, the third on the line, filled, and of a heat of 9
abbrev spared : ℕ → ℕ → ℕ → Memory
spared a b c =
    of_records (numbers 1 a 0 1 0 ∷ numbers 2 b 1 1 0 ∷ numbers 3 9 2 3 4 ∷ numbers 4 c 3 1 0 ∷ []) (gauge_of 24 3 7) (11 ∷ [])

-- | Spare lines, lowest first, go one by one to the hottest tracked without one, first among equals, empty and with new tickets.
-- the bytes of a line just given stay as they were
pub gives_lines :
    Becomes (spared 3 5 4) (target 4 (21 ∷ 22 ∷ []))
    (numbers 1 3 0 1 0 ∷ numbers 2 5 1 4 8 ∷ numbers 3 9 2 3 4 ∷ numbers 4 4 3 1 0 ∷ []) (gauge_of 24 3 8) (11 ∷ 22 ∷ [])
    × Becomes (spared 3 5 4) (target 4 (21 ∷ 22 ∷ 23 ∷ []))
    (numbers 1 3 0 1 0 ∷ numbers 2 5 1 4 8 ∷ numbers 3 9 2 3 4 ∷ numbers 4 4 3 6 9 ∷ []) (gauge_of 24 3 9) (11 ∷ 22 ∷ 23 ∷ [])
    × Becomes (spared 3 4 5) (target 4 (21 ∷ 22 ∷ 23 ∷ []))
    (numbers 1 3 0 1 0 ∷ numbers 2 4 1 6 9 ∷ numbers 3 9 2 3 4 ∷ numbers 4 5 3 4 8 ∷ []) (gauge_of 24 3 9) (11 ∷ 22 ∷ 23 ∷ [])
unfolding computing table_of lines_of
gives_lines = (refl, refl, refl)

-- the first of equally hot ones, whatever their other numbers are; more spare lines than records that wait stay unused; a record of no heat
-- gets one too
pub gives_first :
    Becomes (spared 3 5 5) (target 4 (21 ∷ 22 ∷ []))
    (numbers 1 3 0 1 0 ∷ numbers 2 5 1 4 8 ∷ numbers 3 9 2 3 4 ∷ numbers 4 5 3 1 0 ∷ []) (gauge_of 24 3 8) (11 ∷ 22 ∷ [])
    × Becomes (of_records (numbers 2 5 3 1 0 ∷ numbers 1 5 1 1 0 ∷ []) (gauge_of 10 3 7) []) (target 2 (21 ∷ []))
    (numbers 2 5 3 2 8 ∷ numbers 1 5 1 1 0 ∷ []) (gauge_of 10 3 8) (21 ∷ [])
    × Becomes (spared 5 5 5) (target 6 (21 ∷ 22 ∷ 23 ∷ 24 ∷ 25 ∷ []))
    (numbers 1 5 0 4 8 ∷ numbers 2 5 1 6 9 ∷ numbers 3 9 2 3 4 ∷ numbers 4 5 3 8 10 ∷ free ∷ free ∷ []) (gauge_of 24 3 10)
    (11 ∷ 22 ∷ 23 ∷ 24 ∷ 25 ∷ [])
    × Becomes (of_records (numbers 5 0 0 1 0 ∷ []) (gauge_of 0 0 0) []) (target 2 (21 ∷ []))
    (numbers 5 0 0 2 1 ∷ free ∷ []) (gauge_of 0 0 1) (21 ∷ [])
unfolding computing table_of lines_of
gives_first = (refl, refl, refl, refl)

-- one that is hotter than those on lines gets none where none is spare; where a source has a line that is used by no record, it is spare
pub gives_spare_alone :
    Becomes (of_records (numbers 1 4 0 1 0 ∷ numbers 2 3 0 2 4 ∷ []) (gauge_of 7 0 4) (11 ∷ [])) (target 2 (21 ∷ []))
    (numbers 1 4 0 1 0 ∷ numbers 2 3 0 2 4 ∷ []) (gauge_of 7 0 4) (11 ∷ [])
    × Becomes (of_records (numbers 1 4 0 1 0 ∷ numbers 2 3 0 5 4 ∷ free ∷ []) (gauge_of 7 0 4) (11 ∷ 12 ∷ [])) (target 3 (21 ∷ 22 ∷ []))
    (numbers 1 4 0 4 5 ∷ numbers 2 3 0 3 4 ∷ free ∷ []) (gauge_of 7 0 5) (12 ∷ 22 ∷ [])
unfolding computing table_of lines_of
gives_spare_alone = (refl, refl)

-- | first among equals
-- by nothing but the place: keys, slacks, lines and tickets are neither the least nor the greatest
pub firsts :
    Becomes
    (of_records (numbers 5 4 1 5 6 ∷ numbers 3 4 0 2 4 ∷ numbers 7 4 2 7 8 ∷ free ∷ []) (gauge_of 12 0 9) (11 ∷ 12 ∷ 13 ∷ []))
    (target 4 (21 ∷ 22 ∷ []))
    (numbers 5 4 1 1 0 ∷ numbers 3 4 0 2 4 ∷ numbers 7 4 2 5 8 ∷ free ∷ []) (gauge_of 12 0 9) (11 ∷ 13 ∷ [])
    × Becomes (of_records (numbers 5 4 1 1 0 ∷ numbers 3 4 1 1 0 ∷ numbers 7 4 1 1 0 ∷ []) (gauge_of 12 0 9) []) (target 2 [])
    (numbers 3 4 1 1 0 ∷ numbers 7 4 1 1 0 ∷ []) (gauge_of 12 4 9) []
    × Becomes (of_records (numbers 5 4 1 1 0 ∷ numbers 3 4 0 1 0 ∷ numbers 7 4 2 1 0 ∷ []) (gauge_of 12 0 9) []) (target 3 (21 ∷ []))
    (numbers 5 4 1 2 10 ∷ numbers 3 4 0 1 0 ∷ numbers 7 4 2 1 0 ∷ []) (gauge_of 12 0 10) (21 ∷ [])
unfolding computing table_of lines_of
firsts = (refl, refl, refl)

-- ---- the serial
-- two records that wait, and two spare lines
abbrev serially : ℕ → Memory
serially serial = of_records (numbers 1 4 0 1 0 ∷ numbers 2 3 0 1 0 ∷ []) (gauge_of 7 0 serial) []

-- up to the limit, and past it in the resize itself
pub counts_on :
    Becomes (serially 0) (target 3 (21 ∷ 22 ∷ [])) (numbers 1 4 0 2 1 ∷ numbers 2 3 0 4 2 ∷ free ∷ []) (gauge_of 7 0 2) (21 ∷ 22 ∷ [])
    × Becomes (serially 9223372036854775807) (target 3 (21 ∷ 22 ∷ []))
    (numbers 1 4 0 2 9223372036854775808 ∷ numbers 2 3 0 4 9223372036854775809 ∷ free ∷ []) (gauge_of 7 0 9223372036854775809)
    (21 ∷ 22 ∷ [])
unfolding computing table_of lines_of
counts_on = (refl, refl)

-- | 10, .. when the serial is 9,223,372,036,854,775,808 or more
-- also where no ticket would be given
pub serial_spent :
    (resize_outcome (serially 9223372036854775808) (target 3 (21 ∷ 22 ∷ []))
    ≡ outcome (Err SerialSpent) (target 3 (21 ∷ 22 ∷ [])))
    × (resize_outcome (serially 9223372036854775808) (target 2 []) ≡ outcome (Err SerialSpent) (target 2 []))
    × (resize_outcome (of_records (free ∷ []) (gauge_of 0 0 18446744073709551615) []) (target 1 [])
    ≡ outcome (Err SerialSpent) (target 1 []))
unfolding computing table_of lines_of
serial_spent = (refl, refl, refl)

-- ---- sources that are damaged and in order
-- a doubled key: both records are kept; two records on one line: each gets its own, with a copy of the bytes
pub damaged :
    Becomes (of_records (numbers 1 4 0 1 0 ∷ numbers 1 3 2 1 0 ∷ free ∷ []) (gauge_of 7 0 4) []) (target 2 [])
    (numbers 1 4 0 1 0 ∷ numbers 1 3 2 1 0 ∷ []) (gauge_of 7 0 4) []
    × Becomes (of_records (numbers 1 4 0 5 1 ∷ numbers 2 3 0 4 2 ∷ free ∷ []) (gauge_of 7 0 4) (11 ∷ 12 ∷ []))
    (target 3 (21 ∷ 22 ∷ []))
    (numbers 1 4 0 3 1 ∷ numbers 2 3 0 4 2 ∷ free ∷ []) (gauge_of 7 0 4) (12 ∷ 12 ∷ [])
unfolding computing table_of lines_of
damaged = (refl, refl)

-- ---- refused
abbrev Refused : Memory → Memory → Refusal → Type 0
Refused source to cause = resize_outcome source to ≡ outcome (Err cause) to

-- a source that is in order, and one that is not, for a heat over the total
abbrev good : Memory
good = serially 4

abbrev disordered : ℕ → Memory
disordered serial = of_records (numbers 1 4 0 1 0 ∷ numbers 2 3 0 1 0 ∷ []) (gauge_of 3 0 serial) []

-- | Refusal 1 applies to source or target sizes
-- by its table, which is not whole or none, by its lines, or by as many lines as records
pub wrong_sizes :
    ((bytes : List ℕ) → Refused (record { table = replicate 81 0; gauge = gauge_of 7 0 4; lines = bytes }) (target 2 (21 ∷ [])) WrongSizes)
    × Refused (record { table = []; gauge = gauge_of 7 0 4; lines = [] }) (target 2 (21 ∷ [])) WrongSizes
    × Refused (with_lines (replicate 63 0) good) (target 2 (21 ∷ [])) WrongSizes
    × Refused (of_records (free ∷ []) (gauge_of 7 0 4) (11 ∷ [])) (target 2 (21 ∷ [])) WrongSizes
    × ((bytes : List ℕ) → Refused good (record { table = replicate 81 170; gauge = gauge_of 6 7 8; lines = bytes }) WrongSizes)
    × Refused good (target 0 []) WrongSizes
    × Refused good (target 1025 []) WrongSizes
    × Refused good (record { table = replicate 80 170; gauge = gauge_of 6 7 8; lines = replicate 63 0 }) WrongSizes
    × Refused good (record { table = replicate 80 170; gauge = gauge_of 6 7 8; lines = replicate 65 0 }) WrongSizes
    × Refused good (target 2 (21 ∷ 22 ∷ [])) WrongSizes
unfolding computing table_of lines_of
wrong_sizes = (λ bytes. refl, refl, refl, refl, λ bytes. refl, refl, refl, refl, refl, refl)

-- | 3 and 10 to the source: 3 before 10, and 1 before both
pub refused_in_order :
    Refused (disordered 4) (target 2 (21 ∷ [])) NotInOrder
    × Refused (disordered 9223372036854775808) (target 2 (21 ∷ [])) NotInOrder
    × Refused (disordered 4) (target 2 (21 ∷ 22 ∷ [])) WrongSizes
    × Refused (serially 9223372036854775808) (target 2 (21 ∷ 22 ∷ [])) WrongSizes
    × Refused (of_records (numbers 1 9 0 1 0 ∷ []) (gauge_of 3 0 4) (11 ∷ [])) (target 2 (21 ∷ [])) WrongSizes
    × Refused (of_records (numbers 1 9 0 1 0 ∷ []) (gauge_of 9 0 9223372036854775808) (11 ∷ [])) (target 2 (21 ∷ [])) WrongSizes
unfolding computing table_of lines_of
refused_in_order = (refl, refl, refl, refl, refl, refl)

-- what is not in order: a ceiling over the total, a free record that is not zero, a state of no line, a ticket without a line, and more on
-- lines than there are
pub not_in_order :
    Refused (of_records (numbers 1 4 0 1 0 ∷ free ∷ []) (gauge_of 7 8 4) (11 ∷ [])) (target 2 (21 ∷ [])) NotInOrder
    × Refused (of_records (numbers 1 4 0 1 0 ∷ numbers 2 0 0 0 0 ∷ []) (gauge_of 7 0 4) (11 ∷ [])) (target 2 (21 ∷ [])) NotInOrder
    × Refused (of_records (numbers 1 4 0 4 3 ∷ free ∷ []) (gauge_of 7 0 4) (11 ∷ [])) (target 2 (21 ∷ [])) NotInOrder
    × Refused (of_records (numbers 1 4 0 1 3 ∷ free ∷ []) (gauge_of 7 0 4) (11 ∷ [])) (target 2 (21 ∷ [])) NotInOrder
    × Refused (of_records (numbers 1 4 0 2 3 ∷ numbers 2 4 0 2 3 ∷ []) (gauge_of 7 0 4) (11 ∷ [])) (target 2 (21 ∷ [])) NotInOrder
unfolding computing table_of lines_of
not_in_order = (refl, refl, refl, refl, refl)

-- ---- by a C host
abbrev host : ℕ → Memory → HostMemory
host bytes m = host_lent m.table (put_gauge (replicate bytes 0) m.gauge) m.lines

abbrev lent : ℕ → HostMemory
lent bytes = host bytes (target 3 (21 ∷ 22 ∷ []))

-- done is 0, and the gauge is written, total first; a refusal leaves every byte
pub told :
    (exported_resize (host 24 (serially 258)) (lent 24)
    ≡ outcome 0
    (host_lent
    (table_of (numbers 1 4 0 2 259 ∷ numbers 2 3 0 4 260 ∷ free ∷ []))
    (7 ∷ 0 ∷ 0 ∷ 0 ∷ 0 ∷ 0 ∷ 0 ∷ 0
    ∷ 0 ∷ 0 ∷ 0 ∷ 0 ∷ 0 ∷ 0 ∷ 0 ∷ 0
    ∷ 4 ∷ 1 ∷ 0 ∷ 0 ∷ 0 ∷ 0 ∷ 0 ∷ 0 ∷ [])
    (lines_of (21 ∷ 22 ∷ []))))
    × (exported_resize (host 24 (disordered 4)) (lent 24) ≡ outcome 3 (lent 24))
    × (exported_resize (host 24 (serially 9223372036854775808)) (lent 24) ≡ outcome 10 (lent 24))
    × (exported_resize (host 24 good) (host 24 (target 2 (21 ∷ 22 ∷ []))) ≡ outcome 1 (host 24 (target 2 (21 ∷ 22 ∷ []))))
unfolding computing table_of lines_of
told = (refl, refl, refl, refl)

-- | gauge bytes not [24]
-- of the source or of the target, before 3 and 10
pub gauges_of_24 :
    (exported_resize (host 23 good) (lent 24) ≡ outcome 1 (lent 24))
    × (exported_resize (host 25 (disordered 4)) (lent 24) ≡ outcome 1 (lent 24))
    × (exported_resize (host 0 good) (lent 24) ≡ outcome 1 (lent 24))
    × (exported_resize (host 24 good) (lent 23) ≡ outcome 1 (lent 23))
    × (exported_resize (host 24 (disordered 4)) (lent 25) ≡ outcome 1 (lent 25))
    × (exported_resize (host 24 (serially 9223372036854775808)) (lent 0) ≡ outcome 1 (lent 0))
unfolding computing table_of lines_of
gauges_of_24 = (refl, refl, refl, refl, refl, refl)

-- to a Rattle caller
pub said_so :
    (resize_said good (target 3 (21 ∷ [])) ≡ said none [])
    × (resize_said good (target 2 (21 ∷ 22 ∷ [])) ≡ said (some 1) [])
    × (resize_said (disordered 4) (target 3 (21 ∷ [])) ≡ said (some 3) [])
    × (resize_said (serially 9223372036854775808) (target 3 (21 ∷ [])) ≡ said (some 10) [])
unfolding computing table_of lines_of
said_so = (refl, refl, refl, refl)

-- the same by all tests in one row, of any memories
pub told_in_a_row : (source target : HostMemory) → IsBytes target.gauge →
    (exported_resize source target).answer ≡ (resize_told source target).answer
told_in_a_row source target bytes = rw (host_resize source target bytes) refl

-- and what a host finds
pub left_in_a_row : (source target : HostMemory) → IsBytes target.gauge →
    (exported_resize source target).after ≡ (resize_told source target).after
left_in_a_row source target bytes = rw (host_resize source target bytes) refl

-- ---- the promises, each missed by one
-- so many of two places chosen
none_of_two : (chosen : ℕ → Bool) → count_where chosen 2 ≡ 0 → (chosen 0 ≡ false) × (chosen 1 ≡ false)
unfolding count_where
none_of_two chosen e = (none_counted chosen (λ i. i) 2 e 0 (omega arith), none_counted chosen (λ i. i) 2 e 1 (omega arith))

one_of_two : (chosen : ℕ → Bool) → count_where chosen 2 ≡ 1 →
    ((chosen 0 ≡ true) × (chosen 1 ≡ false)) ⊎ ((chosen 0 ≡ false) × (chosen 1 ≡ true))
unfolding computing
one_of_two chosen e = go (chosen 0) (chosen 1) refl refl
  where
    go : (a b : Bool) → chosen 0 ≡ a → chosen 1 ≡ b →
        ((chosen 0 ≡ true) × (chosen 1 ≡ false)) ⊎ ((chosen 0 ≡ false) × (chosen 1 ≡ true))
    go true true ea eb = absurd (omega (arith, rw (ea, eb) at e))
    go true false ea eb = inl (ea, eb)
    go false true ea eb = inr (ea, eb)
    go false false ea eb = absurd (omega (arith, rw (ea, eb) at e))

of_two : (P : ℕ → Type 0) → P 0 → P 1 → (i : ℕ) → i < 2 → P i
of_two P a b zero below = a
of_two P a b (suc zero) below = b
of_two P a b (suc (suc i)) below = absurd (omega (arith, below))

abbrev Two : (ℕ → Bool) → (ℕ → Bool) → (ℕ → ℕ → Bool) → ℕ → Type 0
Two candidate gone before count = Foremost candidate gone before 2 count

-- two go for one, none for one; one that is no candidate; and one that the other goes before, wherever the two are
pub foremost_bites :
    (¬ Two (λ i. true) (λ i. true) (λ i j. true) 1)
    × (¬ Two (λ i. true) (λ i. false) (λ i j. true) 1)
    × (¬ Two (λ i. eqb i 0) (λ i. eqb i 1) (λ i j. true) 1)
    × (¬ Two (λ i. eqb i 1) (λ i. eqb i 0) (λ i j. true) 1)
    × (¬ Two (λ i. true) (λ i. eqb i 0) (λ i j. eqb i 1) 1)
    × (¬ Two (λ i. true) (λ i. eqb i 1) (λ i j. eqb i 0) 1)
unfolding computing
foremost_bites = (
  λ f. let e : ◌≡◌ {A = ℕ} 2 1 = f.many in omega arith,
  λ f. let e : ◌≡◌ {A = ℕ} 0 1 = f.many in omega arith,
  λ f. true≢false (sym (f.among 1 (omega arith) refl)),
  λ f. true≢false (sym (f.among 0 (omega arith) refl)),
  λ f. true≢false (sym (f.first 0 1 (omega arith) (omega arith) refl refl refl)),
  λ f. true≢false (sym (f.first 1 0 (omega arith) (omega arith) refl refl refl)),
)

-- a record that comes from the second place and the second line of two to the same
abbrev second : Record → ℕ → Memory
second r byte = of_records (free ∷ r ∷ []) (gauge_of 7 0 4) (11 ∷ byte ∷ [])

abbrev Second : Record → Record → Type 0
Second was is = Stands (second was 12) (second is 12) 1 1 1 true

-- one whose bytes lie past the last whole record; a free one that keeps its numbers
pub stands_bites :
    (¬ Stands (second (numbers 7 4 2 1 0) 12) (with_table (take 79 (second (numbers 7 4 2 1 0) 12).table) (second free 12)) 1 1 0 false)
    × (¬ Stands (second (numbers 7 4 2 1 0) 12) (second (numbers 7 4 2 0 0) 12) 1 1 0 false)
unfolding computing table_of lines_of
stands_bites = (
  λ s. omega (arith, s.inside),
  λ s. true≢false (sym s.tracked),
)

-- numbers that are one more or one less
pub numbers_bite :
    (¬ Second (numbers 7 4 2 5 3) (numbers 8 4 2 5 3))
    × (¬ Second (numbers 7 4 2 5 3) (numbers 6 4 2 5 3))
    × (¬ Second (numbers 7 4 2 5 3) (numbers 7 5 2 5 3))
    × (¬ Second (numbers 7 4 2 5 3) (numbers 7 3 2 5 3))
    × (¬ Second (numbers 7 4 2 5 3) (numbers 7 4 3 5 3))
    × (¬ Second (numbers 7 4 2 5 3) (numbers 7 4 1 5 3))
    × (¬ Second (numbers 7 4 2 5 3) (numbers 7 4 2 5 4))
    × (¬ Second (numbers 7 4 2 5 3) (numbers 7 4 2 5 2))
unfolding computing table_of lines_of
numbers_bite = (
  λ s. let e : ◌≡◌ {A = ℕ} 8 7 = s.key in omega arith,
  λ s. let e : ◌≡◌ {A = ℕ} 6 7 = s.key in omega arith,
  λ s. let e : ◌≡◌ {A = ℕ} 5 4 = s.heat in omega arith,
  λ s. let e : ◌≡◌ {A = ℕ} 3 4 = s.heat in omega arith,
  λ s. let e : ◌≡◌ {A = ℕ} 3 2 = s.slack in omega arith,
  λ s. let e : ◌≡◌ {A = ℕ} 1 2 = s.slack in omega arith,
  λ s. let e : ◌≡◌ {A = ℕ} 4 3 = s.ticket refl in omega arith,
  λ s. let e : ◌≡◌ {A = ℕ} 2 3 = s.ticket refl in omega arith,
)

abbrev last_byte : List ℕ → ℕ
last_byte bytes = get_or bytes 63 0

-- no line, the line before or after, empty for filled and filled for empty, a picture whose last byte is another; and one that lost its
-- line and comes to be filled
pub line_bites :
    (¬ Stands (second (numbers 7 4 2 4 3) 11) (second (numbers 7 4 2 1 3) 11) 1 1 0 true)
    × (¬ Stands (second (numbers 7 4 2 5 3) 11) (second (numbers 7 4 2 3 3) 11) 1 1 1 true)
    × (¬ Stands (second (numbers 7 4 2 5 3) 11) (second (numbers 7 4 2 5 3) 11) 1 1 0 true)
    × (¬ Second (numbers 7 4 2 5 3) (numbers 7 4 2 4 3))
    × (¬ Second (numbers 7 4 2 4 3) (numbers 7 4 2 5 3))
    × (¬ Stands (second (numbers 7 4 2 5 3) 12) (with_lines (replicate 127 12 ++ (13 ∷ [])) (second (numbers 7 4 2 5 3) 12)) 1 1 1 true)
    × (¬ Stands (second (numbers 7 4 2 5 3) 12) (second (numbers 7 4 2 5 5) 12) 1 1 1 false)
unfolding computing table_of lines_of
line_bites = (
  λ s. true≢false (sym (s.lined refl)),
  λ s. let e : ◌≡◌ {A = ℕ} 0 1 = s.line refl in omega arith,
  λ s. let e : ◌≡◌ {A = ℕ} 1 0 = s.line refl in omega arith,
  λ s. true≢false (sym (s.filled refl)),
  λ s. true≢false (s.filled refl),
  λ s. let e : ◌≡◌ {A = ℕ} 13 12 = ap last_byte (s.picture refl) in omega arith,
  λ s. true≢false (s.empty refl),
)

-- heat and slack of a record that has no line, or loses it; and of one whose line is empty the ticket and the picture
pub stays_bites :
    (¬ Stands (second (numbers 7 4 2 1 0) 12) (second (numbers 7 5 2 1 0) 12) 1 1 0 false)
    × (¬ Stands (second (numbers 7 4 2 1 0) 12) (second (numbers 7 3 2 1 0) 12) 1 1 0 false)
    × (¬ Stands (second (numbers 7 4 2 1 0) 12) (second (numbers 7 4 3 1 0) 12) 1 1 0 false)
    × (¬ Stands (second (numbers 7 4 2 5 3) 12) (second (numbers 7 4 1 1 0) 12) 1 1 0 false)
    × (¬ Second (numbers 7 4 2 4 3) (numbers 7 4 2 4 4))
    × (¬ Second (numbers 7 4 2 4 3) (numbers 7 4 2 4 2))
    × (¬ Stands (second (numbers 7 4 2 4 3) 12) (with_lines (replicate 127 12 ++ (13 ∷ [])) (second (numbers 7 4 2 4 3) 12)) 1 1 1 true)
    × (¬ Stands (second (numbers 7 4 2 1 0) 12) (second (numbers 7 4 2 5 5) 12) 1 1 0 false)
unfolding computing table_of lines_of
stays_bites = (
  λ s. let e : ◌≡◌ {A = ℕ} 5 4 = s.heat in omega arith,
  λ s. let e : ◌≡◌ {A = ℕ} 3 4 = s.heat in omega arith,
  λ s. let e : ◌≡◌ {A = ℕ} 3 2 = s.slack in omega arith,
  λ s. let e : ◌≡◌ {A = ℕ} 1 2 = s.slack in omega arith,
  λ s. let e : ◌≡◌ {A = ℕ} 4 3 = s.ticket refl in omega arith,
  λ s. let e : ◌≡◌ {A = ℕ} 2 3 = s.ticket refl in omega arith,
  λ s. let e : ◌≡◌ {A = ℕ} 13 12 = ap last_byte (s.picture refl) in omega arith,
  λ s. true≢false (s.empty refl),
)

-- ---- two records of a source, and what they may not become
abbrev two : Record → Record → ℕ → List ℕ → Memory
two r q ceiling bytes = of_records (r ∷ q ∷ []) (gauge_of 9 ceiling 4) bytes

-- on the line that there is and on one that there is not, and neither loses it; on one that there is not, and the colder without a line
-- loses it for the other; where both have one, the first loses it, or the second
pub loses_bites :
    (¬ Resized (two (numbers 1 5 0 3 1) (numbers 2 4 0 5 2) 0 (11 ∷ [])) (two (numbers 1 5 0 3 1) (numbers 2 4 0 5 2) 0 (11 ∷ [])))
    × (¬ Resized (two (numbers 1 5 0 3 1) (numbers 2 4 0 1 0) 0 []) (two (numbers 1 5 0 3 1) (numbers 2 4 0 1 0) 0 []))
    × (¬ Resized
    (two (numbers 1 4 0 3 1) (numbers 2 5 0 5 2) 0 (11 ∷ 12 ∷ []))
    (two (numbers 1 4 0 1 0) (numbers 2 5 0 3 2) 0 (12 ∷ 12 ∷ [])))
    × (¬ Resized
    (two (numbers 1 5 0 3 1) (numbers 2 4 0 5 2) 0 (11 ∷ 12 ∷ []))
    (two (numbers 1 5 0 3 1) (numbers 2 4 0 1 0) 0 (11 ∷ 12 ∷ [])))
unfolding computing table_of lines_of
loses_bites = (
  λ d.
      let n = none_of_two d.dropped d.victims.many in
      ⊎_elim
      (λ l. true≢false ((rw l.0 at (d.stands 0 (omega arith) refl n.0)).empty refl))
      (λ l. true≢false ((rw (n.0, l.0, l.1) at (d.stands 1 (omega arith) refl n.1)).empty refl))
      (one_of_two d.loses d.coldest.many),
  λ d.
      let n = none_of_two d.dropped d.victims.many in
      ⊎_elim
      (λ l. true≢false ((rw l.0 at (d.stands 0 (omega arith) refl n.0)).empty refl))
      (λ l. true≢false (sym (d.coldest.among 1 (omega arith) l.1)))
      (one_of_two d.loses d.coldest.many),
  λ d.
      let n = none_of_two d.dropped d.victims.many in
      let l = none_of_two d.loses d.coldest.many in
      true≢false (sym ((rw l.0 at (d.stands 0 (omega arith) refl n.0)).lined refl)),
  λ d.
      let n = none_of_two d.dropped d.victims.many in
      let l = none_of_two d.loses d.coldest.many in
      true≢false (sym ((rw (n.0, l.0, l.1) at (d.stands 1 (omega arith) refl n.1)).lined refl)),
)

-- the hotter one loses its line, wherever it is; and of equally cold ones the second
pub coldest_bites :
    (¬ Resized (two (numbers 1 5 0 3 1) (numbers 2 4 0 5 2) 0 (11 ∷ 12 ∷ [])) (two (numbers 1 5 0 1 0) (numbers 2 4 0 3 2) 0 (12 ∷ [])))
    × (¬ Resized (two (numbers 1 4 0 3 1) (numbers 2 5 0 5 2) 0 (11 ∷ 12 ∷ [])) (two (numbers 1 4 0 3 1) (numbers 2 5 0 1 0) 0 (11 ∷ [])))
    × (¬ Resized (two (numbers 1 4 0 3 1) (numbers 2 4 0 5 2) 0 (11 ∷ 12 ∷ [])) (two (numbers 1 4 0 3 1) (numbers 2 4 0 1 0) 0 (11 ∷ [])))
unfolding computing table_of lines_of
coldest_bites = (
  λ d.
      let n = none_of_two d.dropped d.victims.many in
      ⊎_elim
      (λ l. true≢false (sym (d.coldest.first 0 1 (omega arith) (omega arith) l.0 refl l.1)))
      (λ l. true≢false (sym ((rw l.0 at (d.stands 0 (omega arith) refl n.0)).lined refl)))
      (one_of_two d.loses d.coldest.many),
  λ d.
      let n = none_of_two d.dropped d.victims.many in
      ⊎_elim
      (λ l. true≢false ((rw l.0 at (d.stands 0 (omega arith) refl n.0)).empty refl))
      (λ l. true≢false (sym (d.coldest.first 1 0 (omega arith) (omega arith) l.1 refl l.0)))
      (one_of_two d.loses d.coldest.many),
  λ d.
      let n = none_of_two d.dropped d.victims.many in
      ⊎_elim
      (λ l. true≢false ((rw l.0 at (d.stands 0 (omega arith) refl n.0)).empty refl))
      (λ l. true≢false (sym (d.coldest.first 1 0 (omega arith) (omega arith) l.1 refl l.0)))
      (one_of_two d.loses d.coldest.many),
)

-- one record, with the ceiling
abbrev one : Record → ℕ → List ℕ → Memory
one r ceiling bytes = of_records (r ∷ []) (gauge_of 9 ceiling 4) bytes

-- the hotter one is dropped, wherever it is; of equally cold ones that with less slack, or the second; and a colder one that is on the line
pub victims_bites :
    (¬ Resized (two (numbers 1 5 0 1 0) (numbers 2 4 0 1 0) 9 []) (one (numbers 2 4 0 1 0) 9 []))
    × (¬ Resized (two (numbers 1 4 0 1 0) (numbers 2 5 0 1 0) 9 []) (one (numbers 1 4 0 1 0) 9 []))
    × (¬ Resized (two (numbers 1 4 0 1 0) (numbers 2 4 1 1 0) 9 []) (one (numbers 2 4 1 1 0) 9 []))
    × (¬ Resized (two (numbers 1 4 1 1 0) (numbers 2 4 1 1 0) 9 []) (one (numbers 1 4 1 1 0) 9 []))
    × (¬ Resized (two (numbers 1 3 0 2 1) (numbers 2 4 0 1 0) 9 (11 ∷ [])) (one (numbers 2 4 0 2 5) 9 (11 ∷ [])))
unfolding computing table_of lines_of
victims_bites = (
  λ d.
      ⊎_elim
      (λ n. true≢false (sym (d.victims.first 0 1 (omega arith) (omega arith) n.0 refl n.1)))
      (λ n. let e : ◌≡◌ {A = ℕ} 2 1 = (d.stands 0 (omega arith) refl n.0).key in omega arith)
      (one_of_two d.dropped d.victims.many),
  λ d.
      ⊎_elim
      (λ n. let e : ◌≡◌ {A = ℕ} 1 2 = (rw n.0 at (d.stands 1 (omega arith) refl n.1)).key in omega arith)
      (λ n. true≢false (sym (d.victims.first 1 0 (omega arith) (omega arith) n.1 refl n.0)))
      (one_of_two d.dropped d.victims.many),
  λ d.
      ⊎_elim
      (λ n. true≢false (sym (d.victims.first 0 1 (omega arith) (omega arith) n.0 refl n.1)))
      (λ n. let e : ◌≡◌ {A = ℕ} 2 1 = (d.stands 0 (omega arith) refl n.0).key in omega arith)
      (one_of_two d.dropped d.victims.many),
  λ d.
      ⊎_elim
      (λ n. let e : ◌≡◌ {A = ℕ} 1 2 = (rw n.0 at (d.stands 1 (omega arith) refl n.1)).key in omega arith)
      (λ n. true≢false (sym (d.victims.first 1 0 (omega arith) (omega arith) n.1 refl n.0)))
      (one_of_two d.dropped d.victims.many),
  λ d.
      let l = none_of_two d.loses d.coldest.many in
      ⊎_elim
      (λ n. true≢false (sym (rw l.0 at (d.victims.among 0 (omega arith) n.0))))
      (λ n. let e : ◌≡◌ {A = ℕ} 2 1 = (d.stands 0 (omega arith) refl n.0).key in omega arith)
      (one_of_two d.dropped d.victims.many),
)

-- one is dropped where there is room for both: the second, or the first; and the two change places
pub packed_bites :
    (¬ Resized (two (numbers 1 5 0 1 0) (numbers 2 4 0 1 0) 9 []) (two (numbers 1 5 0 1 0) free 9 []))
    × (¬ Resized (two (numbers 1 4 0 1 0) (numbers 2 5 0 1 0) 9 []) (two (numbers 2 5 0 1 0) free 9 []))
    × (¬ Resized (two (numbers 1 5 0 1 0) (numbers 2 4 0 1 0) 9 []) (two (numbers 2 4 0 1 0) (numbers 1 5 0 1 0) 9 []))
unfolding computing table_of lines_of
packed_bites = (
  λ d.
      let n = none_of_two d.dropped d.victims.many in
      true≢false (sym (rw n.0 at (d.stands 1 (omega arith) refl n.1)).tracked),
  λ d.
      let n = none_of_two d.dropped d.victims.many in
      let e : ◌≡◌ {A = ℕ} 2 1 = (d.stands 0 (omega arith) refl n.0).key in
      omega arith,
  λ d.
      let n = none_of_two d.dropped d.victims.many in
      let e : ◌≡◌ {A = ℕ} 2 1 = (d.stands 0 (omega arith) refl n.0).key in
      omega arith,
)

-- the ceiling falls or rises by one where nobody is dropped, and is one less or one more than the heat of the one that is dropped
pub ceiling_bites :
    (¬ Resized (two (numbers 1 5 0 1 0) (numbers 2 3 0 1 0) 2 []) (two (numbers 1 5 0 1 0) (numbers 2 3 0 1 0) 1 []))
    × (¬ Resized (two (numbers 1 5 0 1 0) (numbers 2 3 0 1 0) 2 []) (two (numbers 1 5 0 1 0) (numbers 2 3 0 1 0) 3 []))
    × (¬ Resized (two (numbers 1 5 0 1 0) (numbers 2 3 0 1 0) 1 []) (one (numbers 1 5 0 1 0) 2 []))
    × (¬ Resized (two (numbers 1 3 0 1 0) (numbers 2 5 0 1 0) 1 []) (one (numbers 2 5 0 1 0) 2 []))
    × (¬ Resized (two (numbers 1 5 0 1 0) (numbers 2 3 0 1 0) 1 []) (one (numbers 1 5 0 1 0) 4 []))
unfolding computing table_of lines_of
ceiling_bites = (
  λ d. let e : 2 ≤ 1 = d.not_below in omega arith,
  λ d.
      let n = none_of_two d.dropped d.victims.many in
      let e : 3 ≤ 2 = d.no_higher 2 (omega arith) (of_two _ (λ e. clash e n.0) (λ e. clash e n.1)) in
      omega arith,
  λ d.
      ⊎_elim
      (λ n. true≢false (sym (d.victims.first 0 1 (omega arith) (omega arith) n.0 refl n.1)))
      (λ n. let e : 3 ≤ 2 = d.hottest_dropped 1 (omega arith) n.1 in omega arith)
      (one_of_two d.dropped d.victims.many),
  λ d.
      ⊎_elim
      (λ n. let e : 3 ≤ 2 = d.hottest_dropped 0 (omega arith) n.0 in omega arith)
      (λ n. true≢false (sym (d.victims.first 1 0 (omega arith) (omega arith) n.1 refl n.0)))
      (one_of_two d.dropped d.victims.many),
  λ d.
      ⊎_elim
      (λ n. true≢false (sym (d.victims.first 0 1 (omega arith) (omega arith) n.0 refl n.1)))
      (λ n. let e : 4 ≤ 3 = d.no_higher 3 (omega arith) (of_two _ (λ e. clash e n.0) (λ _. omega arith)) in omega arith)
      (one_of_two d.dropped d.victims.many),
)

-- two that keep their lines change them; and one that is left alone on a line stays on the second
pub next_number_bites :
    (¬ Resized
    (two (numbers 1 5 0 3 1) (numbers 2 4 0 5 2) 0 (11 ∷ 12 ∷ []))
    (of_records (numbers 1 5 0 5 1 ∷ numbers 2 4 0 3 2 ∷ free ∷ []) (gauge_of 9 0 4) (12 ∷ 11 ∷ [])))
    × (¬ Resized
    (two (numbers 1 4 0 1 0) (numbers 2 5 0 3 2) 0 (11 ∷ 12 ∷ []))
    (of_records (numbers 1 4 0 1 0 ∷ numbers 2 5 0 5 2 ∷ free ∷ []) (gauge_of 9 0 4) (12 ∷ 11 ∷ [])))
unfolding computing table_of lines_of
next_number_bites = (
  λ d.
      let n = none_of_two d.dropped d.victims.many in
      let l = none_of_two d.loses d.coldest.many in
      let e : ◌≡◌ {A = ℕ} 1 0 = (rw l.0 at (d.stands 0 (omega arith) refl n.0)).line refl in
      omega arith,
  λ d.
      let n = none_of_two d.dropped d.victims.many in
      let l = none_of_two d.loses d.coldest.many in
      let e : ◌≡◌ {A = ℕ} 1 0 = (rw (n.0, l.1) at (d.stands 1 (omega arith) refl n.1)).line refl in
      omega arith,
)

-- one on an empty line loses it where nobody should
pub keeps_empty_bites : ¬ Resized
    (two (numbers 1 5 0 3 1) (numbers 2 4 0 4 2) 0 (11 ∷ 12 ∷ []))
    (two (numbers 1 5 0 3 1) (numbers 2 4 0 1 0) 0 (11 ∷ 12 ∷ []))
unfolding computing table_of lines_of
keeps_empty_bites d =
    let n = none_of_two d.dropped d.victims.many in
    let l = none_of_two d.loses d.coldest.many in
    true≢false (sym ((rw (n.0, l.0, l.1) at (d.stands 1 (omega arith) refl n.1)).lined refl))

-- one that loses its line, and is dropped: the ceiling is one less than its heat
pub loser_raises : ¬ Resized (two (numbers 1 5 0 1 0) (numbers 2 4 0 3 1) 1 (11 ∷ [])) (one (numbers 1 5 0 1 0) 3 [])
unfolding computing table_of lines_of
loser_raises d =
    let lost : (is_unlined (numbers 2 4 0 3 1) || d.loses 1) ≡ true = ⊎_elim
    (λ l. absurd (true≢false (sym (d.coldest.among 0 (omega arith) l.0))))
    (λ l. rw l.1)
    (one_of_two d.loses d.coldest.many) in
    ⊎_elim
    (λ n. true≢false (sym (d.victims.first 0 1 (omega arith) (omega arith) n.0 lost n.1)))
    (λ n. let e : 4 ≤ 3 = d.hottest_dropped 1 (omega arith) n.1 in omega arith)
    (one_of_two d.dropped d.victims.many)

-- the total is one less, or one more
abbrev counted : ℕ → Memory
counted total = of_records (numbers 1 5 0 1 0 ∷ free ∷ []) (gauge_of total 2 3) []

pub total_bites : (¬ Resized (counted 9) (counted 8)) × (¬ Resized (counted 9) (counted 10))
unfolding computing table_of lines_of
total_bites = (λ d. let e : ◌≡◌ {A = ℕ} 8 9 = d.total in omega arith, λ d. let e : ◌≡◌ {A = ℕ} 10 9 = d.total in omega arith)

-- a record more in the place after the last, or in the last of all
pub rest_bites :
    (¬ Resized (two (numbers 1 5 0 1 0) free 9 []) (of_records (numbers 1 5 0 1 0 ∷ numbers 1 5 0 1 0 ∷ free ∷ []) (gauge_of 9 9 4) []))
    × (¬ Resized (two free (numbers 1 5 0 1 0) 9 []) (of_records (numbers 1 5 0 1 0 ∷ free ∷ numbers 0 0 1 0 0 ∷ []) (gauge_of 9 9 4) []))
unfolding computing table_of lines_of
rest_bites = (
  λ d.
      let n = none_of_two d.dropped d.victims.many in
      let e : ◌≡◌ {A = ℕ} 1 0 = ap (λ (r : Record). r.key) (d.rest 1 (omega arith) (rw n.0 (omega arith))) in
      omega arith,
  λ d.
      let n = none_of_two d.dropped d.victims.many in
      let e : ◌≡◌ {A = ℕ} 1 0 = ap (λ (r : Record). r.slack) (d.rest 2 (omega arith) (rw n.1 (omega arith))) in
      omega arith,
)

-- however it is shown: the line that is lost, or the record that is dropped, is somebody's
pub nobody_bites :
    ((r : Resized (lined 4 5 3) (of_records (numbers 1 4 0 1 0 ∷ numbers 2 5 0 3 2 ∷ numbers 3 3 1 1 0 ∷ []) (gauge_of 12 1 2) (12 ∷ []))) →
    ¬ NobodyLoses (lined 4 5 3) _ r)
    × ((r : Resized (two (numbers 1 5 0 1 0) (numbers 2 4 0 1 0) 9 []) (one (numbers 1 5 0 1 0) 9 [])) → ¬ NobodyLoses _ _ r)
unfolding computing table_of lines_of
nobody_bites = (
  λ r b.
      let e : ◌≡◌ {A = ℕ} 0 1 =
      rw (b.lines 0 (omega arith), b.lines 1 (omega arith), b.lines 2 (omega arith)) at r.coldest.many in
      omega arith,
  λ r b.
      let e : ◌≡◌ {A = ℕ} 0 1 = rw (b.records 0 (omega arith), b.records 1 (omega arith)) at r.victims.many in
      omega arith,
)

-- ---- the promises, of any memories
-- the ceiling never falls; and to the same sizes it stays, and nobody loses a line
pub any_keeps : (source to : Memory) → IsBytes source.table → (resize_outcome source to).answer ≡ Ok tt →
    source.gauge.ceiling ≤ (resize_outcome source to).after.gauge.ceiling
any_keeps source to bytes done = (resize_keeps source to bytes done).not_below

pub any_same : (source to : Memory) → (resize_outcome source to).answer ≡ Ok tt → IsBytes source.table → size to ≡ size source →
    line_total to ≡ line_total source → (r : Resized source (resize_outcome source to).after) →
    ((resize_outcome source to).after.gauge.ceiling ≤ source.gauge.ceiling) × ((i : ℕ) → i < size source → r.loses i ≡ false)
any_same source to done bytes records lines r =
    let b = resize_same source to done bytes records lines r in
    (r.no_higher source.gauge.ceiling (omega arith) (λ i inside e. clash e (b.records i inside)), b.lines)

-- nor does anybody where there is room, and room to spare
pub any_spare : (source to : Memory) (more others : ℕ) → (resize_outcome source to).answer ≡ Ok tt → IsBytes source.table →
    line_total to ≡ lined_count source + more → size to ≡ tracked_count source + others →
    (r : Resized source (resize_outcome source to).after) →
    ((i : ℕ) → i < size source → r.loses i ≡ false) × ((i : ℕ) → i < size source → r.dropped i ≡ false)
any_spare source to more others done bytes lines records r =
    let b = resize_loses_nobody source to done bytes (omega (arith, lines)) (omega (arith, records)) r in (b.lines, b.records)

-- the serial stays between what it was and one ticket for each line
pub any_serial : (source to : Memory) → IsBytes source.table → (resize_outcome source to).answer ≡ Ok tt →
    line_total to ≡ 0 → (resize_outcome source to).after.gauge.serial ≡ source.gauge.serial
any_serial source to bytes done no_lines = omega (arith, resize_gives source to bytes done, no_lines)

-- a ticket at most for each line
pub any_serial_by : (source to : Memory) (lines : ℕ) → IsBytes source.table → (resize_outcome source to).answer ≡ Ok tt →
    line_total to ≡ lines → (resize_outcome source to).after.gauge.serial ≤ source.gauge.serial + lines
any_serial_by source to lines bytes done is = omega (arith, resize_gives source to bytes done, is)

-- what is left can be aged
pub any_in_order : (source to : Memory) → IsBytes source.table → (resize_outcome source to).answer ≡ Ok tt →
    (age_outcome (resize_outcome source to).after).answer ≡ Ok Aged
unfolding age_outcome unless age_steps
any_in_order source to bytes done = rw (resize_in_order source to bytes done)

-- the replay's total, heats and stale tickets are those of the source, and any choice of as many places as the smaller count is within the
-- bound
pub any_holds : (source to after : Memory) (t : Truth) (stale : ℕ → ℕ) → Holds source t stale →
    (resize_outcome source to).answer ≡ Ok tt → (resize_outcome source to).after ≡ after →
    (after.gauge.total ≡ t.total)
    × ((i : ℕ) → i < size after → 0 < (places after i).state → t.heat (places after i).key ≤ (places after i).heat)
    × ((i : ℕ) → i < size after → 1 < (places after i).state → stale (places after i).key < (places after i).ticket)
    × ((chosen : ℕ → Bool) → count_where chosen (size after) ≡ min t.fewest (size to) →
    sum_where chosen (level after.gauge.ceiling) (places after) (size after) ≤ after.gauge.total)
unfolding resize_truth
any_holds source to after t stale holds done is =
    let h : Holds after (resize_truth t (size to)) stale = rw is at (resize_holds source to t stale holds done) in
    (h.tracks.total, h.tracks.not_below, h.shows.since, h.tracks.levels)

-- whatever the cause
pub any_refused : (source to : Memory) (cause : Refusal) → (resize_outcome source to).answer ≡ Err cause →
    (resize_outcome source to).after ≡ to
any_refused = resize_leaves

pub any_host_refused : (source to : HostMemory) (cause : Refusal) → IsBytes to.gauge → (hosted_resize source to).answer ≡ Err cause →
    (hosted_resize source to).after ≡ to
any_host_refused = hosted_resize_leaves
