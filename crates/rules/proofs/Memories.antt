-- What writing a record, aging and storing a picture do to a memory, said by places. Assumes nothing.
use Prim.Native.Nat.{ℕ, ◌*◌, ◌≤◌, ◌<◌}
use mathlib.Core.Path.{◌≡◌, refl, sym, ◌∙◌, fun_ext}
use mathlib.Core.Bool.{true}
use mathlib.Core.List.{List}
use native.Mathlib.Decide.{ℕ_discrete}
use native.Mathlib.Omega.{arith}
use lib.ListN.{length}
use Rattle.rules.specs.declared.Record.{Record}
use Rattle.rules.specs.Bytes.{IsBytes, record_size, record_count, line_size, line_count, line_at, put_line}
use Rattle.rules.specs.Table.{Memory, aged_record, half_down, half_up, places, size, with_table, with_gauge, write}
use Rattle.rules.specs.Steps.{aged}
use Rattle.rules.specs.Calls.{sizes_good, most_records}
use Rattle.rules.specs.Replay.{at}
use borrow.Author.Tests.{eqb-true, leb-true, ltb-true}
use Rattle.rules.proofs.Searches.{both}
use Rattle.rules.proofs.Places.{IsRecord, length-put_record, record_count_put, put_record_bytes, record_same, record_other, change_all_length, change_all_count, change_all_bytes, change_all_at, line_same, line_other}
use Rattle.rules.proofs.Changes.{at_same, at_other}

-- ---- sizes
-- what the test of sizes says
pub record Sized (table lines : List ℕ) : Type 0 where
  pub records_whole : record_size * record_count table ≡ length table
  pub some_record : 1 ≤ record_count table
  pub records_few : record_count table ≤ most_records
  pub lines_whole : line_size * line_count lines ≡ length lines
  pub lines_fewer : line_count lines < record_count table

pub sizes_say : (table lines : List ℕ) → sizes_good table lines ≡ true → Sized table lines
unfolding sizes_good
sizes_say table lines e =
    let a = both _ _ e in
    let b = both _ _ a.0 in
    let c = both _ _ b.0 in
    let d = both _ _ c.0 in
    record {
      records_whole = eqb-true _ _ d.0;
      some_record = leb-true _ _ d.1;
      records_few = leb-true _ _ c.1;
      lines_whole = eqb-true _ _ b.1;
      lines_fewer = ltb-true _ _ a.1;
    }

-- ---- a record is written
pub places_write : (m : Memory) (i : ℕ) (r : Record) → i < size m → IsRecord r → places (write m i r) ≡ at i r (places m)
unfolding places write with_table size
places_write m i r inside is =
    fun_ext λ j.
    elim (ℕ_discrete j i) [
      | yes e ↦ rw (e, record_same m.table i r inside is) (sym (at_same i r (places m)))
      | no e ↦ record_other m.table i j r e ∙ sym (at_other i j r (places m) e)
    ]

pub size_write : (m : Memory) (i : ℕ) (r : Record) → size (write m i r) ≡ size m
unfolding size write with_table
size_write m i r = record_count_put m.table i r

pub sizes_write : (m : Memory) (i : ℕ) (r : Record) → sizes_good (write m i r).table (write m i r).lines ≡ sizes_good m.table m.lines
unfolding write with_table sizes_good
sizes_write m i r = rw (record_count_put m.table i r, length-put_record m.table i r)

pub gauge_write : (m : Memory) (i : ℕ) (r : Record) → (write m i r).gauge ≡ m.gauge
unfolding write with_table
gauge_write m i r = refl

pub bytes_write : (m : Memory) (i : ℕ) (r : Record) → IsBytes m.table → IsBytes (write m i r).table
unfolding write with_table
bytes_write m i r bytes = put_record_bytes m.table i r bytes

-- ---- an aging
aged_is : (r : Record) → IsRecord r → IsRecord (aged_record r)
unfolding aged_record half_down half_up
aged_is r is =
    let s = is.slack in
    let h = is.heat in
    record { key = is.key; heat = omega arith; slack = omega arith; state = is.state; ticket = is.ticket }

pub places_aged : (m : Memory) → IsBytes m.table → (i : ℕ) → i < size m → places (aged m) i ≡ aged_record (places m i)
unfolding places size aged with_gauge with_table
places_aged m bytes i inside = change_all_at aged_record aged_is m.table (size m) i bytes inside (omega arith)

pub size_aged : (m : Memory) → size (aged m) ≡ size m
unfolding size aged with_gauge with_table
size_aged m = change_all_count aged_record aged_is m.table (size m)

pub sizes_aged : (m : Memory) → sizes_good (aged m).table (aged m).lines ≡ sizes_good m.table m.lines
unfolding aged with_gauge with_table sizes_good
sizes_aged m =
    rw (change_all_count aged_record aged_is m.table (size m), change_all_length aged_record aged_is m.table (size m))

pub bytes_aged : (m : Memory) → IsBytes m.table → IsBytes (aged m).table
unfolding aged with_gauge with_table
bytes_aged m bytes = change_all_bytes aged_record aged_is m.table (size m) bytes

-- ---- a picture is stored
pub shown_stored : (lines : List ℕ) (n : ℕ) (picture : List ℕ) → n < line_count lines → length picture ≡ line_size →
    line_at (put_line lines n picture) ≡ at n picture (line_at lines)
shown_stored lines n picture inside whole =
    fun_ext λ k.
    elim (ℕ_discrete k n) [
      | yes e ↦ rw (e, line_same lines n picture inside whole) (sym (at_same n picture (line_at lines)))
      | no e ↦ line_other lines n picture inside whole k e ∙ sym (at_other n k picture (line_at lines) e)
    ]
