-- A run is whole where the output has a row's room for each record and the numbers fit: a record prints at most one row, so n records
-- take at most n rows and n numbers, by induction. Assumes nothing.
use Prim.Native.Nat.{ℕ, zero, suc, ◌+◌, ◌*◌, ◌≤◌, ◌<◌, ◌^◌}
use mathlib.Core.Bool.{true}
use mathlib.Core.List.{List, []}
use mathlib.Core.Path.{◌≡◌}
use native.Mathlib.Omega.{arith}
use borrow.Author.Tests.{le-leb, lt-ltb}
use lib.ListN.{length, length-append}
use Rattle.std.specs.Prelude.{Option, Some, None, Result}
use Rattle.rules.specs.declared.Entry.{Entry}
use Rattle.rules.specs.declared.Refusal.{Refusal}
use Rattle.rules.specs.declared.Decoded.{Decoded}
use Rattle.rules.specs.Journal.{Run, entry_at, entry_count, carried, perform, performed, printed_all, printing, run_for}
use Rattle.rules.proofs.Searches.{lowest_none}
use Rattle.rows.specs.Written.{row_size}
use Rattle.rows.proofs.Sizes.{row_short}
use Rattle.rows.proofs.Written.{printed_last}
use Rattle.runner.specs.Progress.{room_for, records_run}

-- so many rows more at most, and so many numbers
record Adds (n : ℕ) (r s : Run) : Type 0 where
  rows : length (printed_all s.rows) ≤ length (printed_all r.rows) + row_size * n
  numbers : s.numbered ≤ r.numbered + n

module _ (journal : List ℕ) where
  step_adds : (r : Run) (d : Decoded) → Adds 1 r (perform journal r d)
  unfolding perform carried printing
  step_adds r d = go d.entry
    where
      go : (x : Option (Result Entry Refusal)) → Adds 1 r (carried journal r d.next x)
      go None = record { rows = omega arith; numbers = omega arith }
      go (Some entry) =
          record {
            rows = rw printed_last (simp length-append (omega (arith, row_short (suc r.numbered) (performed journal entry r.memory))));
            numbers = omega arith;
          }

  run_adds : (r : Run) (n : ℕ) → Adds n r (run_for journal r n)
  unfolding run_for
  run_adds r zero = record { rows = omega arith; numbers = omega arith }
  run_adds r (suc n) =
      let before = run_adds r n in
      let last = step_adds (run_for journal r n) (entry_at journal (run_for journal r n).at) in
      record { rows = omega arith; numbers = omega arith }

  pub numbered_most : (r : Run) (n : ℕ) → (run_for journal r n).numbered ≤ r.numbered + n
  numbered_most r n = (run_adds r n).numbers

  pub room_enough : (start : Run) (most : ℕ) → start.rows ≡ [] → row_size * entry_count journal ≤ most →
      start.numbered + entry_count journal < 2 ^ 64 → records_run journal start most ≡ entry_count journal
  unfolding records_run room_for printed_all
  room_enough start most empty rows numbers = lowest_none _ _ fits
    where
      fits : (i : ℕ) → i < entry_count journal →
          room_for most (length (printed_all (run_for journal start i).rows)) (run_for journal start i).numbered ≡ true
      fits i below =
          let adds = run_adds start i in
          let none : length (printed_all start.rows) ≡ 0 = rw empty in
          rw (le-leb (length (printed_all (run_for journal start i).rows) + row_size) most (omega arith))
          (lt-ltb ((run_for journal start i).numbered + 1) (2 ^ 64) (omega arith))
