-- An accepted resize has room: for the copy of the table, for what is kept of it in the target, and for the tickets. Assumes nothing.
use Prim.Native.Nat.{ℕ, ◌+◌, ◌*◌, ◌≤◌, ◌<◌, ◌^◌}
use mathlib.Core.Path.{◌≡◌}
use mathlib.Core.Bool.{true}
use native.Mathlib.Omega.{arith}
use borrow.Author.Tests.{ltb-true}
use lib.ListN.{length}
use Rattle.rules.specs.declared.Record.{Record}
use Rattle.rules.specs.Bytes.{IsBytes, record_size}
use Rattle.rules.specs.Table.{Memory, is_lined, line_of, unlined, freed, places, size, line_total}
use Rattle.rules.specs.Calls.{most_records, order_good}
use Rattle.rules.proofs.Memories.{sizes_say}
use Rattle.rules.proofs.InOrder.{in_order_says}
use Rattle.resizing.specs.Resize.{tracked_count, lined_count, kept}
use Rattle.resizing.specs.Room.{PackFits, ResizeFits}
use Rattle.resizing.proofs.KeptCounts.{kept_tracked, kept_lined, kept_size, kept_serial}
use Rattle.resizing.proofs.KeptRecords.{keeping, kept_all}
use Rattle.resizing.proofs.Accepting.{Accepted}

-- a record on a line has one that is there
line_there : (lines : ℕ) (r : Record) → r.state ≤ 1 + 2 * lines → is_lined r ≡ true → line_of r < lines
unfolding is_lined line_of
line_there lines r most lined = omega (arith, ltb-true 1 r.state lined)

module _ (source target : Memory) (bytes : IsBytes source.table) (a : Accepted source target) where
  copy_fits : length source.table ≤ record_size * most_records
  copy_fits = let s = sizes_say source.table source.lines a.source_sizes in omega arith

  abbrev left : Memory
  left = kept (size target) (line_total target) source

  kept_fits : PackFits (places left) (size left) (line_total source) (size target) (line_total target)
  unfolding tracked_count lined_count order_good size line_total unlined freed
  kept_fits =
      let s = sizes_say source.table source.lines a.source_sizes in
      let t = sizes_say target.table target.lines a.target_sizes in
      let o = in_order_says _ _ _ _ a.order in
      let fewer : line_total target < size target = t.lines_fewer in
      let k = keeping (size target) (line_total target) source bytes fewer in
      record {
        few = omega (arith, kept_size (size target) (line_total target) source bytes fewer, s.records_few);
        to_few = omega (arith, t.records_few, t.lines_fewer);
        tracked = kept_tracked (size target) (line_total target) source bytes fewer;
        lined = kept_lined (size target) (line_total target) source bytes fewer;
        line = λ i inside.
            line_there (line_total source) (places left i)
            (kept_all source left (size target) (line_total target) k (λ r. r.state ≤ 1 + 2 * line_total source) i (λ _. omega arith)
            (λ _ _. omega arith) (λ _ _. o.state_most i (omega (arith, kept_size (size target) (line_total target) source bytes fewer))));
      }

  tickets_fit : left.gauge.serial + line_total target < 2 ^ 64
  unfolding size line_total
  tickets_fit =
      let t = sizes_say target.table target.lines a.target_sizes in
      omega (arith, kept_serial (size target) (line_total target) source bytes t.lines_fewer, a.serial)

  pub resize_fits : ResizeFits source target
  resize_fits = record { copy = copy_fits; packed = kept_fits; tickets = tickets_fit }
