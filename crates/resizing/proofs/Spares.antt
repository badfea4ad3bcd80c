-- Spare lines are given: records off the lines may get one, empty and with a ticket, and nothing else changes. Assumes nothing.
use Prim.Native.Nat.{ℕ, zero, suc, ◌+◌, ◌*◌, ◌-◌, ◌≤◌, ◌<◌, ◌^◌}
use mathlib.Core.Path.{◌≡◌, refl, ◌∙◌, ap}
use mathlib.Core.Bool.{true, false}
use mathlib.Core.Logic.{◌⊎◌, inl, inr, ⊎_elim}
use native.Mathlib.Omega.{arith}
use borrow.Author.Tests.{lt-ltb}
use lib.Dec.{ltb}
use Rattle.std.specs.Prelude.{Some, None}
use Rattle.rules.specs.declared.Record.{Record}
use Rattle.rules.specs.Bytes.{IsBytes}
use Rattle.rules.specs.Pass.{Found, count_of}
use Rattle.rules.specs.Replay.{at}
use Rattle.rules.specs.Table.{Memory, is_lined, empty_state, on_empty_line, hottest_unlined, places, size, line_total, with_gauge, with_table, with_serial, write}
use Rattle.rules.specs.Steps.{next_ticket, ticketed, give_line}
use Rattle.rules.specs.Calls.{sizes_good}
use Rattle.rules.proofs.Changes.{at_all}
use Rattle.rules.proofs.Finds.{hottest_found}
use Rattle.rules.proofs.Memories.{places_write, size_write, sizes_write, bytes_write}
use Rattle.rules.proofs.CallsHold.{at_is, on_line_is}
use Rattle.resizing.specs.Resize.{lined_count, give_spare, give_hottest, promoted, filled_up}
use Rattle.resizing.proofs.Counts.{count_at}

-- a record that had no line, and has one below c, empty and with a ticket
pub record Takes (c : ℕ) (r q : Record) : Type 0 where
  pub off : r.state ≡ 1
  pub line : ℕ
  pub ticket : ℕ
  pub below : line < c
  pub is : q ≡ on_empty_line line ticket r

-- after so many spare lines
pub record Promoted (m after : Memory) (more : ℕ) : Type 0 where
  pub records : size after ≡ size m
  pub lines : after.lines ≡ m.lines
  pub sizes : sizes_good after.table after.lines ≡ sizes_good m.table m.lines
  pub bytes : IsBytes after.table
  pub total : after.gauge.total ≡ m.gauge.total
  pub ceiling : after.gauge.ceiling ≡ m.gauge.ceiling
  pub grows : m.gauge.serial ≤ after.gauge.serial
  pub serial : after.gauge.serial ≤ m.gauge.serial + more
  pub each : (i : ℕ) → (places after i ≡ places m i) ⊎ Takes (line_total m) (places m i) (places after i)
  pub lined : lined_count after ≤ lined_count m + more

give_gauge : (m : Memory) (i line : ℕ) → (give_line m i line).gauge ≡ with_serial (m.gauge.serial + 1) m.gauge
unfolding give_line ticketed next_ticket with_gauge write with_table
give_gauge m i line = refl

give_lines : (m : Memory) (i line : ℕ) → (give_line m i line).lines ≡ m.lines
unfolding give_line ticketed with_gauge write with_table
give_lines m i line = refl

module _ (m after : Memory) (more line : ℕ) (x : Promoted m after more) (few : line_total m ≤ 1024) (below : line < line_total m)
    (fits : m.gauge.serial + more + 1 < 2 ^ 64) where
  ticket_fits : next_ticket after < 2 ^ 64
  unfolding next_ticket
  ticket_fits = omega (arith, x.serial)

  abbrev given : ℕ → Record
  given i = on_empty_line line (next_ticket after) (places after i)

  give_places : (i : ℕ) → i < size after → places (give_line after i line) ≡ at i (given i) (places after)
  unfolding give_line ticketed with_gauge places size
  give_places i inside =
      places_write (ticketed after) i (given i) inside
      (on_line_is (places after i) line (next_ticket after) (at_is after i x.bytes) (omega arith) ticket_fits)

  give_size : (i : ℕ) → size (give_line after i line) ≡ size after
  unfolding give_line ticketed with_gauge size
  give_size i = size_write (ticketed after) i (given i)

  give_sizes : (i : ℕ) →
      sizes_good (give_line after i line).table (give_line after i line).lines ≡ sizes_good after.table after.lines
  unfolding give_line ticketed with_gauge
  give_sizes i = sizes_write (ticketed after) i (given i)

  give_bytes : (i : ℕ) → IsBytes (give_line after i line).table
  unfolding give_line ticketed with_gauge
  give_bytes i = bytes_write (ticketed after) i (given i) x.bytes

  give_each : (i : ℕ) → (places after i).state ≡ 1 → (j : ℕ) →
      (at i (given i) (places after) j ≡ places m j) ⊎ Takes (line_total m) (places m j) (at i (given i) (places after) j)
  unfolding on_empty_line empty_state
  give_each i off =
      λ j.
      at_all (λ j q. (q ≡ places m j) ⊎ Takes (line_total m) (places m j) q) i (given i) (places after)
      (⊎_elim
      (λ same. inr record { off = rw same at off; line = line; ticket = next_ticket after; below = below; is = rw same })
      (λ t. absurd (omega (arith, off, ap (λ (r : Record). r.state) t.is)))
      (x.each i))
      j (λ other. x.each j)

  give_lined : (i : ℕ) → i < size after → (places after i).state ≡ 1 →
      count_of is_lined (at i (given i) (places after)) (size after) ≤ lined_count m + suc more
  unfolding is_lined on_empty_line empty_state lined_count
  give_lined i inside off =
      let counts = count_at is_lined i (given i) (places after) (size after) inside in
      let had : ltb 1 (places after i).state ≡ false = rw off in
      let has : ltb 1 (2 + 2 * line) ≡ true = lt-ltb 1 (2 + 2 * line) (omega arith) in
      omega (arith, rw (had, has) at counts, x.lined)

  give_one : (i : ℕ) → i < size after → (places after i).state ≡ 1 → Promoted m (give_line after i line) (suc more)
  unfolding lined_count
  give_one i inside off =
      record {
        records = give_size i ∙ x.records;
        lines = give_lines after i line ∙ x.lines;
        sizes = give_sizes i ∙ x.sizes;
        bytes = give_bytes i;
        total = rw give_gauge x.total;
        ceiling = rw give_gauge x.ceiling;
        grows = rw give_gauge (omega (arith, x.grows));
        serial = rw give_gauge (omega (arith, x.serial));
        each = rw (give_places i inside) (give_each i off);
        lined = rw (give_places i inside, give_size i) (give_lined i inside off);
      }

  give_next : (found : Found) → hottest_unlined (places after) (size after) ≡ found → Promoted m (give_spare line after found) (suc more)
  unfolding give_spare
  give_next None e =
      record {
        records = x.records;
        lines = x.lines;
        sizes = x.sizes;
        bytes = x.bytes;
        total = x.total;
        ceiling = x.ceiling;
        grows = x.grows;
        serial = omega (arith, x.serial);
        each = x.each;
        lined = omega (arith, x.lined);
      }
  give_next (Some (i, r)) e = let h = hottest_found (places after) (size after) i r e in give_one i h.inside h.has.0

  give_step : Promoted m (give_hottest line after) (suc more)
  unfolding give_hottest
  give_step = give_next (hottest_unlined (places after) (size after)) refl

promoted_is : (m : Memory) (line more : ℕ) → IsBytes m.table → line_total m ≤ 1024 → line + more ≤ line_total m →
    m.gauge.serial + more < 2 ^ 64 → Promoted m (promoted line more m) more
unfolding promoted
promoted_is m line zero bytes few below fits =
    record {
      records = refl;
      lines = refl;
      sizes = refl;
      bytes = bytes;
      total = refl;
      ceiling = refl;
      grows = omega arith;
      serial = omega arith;
      each = λ i. inl refl;
      lined = omega arith;
    }
promoted_is m line (suc more) bytes few below fits =
    give_step m (promoted line more m) more (line + more) (promoted_is m line more bytes few (omega arith) (omega arith)) few
    (omega arith) (omega arith)

-- | Spare lines, lowest first
pub filled_up_is : (m : Memory) → IsBytes m.table → line_total m ≤ 1024 → lined_count m ≤ line_total m →
    m.gauge.serial + (line_total m - lined_count m) < 2 ^ 64 → Promoted m (filled_up m) (line_total m - lined_count m)
unfolding filled_up
filled_up_is m bytes few most fits = promoted_is m (lined_count m) (line_total m - lined_count m) bytes few (omega arith) fits
