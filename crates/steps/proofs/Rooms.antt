-- A memory that passes the tests of sizes and of order has room for the steps, and writing a record, a change of the gauge and an
-- aging keep that room: by place, from what each does to a place. Assumes nothing.
use Prim.Native.Nat.{ℕ, ◌+◌, ◌*◌, ◌≤◌, ◌<◌, ◌^◌}
use mathlib.Core.Path.{◌≡◌}
use mathlib.Core.Bool.{true}
use native.Mathlib.Decide.{ℕ_discrete}
use native.Mathlib.Omega.{arith}
use Rattle.rules.specs.declared.Record.{Record}
use Rattle.rules.specs.declared.Gauge.{Gauge}
use Rattle.std.specs.Prelude.{Some, max}
use Rattle.rules.specs.Replay.{at}
use Rattle.rules.specs.Table.{Memory, aged_record, half_down, new_record, most_total, places, size, line_total, with_table, with_ceiling, with_gauge, write}
use Rattle.rules.specs.Steps.{aged, aged_gauge, track, evict, raised}
use Rattle.rules.specs.Calls.{most_weight, serial_limit, sizes_good, order_good}
use Rattle.rules.proofs.Places.{IsRecord}
use Rattle.rules.proofs.Changes.{at_same, at_other}
use Rattle.rules.proofs.Memories.{sizes_say, places_write, size_write, size_aged}
use Rattle.rules.proofs.InOrder.{in_order_says}
use Rattle.tracker.specs.Claiming.{largest}
use Rattle.lines.specs.Room.{LinesFit}
use Rattle.steps.specs.Room.{HeatsFit, Admits, EachAged}

pub order_fits : (m : Memory) → sizes_good m.table m.lines ≡ true → order_good m ≡ true →
    (m.gauge.total ≤ most_total) × HeatsFit m × LinesFit m
unfolding order_good size line_total
order_fits m good ordered =
    let s = sizes_say m.table m.lines good in
    let o = in_order_says _ _ _ _ ordered in (
      o.total_most,
      record { ceiling = omega arith; heat = λ i inside. omega (arith, o.heat_most i inside) },
      record { state = o.state_most; lines = omega arith },
    )

-- what holds of a record that is written and of every record before holds of every record after
write_keeps : (P : Record → Type 0) (m : Memory) (i : ℕ) (r : Record) → i < size m → IsRecord r → P r →
    ((j : ℕ) → j < size m → P (places m j)) → (j : ℕ) → j < size (write m i r) → P (places (write m i r) j)
write_keeps P m i r inside is holds before j within =
    rw (places_write m i r inside is) (each (rw (size_write m i r) at within))
  where
    each : j < size m → P (at i r (places m) j)
    each below =
        elim (ℕ_discrete j i) [
          | yes e ↦ rw (e, at_same i r (places m)) holds
          | no e ↦ rw (at_other i j r (places m) e) (before j below)
        ]

-- a record that is written may be admitted, if its line is there and its heat is not the largest number
pub write_admits : (m : Memory) (i : ℕ) (r : Record) → HeatsFit m → LinesFit m → m.gauge.serial < serial_limit → i < size m → IsRecord r →
    r.heat < largest → r.state ≤ 1 + 2 * line_total m → Admits (Some i) (write m i r)
unfolding size line_total write with_table
write_admits m i r heats lines serial inside is below most = (
  omega (arith, size_write m i r),
  record { state = write_keeps (λ s. s.state ≤ 1 + 2 * line_total m) m i r inside is most lines.state; lines = lines.lines },
  record { heat = write_keeps (λ s. s.heat < largest) m i r inside is below (λ j within. omega (arith, heats.heat j within)) },
  serial,
)

pub lines_gauge : (m : Memory) (g : Gauge) → LinesFit m → LinesFit (with_gauge g m)
unfolding with_gauge places size line_total
lines_gauge m g fits = record { state = fits.state; lines = fits.lines }

pub heats_gauge : (m : Memory) (g : Gauge) → HeatsFit m → g.ceiling ≤ most_total → HeatsFit (with_gauge g m)
unfolding with_gauge places size
heats_gauge m g fits most = record { ceiling = most; heat = fits.heat }

-- a key tracked anew is on no line, and its heat is the ceiling's and its weight's
pub track_admits : (m n : Memory) (key w i : ℕ) → n ≡ track m key w i → HeatsFit m → LinesFit m → m.gauge.serial < serial_limit →
    i < size m → key < 2 ^ 64 → w ≤ most_weight → Admits (Some i) n
unfolding track new_record
track_admits m n key w i is heats lines serial inside fits weight =
    let most = heats.ceiling in
    rw is (write_admits m i (new_record key m.gauge.ceiling w) heats lines serial inside (omega arith) (omega arith) (omega arith))

-- the new ceiling is a heat or the old ceiling, so it has room for the weight
pub evict_admits : (m n : Memory) (key w i : ℕ) (v : Record) → n ≡ evict m key w i v → HeatsFit m → LinesFit m →
    m.gauge.serial < serial_limit → i < size m → key < 2 ^ 64 → w ≤ most_weight → v.heat ≤ most_total → Admits (Some i) n
unfolding evict raised with_gauge size
evict_admits m n key w i v is heats lines serial inside fits weight most =
    let raised = with_ceiling (max m.gauge.ceiling v.heat) m.gauge in
    let room = heats_gauge m raised heats (grind (arith, heats.ceiling)) in
    track_admits (with_gauge raised m) n key w i is room (lines_gauge m raised lines) serial inside fits weight

-- what holds of every record once it is aged holds of every record of an aged memory
aged_keeps : (P : Record → Type 0) (m : Memory) → EachAged m.table (aged m).table → ((i : ℕ) → i < size m → P (aged_record (places m i))) →
    (i : ℕ) → i < size (aged m) → P (places (aged m) i)
unfolding places size
aged_keeps P m each holds i inside =
    let within : i < size m = rw (size_aged m) at inside in
    rw (each i within) (holds i within)

pub aged_heats : (m : Memory) → EachAged m.table (aged m).table → HeatsFit m → HeatsFit (aged m)
unfolding aged aged_gauge with_gauge aged_record half_down
aged_heats m each fits =
    record {
      ceiling = omega (arith, fits.ceiling);
      heat = aged_keeps (λ r. r.heat ≤ most_total) m each (λ i within. omega (arith, fits.heat i within));
    }

pub aged_lines : (m : Memory) → EachAged m.table (aged m).table → LinesFit m → LinesFit (aged m)
unfolding aged_record line_total aged with_gauge with_table
aged_lines m each fits =
    record { state = aged_keeps (λ r. r.state ≤ 1 + 2 * line_total m) m each fits.state; lines = fits.lines }
