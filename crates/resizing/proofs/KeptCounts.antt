-- What is kept of a table: the coldest on lines have lost them, victims are gone, and of both exactly as many as are too many.
-- Assumes nothing.
use Prim.Native.Nat.{ℕ, zero, suc, ◌+◌, ◌-◌, ◌≤◌, ◌<◌, min, max}
use mathlib.Core.Path.{◌≡◌, refl, ◌∙◌, ap}
use mathlib.Core.Bool.{true, false}
use native.Mathlib.Decide.{dec_lt, ℕ_discrete}
use native.Mathlib.Omega.{arith}
use native.Mathlib.Numerals.{add-one}
use borrow.Author.Tests.{lt-ltb, le-ltb, eqb-true, ne_eqb}
use Rattle.std.specs.Prelude.{if◌then◌else◌, Some, None}
use Rattle.rules.specs.declared.Record.{Record}
use Rattle.rules.specs.declared.Gauge.{Gauge}
use Rattle.rules.specs.Bytes.{IsBytes}
use Rattle.rules.specs.Pass.{Found, pass, sum_of, count_of}
use Rattle.rules.specs.Replay.{at}
use Rattle.rules.specs.Table.{Memory, is_tracked, is_unlined, is_lined, unlined, freed, colder, leaves, victim, coldest_lined, places, size, line_total, with_gauge, with_table, write}
use Rattle.rules.specs.Steps.{raised}
use Rattle.rules.specs.Calls.{sizes_good}
use Rattle.rules.proofs.Places.{IsRecord}
use Rattle.rules.proofs.Changes.{at_same, at_other}
use Rattle.rules.proofs.Searches.{clash, IsBest}
use Rattle.rules.proofs.Finds.{victim_best, victim_missing, coldest_best, coldest_missing}
use Rattle.rules.proofs.Memories.{places_write, size_write, sizes_write, gauge_write, bytes_write}
use Rattle.rules.proofs.CallsHold.{at_is, unlined_is}
use Rattle.rules.proofs.WithdrawHolds.{freed_is}
use Rattle.resizing.specs.Resize.{times, tracked_count, lined_count, unline, unline_coldest, demoted, drop, drop_victim, evicted, kept}
use Rattle.resizing.proofs.Counts.{count_at}
use Rattle.resizing.proofs.PackSums.{lined_tracked}
use Rattle.resizing.proofs.Goes.{Gone, gone_none, gone_some, gone_was, gone_next}

-- ---- a tracked record is on a line or not
one_of_two : (r : Record) → (if is_unlined r then 1 else 0) + (if is_lined r then 1 else 0) ≡ (if is_tracked r then 1 else 0)
unfolding is_unlined is_lined is_tracked
one_of_two r =
    elim (dec_lt 1 r.state) [
      | yes l ↦ rw (ne_eqb r.state 1 (omega arith), lt-ltb 1 r.state l, lt-ltb 0 r.state (omega arith))
      | no l ↦ elim (ℕ_discrete r.state 0) [
        | yes e ↦ rw e
        | no e ↦ let one : r.state ≡ 1 = omega arith in rw one
      ]
    ]

pub counts_split : (f : ℕ → Record) (n : ℕ) → count_of is_unlined f n + count_of is_lined f n ≡ count_of is_tracked f n
unfolding count_of sum_of pass
counts_split f zero = refl
counts_split f (suc n) = omega (arith, counts_split f n, one_of_two (f n))

lines_write : (m : Memory) (i : ℕ) (r : Record) → (write m i r).lines ≡ m.lines
unfolding write with_table
lines_write m i r = refl

unlined_count : Memory → ℕ
unlined_count m = count_of is_unlined (places m) (size m)

memory_split : (m : Memory) → unlined_count m + lined_count m ≡ tracked_count m
unfolding unlined_count lined_count tracked_count
memory_split m = counts_split (places m) (size m)

-- ---- what neither a line lost nor a drop changes
pub record Same (m after : Memory) : Type 0 where
  pub records : size after ≡ size m
  pub lines : after.lines ≡ m.lines
  pub sizes : sizes_good after.table after.lines ≡ sizes_good m.table m.lines
  pub bytes : IsBytes after.table
  pub total : after.gauge.total ≡ m.gauge.total
  pub serial : after.gauge.serial ≡ m.gauge.serial

same_none : (m : Memory) → IsBytes m.table → Same m m
same_none m bytes = record { records = refl; lines = refl; sizes = refl; bytes = bytes; total = refl; serial = refl }

same_raised : (m after : Memory) (heat : ℕ) → Same m after → Same m (raised heat after)
unfolding raised with_gauge size
same_raised m after heat s =
    record { records = s.records; lines = s.lines; sizes = s.sizes; bytes = s.bytes; total = s.total; serial = s.serial }

same_write : (m after : Memory) (i : ℕ) (r : Record) → Same m after → Same m (write after i r)
same_write m after i r s =
    record {
      records = size_write after i r ∙ s.records;
      lines = lines_write after i r ∙ s.lines;
      sizes = sizes_write after i r ∙ s.sizes;
      bytes = bytes_write after i r s.bytes;
      total = ap (λ (g : Gauge). g.total) (gauge_write after i r) ∙ s.total;
      serial = ap (λ (g : Gauge). g.serial) (gauge_write after i r) ∙ s.serial;
    }

pub same_lines : (m after : Memory) → Same m after → line_total after ≡ line_total m
unfolding line_total
same_lines m after s = rw s.lines

-- ---- lines are lost
pub record Demoted (m after : Memory) (count : ℕ) : Type 0 where
  pub same : Same m after
  pub gauge : after.gauge ≡ m.gauge
  pub gone : Gone is_lined colder unlined (places m) (places after) (size m) count
  pub tracked : tracked_count after ≡ tracked_count m

pub off_line : (r : Record) → is_lined (unlined r) ≡ false
unfolding is_lined unlined
off_line r = refl

pub unlined_tracked : (r : Record) → is_tracked (unlined r) ≡ true
unfolding is_tracked unlined
unlined_tracked r = refl

module _ (m after : Memory) (count : ℕ) (x : Demoted m after count) where
  demoted_next : count < lined_count m → (found : Found) → coldest_lined (places after) (size after) ≡ found →
      Demoted m (unline after found) (count + 1)
  unfolding unline lined_count tracked_count is_lined
  demoted_next fewer None e =
      let none = coldest_missing (places after) (size after) e in
      absurd
      (gone_some is_lined colder unlined (places m) (places after) (size m) count x.gone fewer
      (λ i below. le-ltb 1 (places after i).state (none i (rw x.same.records below))))
  demoted_next fewer (Some (i, r)) e =
      let best : IsBest is_lined colder (places after) (size m) i r =
      rw x.same.records at (coldest_best (places after) (size after) i r e) in
      let is : IsRecord r = rw best.is (at_is after i x.same.bytes) in
      let inside : i < size after = rw x.same.records best.inside in
      let wrote : places (write after i (unlined r)) ≡ at i (unlined r) (places after) =
      places_write after i (unlined r) inside (unlined_is r is) in
      let was : is_tracked (places after i) ≡ true = rw (← best.is) (lined_tracked r best.passes) in
      let counts = count_at is_tracked i (unlined r) (places after) (size m) best.inside in
      record {
        same = same_write m after i (unlined r) x.same;
        gauge = gauge_write after i (unlined r) ∙ x.gauge;
        gone =
            rw wrote
            (gone_next is_lined colder unlined (places m) (places after) (size m) count x.gone off_line i r best);
        tracked =
            rw (wrote, size_write after i (unlined r), x.same.records)
            (omega (arith, rw (was, unlined_tracked r) at counts, rw x.same.records at x.tracked));
      }

  demoted_step : count < lined_count m → Demoted m (unline_coldest after) (suc count)
  unfolding unline_coldest
  demoted_step fewer = rw add-one at (demoted_next fewer (coldest_lined (places after) (size after)) refl)

pub demoted_is : (m : Memory) → IsBytes m.table → (count : ℕ) → count ≤ lined_count m → Demoted m (times count unline_coldest m) count
unfolding times
demoted_is m bytes zero most =
    record { same = same_none m bytes; gauge = refl; gone = gone_none is_lined colder unlined (places m) (size m); tracked = refl }
demoted_is m bytes (suc count) most =
    demoted_step m (times count unline_coldest m) count (demoted_is m bytes count (omega arith)) (omega arith)

-- ---- victims are dropped
pub record Evicted (m after : Memory) (count : ℕ) : Type 0 where
  pub same : Same m after
  pub gone : Gone is_unlined leaves (λ r. freed) (places m) (places after) (size m) count
  pub tracked : tracked_count after + count ≡ tracked_count m
  -- the ceiling is the least that no ceiling before and no heat of a dropped one exceeds
  pub not_below : m.gauge.ceiling ≤ after.gauge.ceiling
  pub covers : (i : ℕ) → i < size m → gone.gone i ≡ true → (places m i).heat ≤ after.gauge.ceiling
  pub no_higher : (most : ℕ) → m.gauge.ceiling ≤ most → ((i : ℕ) → i < size m → gone.gone i ≡ true → (places m i).heat ≤ most) →
      after.gauge.ceiling ≤ most

freed_off : is_unlined freed ≡ false
unfolding is_unlined freed
freed_off = refl

pub freed_untracked : is_tracked freed ≡ false
unfolding is_tracked freed
freed_untracked = refl

unlined_is_tracked : (r : Record) → is_unlined r ≡ true → is_tracked r ≡ true
unfolding is_unlined is_tracked
unlined_is_tracked r e = lt-ltb 0 r.state (omega (arith, eqb-true r.state 1 e))

module _ (m after : Memory) (count : ℕ) (x : Evicted m after count) where
  raised_ceiling : (i : ℕ) (r : Record) (heat : ℕ) → (write (raised heat after) i r).gauge.ceiling ≡ max after.gauge.ceiling heat
  unfolding write with_table raised with_gauge
  raised_ceiling i r heat = refl

  drop_places : (i heat : ℕ) → i < size after → places (write (raised heat after) i freed) ≡ at i freed (places after)
  unfolding raised with_gauge places size
  drop_places i heat inside = places_write (raised heat after) i freed inside freed_is

  drop_size : (i heat : ℕ) → size (write (raised heat after) i freed) ≡ size after
  unfolding raised with_gauge size
  drop_size i heat = size_write (raised heat after) i freed

  drop_one : (i : ℕ) (r : Record) → IsBest is_unlined leaves (places after) (size m) i r →
      Evicted m (write (raised r.heat after) i freed) (count + 1)
  unfolding tracked_count gone_next
  drop_one i r best =
      let raised_same : Same m (raised r.heat after) = same_raised m after r.heat x.same in
      let wrote = drop_places i r.heat (rw x.same.records best.inside) in
      let was : is_tracked (places after i) ≡ true = rw (← best.is) (unlined_is_tracked r best.passes) in
      let counts = count_at is_tracked i freed (places after) (size m) best.inside in
      let is : places m i ≡ r =
      gone_was is_unlined leaves (λ r. freed) (places m) (places after) (size m) count x.gone (λ _. freed_off) i r best in
      let next : Gone is_unlined leaves (λ r. freed) (places m) (at i freed (places after)) (size m) (count + 1) =
      gone_next is_unlined leaves (λ r. freed) (places m) (places after) (size m) count x.gone (λ _. freed_off) i r best in
      record {
        same = same_write m (raised r.heat after) i freed raised_same;
        gone =
            record {
              gone = at i true x.gone.gone;
              foremost = next.foremost;
              each = rw wrote next.each;
              left = rw wrote next.left;
            };
        tracked =
            rw (wrote, drop_size i r.heat, x.same.records)
            (omega (arith, rw (was, freed_untracked) at counts, rw x.same.records at x.tracked));
        not_below = rw raised_ceiling (omega (arith, x.not_below));
        covers = λ j below went.
            rw raised_ceiling
            elim (ℕ_discrete j i) [
              | yes e ↦ rw (e, is) (omega arith)
              | no e ↦ omega (arith, x.covers j below (rw (at_other i j true x.gone.gone e) at went))
            ];
        no_higher = λ most above each.
            let this : r.heat ≤ most = rw is at (each i best.inside (at_same i true x.gone.gone)) in
            let others : after.gauge.ceiling ≤ most =
            x.no_higher most above
            (λ j below went.
            elim (ℕ_discrete j i) [
              | yes e ↦ rw (e, is) this
              | no e ↦ each j below (rw (at_other i j true x.gone.gone e) went)
            ]) in
            rw raised_ceiling (omega arith);
      }

  evicted_next : count < count_of is_unlined (places m) (size m) → (found : Found) → victim (places after) (size after) ≡ found →
      Evicted m (drop after found) (count + 1)
  unfolding drop is_unlined
  evicted_next fewer None e =
      let none = victim_missing (places after) (size after) e in
      absurd
      (gone_some is_unlined leaves (λ r. freed) (places m) (places after) (size m) count x.gone fewer
      (λ i below. ne_eqb (places after i).state 1 (none i (rw x.same.records below))))
  evicted_next fewer (Some (i, r)) e = drop_one i r (rw x.same.records at (victim_best (places after) (size after) i r e))

  evicted_step : count < count_of is_unlined (places m) (size m) → Evicted m (drop_victim after) (suc count)
  unfolding drop_victim
  evicted_step fewer = rw add-one at (evicted_next fewer (victim (places after) (size after)) refl)

pub evicted_is : (m : Memory) → IsBytes m.table → (count : ℕ) → count ≤ count_of is_unlined (places m) (size m) →
    Evicted m (times count drop_victim m) count
unfolding times gone_none
evicted_is m bytes zero most =
    record {
      same = same_none m bytes;
      gone = gone_none is_unlined leaves (λ r. freed) (places m) (size m);
      tracked = omega arith;
      not_below = omega arith;
      covers = λ i below e. clash e refl;
      no_higher = λ most above each. above;
    }
evicted_is m bytes (suc count) most =
    evicted_step m (times count drop_victim m) count (evicted_is m bytes count (omega arith)) (omega arith)

-- ---- what is kept
pub same_then : (m middle after : Memory) → Same m middle → Same middle after → Same m after
same_then m middle after a b =
    record {
      records = b.records ∙ a.records;
      lines = b.lines ∙ a.lines;
      sizes = b.sizes ∙ a.sizes;
      bytes = b.bytes;
      total = b.total ∙ a.total;
      serial = b.serial ∙ a.serial;
    }

module _ (records lines : ℕ) (m : Memory) (bytes : IsBytes m.table) where
  pub lines_lost : Demoted m (demoted lines m) (lined_count m - lines)
  unfolding demoted
  lines_lost = demoted_is m bytes (lined_count m - lines) (omega arith)

  pub demoted_lined : lined_count (demoted lines m) ≡ min (lined_count m) lines
  unfolding lined_count
  demoted_lined = rw lines_lost.same.records (omega (arith, lines_lost.gone.left))

  module _ (fewer : lines < records) where
    -- there are so many off the lines, since fewer lines than records are left
    pub victims_gone : Evicted (demoted lines m) (kept records lines m) (tracked_count (demoted lines m) - records)
    unfolding kept evicted unlined_count
    victims_gone =
        evicted_is (demoted lines m) lines_lost.same.bytes (tracked_count (demoted lines m) - records)
        (omega (arith, demoted_lined, memory_split (demoted lines m)))

    pub kept_same : Same m (kept records lines m)
    kept_same = same_then m (demoted lines m) (kept records lines m) lines_lost.same victims_gone.same

    pub kept_tracked_is : tracked_count (kept records lines m) ≡ min (tracked_count m) records
    kept_tracked_is = omega (arith, victims_gone.tracked, lines_lost.tracked)

    pub kept_tracked : tracked_count (kept records lines m) ≤ records
    kept_tracked = omega (arith, kept_tracked_is)

    -- no victim is on a line
    unlined_left : unlined_count (kept records lines m) + (tracked_count (demoted lines m) - records) ≡ unlined_count (demoted lines m)
    unfolding unlined_count
    unlined_left = rw victims_gone.same.records victims_gone.gone.left

    pub kept_lined_is : lined_count (kept records lines m) ≡ min (lined_count m) lines
    kept_lined_is =
        omega (
          arith,
          demoted_lined,
          memory_split (demoted lines m),
          memory_split (kept records lines m),
          unlined_left,
          victims_gone.tracked,
        )

    pub kept_lined : lined_count (kept records lines m) ≤ lines
    kept_lined = omega (arith, kept_lined_is)

    pub kept_size : size (kept records lines m) ≡ size m
    kept_size = kept_same.records

    pub kept_serial : (kept records lines m).gauge.serial ≡ m.gauge.serial
    kept_serial = kept_same.serial
