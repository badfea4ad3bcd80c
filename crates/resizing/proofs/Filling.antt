-- Spare lines go to the hottest without one, lowest first, so that at the end no record waits where a line is unused. While they go,
-- the lines from the next spare one on are unused, and below it none is unused where a record waits. Assumes nothing.
use Prim.Native.Nat.{ℕ, zero, suc, ◌+◌, ◌-◌, ◌≤◌, ◌<◌, ◌^◌}
use mathlib.Core.Path.{◌≡◌, refl, ◌∙◌}
use mathlib.Core.Bool.{true, false}
use mathlib.Core.Logic.{◌≢◌}
use mathlib.Core.List.{List}
use mathlib.Core.Option.{Option}
use native.Mathlib.Nat.{add-zero, add-suc}
use native.Mathlib.Decide.{ℕ_discrete}
use native.Mathlib.Omega.{arith}
use Rattle.std.specs.Prelude.{Some, None}
use Rattle.rules.specs.declared.Record.{Record}
use Rattle.rules.specs.Bytes.{line_at}
use Rattle.rules.specs.Pass.{Found}
use Rattle.rules.specs.Table.{Memory, empty_state, filled_state, line_of, on_empty_line, hottest_unlined, is_used, places, size, line_total, with_gauge, with_table, write}
use Rattle.rules.specs.Steps.{next_ticket, ticketed, give_line}
use Rattle.rules.specs.Replay.{Filled, Truth, at}
use Rattle.rules.proofs.Changes.{at_same, at_other, at_all}
use Rattle.rules.proofs.Finds.{hottest_found, hottest_missing}
use Rattle.rules.proofs.Invariant.{Shows, Full, Hottest, Kept, Holds}
use Rattle.rules.proofs.Searches.{clash}
use Rattle.rules.proofs.Shown.{put_shows}
use Rattle.rules.proofs.LineKeeps.{give_tracks, all_used, used_at, unused_before, none_on, taken_used, line_taken}
use Rattle.rules.proofs.CallsHold.{write_kept, at_is, on_line_is, lines_few}
use Rattle.resizing.specs.Resize.{lined_count, give_spare, give_hottest, promoted, filled_up}
use Rattle.resizing.proofs.Shrinking.{other_waiting}
use Rattle.resizing.proofs.PackHolds.{Anyhow}

-- of n records, where this line is the next spare one
record Spare (line : ℕ) (f : ℕ → Record) (n c : ℕ) : Type 0 where
  below : Full f n line
  unused : (l : ℕ) → line ≤ l → is_used f n l ≡ false

-- ---- the hottest without a line gets this one
module _ (f : ℕ → Record) (n c line i ticket : ℕ) (inside : i < n) (waits : (f i).state ≡ 1) (spare : Spare line f n c) where
  abbrev r : Record
  r = on_empty_line line ticket (f i)

  not_it : (j : ℕ) → 1 < (f j).state → j ≢ i
  not_it j lined e = omega (arith, rw e at lined)

  given_spare : Spare (suc line) (at i r f) n c
  given_spare =
      record {
        below =
            record {
              none_waits = λ l below unused.
                  elim (ℕ_discrete l line) [
                    | yes e ↦ clash (taken_used (at i r f) n i line ticket (f i) inside (at_same i r f)) (rw e at unused)
                    | no e ↦
                        clash (all_used f n line spare.below i inside waits l (omega arith))
                        (unused_before f (at i r f) n
                        (λ j j-inside lined. used_at (at i r f) n j (f j) j-inside (at_other i j r f (not_it j lined)) lined) l unused)
                  ];
            };
        unused = λ l above.
            none_on (at i r f) n l
            (λ j j-inside. at_all (λ j q. 1 < q.state → line_of q ≢ l) i r f (λ _ e. omega (arith, line_taken line ticket (f i))) j
            (λ _ lined e. clash (used_at f n j (f j) j-inside refl lined) (rw e (spare.unused l (omega arith)))));
      }

  given_hottest : ((j : ℕ) → j < n → (f j).state ≡ 1 → (f j).heat ≤ (f i).heat) → Hottest f n → Hottest (at i r f) n
  unfolding on_empty_line empty_state
  given_hottest most h =
      record {
        hottest = λ j k j-inside k-inside.
            at_all (λ k q. 1 < (at i r f j).state → q.state ≡ 1 → q.heat ≤ (at i r f j).heat) i r f (λ _ e. absurd (omega arith)) k
            (λ _. at_all (λ j q. 1 < q.state → (f k).state ≡ 1 → (f k).heat ≤ q.heat) i r f (λ _. most k k-inside) j
            (λ _. h.hottest j k j-inside k-inside));
      }

  -- its line shows nothing yet, and no ticket so late is stale
  given_shows : (serial : ℕ) (shown : ℕ → List ℕ) (pictures : ℕ → Option Filled) (stale : ℕ → ℕ) → serial < ticket →
      Shows f n serial shown pictures stale → Shows (at i r f) n ticket shown pictures stale
  unfolding on_empty_line empty_state filled_state
  given_shows serial shown pictures stale later s =
      put_shows f n serial shown pictures stale s i ticket r (omega arith) (λ l e. absurd (omega arith)) (omega arith)
      (λ _. omega (arith, s.stale_most (f i).key))

-- ---- one line
module _ (line : ℕ) (t : Truth) (stale : ℕ → ℕ) where
  module _ (m : Memory) (fits : next_ticket m < 2 ^ 64) (there : line < line_total m) (h : Kept (Spare line) Hottest m t stale) where
    give_found : (x : Found) → hottest_unlined (places m) (size m) ≡ x → Kept (Spare (suc line)) Hottest (give_spare line m x) t stale
    unfolding give_spare give_line next_ticket ticketed with_gauge places size line_total
    give_found None e =
        other_waiting h
        record {
          below = record { none_waits = λ l below unused. hottest_missing (places m) (size m) e };
          unused = λ l above. h.full.unused l (omega arith);
        }
    give_found (Some (i, r)) e =
        let f = places m in
        let n = size m in
        let c = line_total m in
        let found = hottest_found f n i r e in
        let low : line < 1024 = omega (arith, lines_few m h.sizes) in
        let ticket = next_ticket m in
        let taker = on_empty_line line ticket (f i) in
        write_kept (Spare (suc line)) Hottest (ticketed m) t stale i taker h.sizes h.bytes fits found.inside
        (on_line_is (f i) line ticket (at_is m i h.bytes) low fits)
        (give_tracks f n c i line ticket found.inside found.has.0 there (h.full.unused line (omega arith)) m.gauge t h.tracks)
        (given_shows f n c line i ticket found.inside found.has.0 h.full m.gauge.serial (line_at m.lines) t.picture stale
        (omega arith) h.shows)
        (given_spare f n c line i ticket found.inside found.has.0 h.full)
        (given_hottest f n c line i ticket found.inside found.has.0 h.full found.has.1 h.hottest)

    give_hottest_keeps : Kept (Spare (suc line)) Hottest (give_hottest line m) t stale
    unfolding give_hottest
    give_hottest_keeps = give_found (hottest_unlined (places m) (size m)) refl

-- what a spare line's going leaves: the lines, and a serial at most 1 more
give_leaves : (line : ℕ) (m : Memory) (x : Found) →
    (line_total (give_spare line m x) ≡ line_total m) × ((give_spare line m x).gauge.serial ≤ m.gauge.serial + 1)
unfolding give_spare give_line next_ticket ticketed with_gauge with_table write line_total
give_leaves line m None = (refl, omega arith)
give_leaves line m (Some (i, r)) = (refl, omega arith)

-- ---- one by one
promoted_leaves : (line more : ℕ) (m : Memory) →
    (line_total (promoted line more m) ≡ line_total m) × ((promoted line more m).gauge.serial ≤ m.gauge.serial + more)
unfolding promoted give_hottest
promoted_leaves line zero m = (refl, omega arith)
promoted_leaves line (suc more) m =
    let was = promoted_leaves line more m in
    let m' = promoted line more m in
    let is = give_leaves (line + more) m' (hottest_unlined (places m') (size m')) in
    (is.0 ∙ was.0, omega (arith, is.1, was.1))

module _ (line : ℕ) (m : Memory) (t : Truth) (stale : ℕ → ℕ) (room : m.gauge.serial + line_total m < 2 ^ 64)
    (h : Kept (Spare line) Hottest m t stale) where
  promoted_keeps : (more : ℕ) → more ≤ line_total m - line → Kept (Spare (line + more)) Hottest (promoted line more m) t stale
  unfolding promoted next_ticket
  promoted_keeps zero within = rw add-zero h
  promoted_keeps (suc more) within =
      let m' = promoted line more m in
      let left = promoted_leaves line more m in
      rw add-suc
      (give_hottest_keeps (line + more) t stale m' (omega (arith, left.1)) (omega (arith, left.0))
      (promoted_keeps more (omega arith)))

pub filled_up_holds : (m : Memory) (t : Truth) (stale : ℕ → ℕ) → Kept Anyhow Hottest m t stale →
    m.gauge.serial + line_total m < 2 ^ 64 →
    ((line : ℕ) → line < lined_count m → is_used (places m) (size m) line ≡ true) →
    ((line : ℕ) → lined_count m ≤ line → is_used (places m) (size m) line ≡ false) → Holds (filled_up m) t stale
unfolding filled_up
filled_up_holds m t stale h room used unused =
    let line = lined_count m in
    let more = line_total m - line in
    let start : Kept (Spare line) Hottest m t stale =
    other_waiting h record { below = record { none_waits = λ l below free. clash (used l below) free }; unused = unused } in
    let end = promoted_keeps line m t stale room start more (omega arith) in
    other_waiting end
    record { none_waits = λ l below. end.full.below.none_waits l (omega (arith, (promoted_leaves line more m).0)) }
