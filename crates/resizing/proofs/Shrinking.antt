-- A resize's first steps keep what lists keep, but for who waits for a line: another K in the truth, fewer lines, fewer records.
-- Assumes nothing.
use Prim.Native.Nat.{ℕ, zero, suc, ◌+◌, ◌-◌, ◌≤◌, ◌<◌, min, max}
use mathlib.Core.Path.{◌≡◌, refl, sym}
use mathlib.Core.Bool.{Bool, true, false, true≢false}
use mathlib.Core.List.{List}
use mathlib.Core.Option.{Option}
use native.Mathlib.Decide.{dec_lt, ℕ_discrete}
use native.Mathlib.Omega.{arith}
use borrow.Author.Tests.{ltb-true, ne_eqb}
use lib.Dec.{ltb}
use Rattle.std.specs.Prelude.{Some, None, if◌then◌else◌}
use Rattle.rules.specs.declared.Record.{Record}
use Rattle.rules.specs.declared.Gauge.{Gauge}
use Rattle.rules.specs.Bytes.{line_at}
use Rattle.rules.specs.Pass.{Found, count_of, sum_where, count_where}
use Rattle.rules.specs.Table.{Memory, is_free, is_tracked, is_unlined, with_ceiling, freed, victim, with_gauge, filled_state, unlined, coldest_lined, places, size, line_total}
use Rattle.rules.specs.Steps.{raised, level}
use Rattle.rules.specs.Replay.{Filled, Truth, at}
use Rattle.rules.proofs.Changes.{at_other, at_all}
use Rattle.rules.proofs.Chosen.{count_all, larger}
use Rattle.rules.proofs.Finds.{coldest_found, victim_found}
use Rattle.rules.proofs.Invariant.{Tracks, Shows, Hottest, Kept, Holds}
use Rattle.rules.proofs.Searches.{sum_le}
use Rattle.rules.proofs.Shown.{put_shows}
use Rattle.rules.proofs.LineKeeps.{Off, unlined_off, unlined_tracks}
use Rattle.rules.proofs.WithdrawKeeps.{freed_tracks, freed_shows, freed_hottest}
use Rattle.rules.proofs.CallsHold.{write_kept, at_is, unlined_is}
use Rattle.rules.proofs.WithdrawHolds.{freed_is}
use Rattle.resizing.specs.Resize.{resize_truth, times, tracked_count, lined_count, unline, unline_coldest, demoted, drop, drop_victim, evicted, kept}
use Rattle.resizing.proofs.Counts.{either_more, count_at}
use Rattle.resizing.proofs.Levels.{by_tracked}
use Rattle.resizing.proofs.PackHolds.{Anyhow}
use Rattle.resizing.proofs.Goes.{count_is_where}
use Rattle.resizing.proofs.KeptCounts.{counts_split, evicted_is, demoted_lined}

-- where another thing is said of who waits
pub other_waiting : {W W' : (ℕ → Record) → ℕ → ℕ → Type 0} {H : (ℕ → Record) → ℕ → Type 0} {m : Memory} {t : Truth} {stale : ℕ → ℕ} →
    Kept W H m t stale → W' (places m) (size m) (line_total m) → Kept W' H m t stale
other_waiting h full =
    record {
      sizes = h.sizes;
      bytes = h.bytes;
      serial_fits = h.serial_fits;
      tracks = h.tracks;
      shows = h.shows;
      full = full;
      hottest = h.hottest;
    }

-- a record off the lines shows nothing
off_shows : (f : ℕ → Record) (n serial : ℕ) (shown : ℕ → List ℕ) (pictures : ℕ → Option Filled) (stale : ℕ → ℕ) →
    Shows f n serial shown pictures stale → (i : ℕ) (r : Record) → Off r → Shows (at i r f) n serial shown pictures stale
unfolding filled_state
off_shows f n serial shown pictures stale s i r off =
    put_shows f n serial shown pictures stale s i serial r (omega arith) (λ line e. absurd (omega (arith, off.state)))
    (omega (arith, off.ticket)) (λ l. absurd (omega (arith, off.state)))

-- ---- choices of places
module _ (chosen : ℕ → Bool) (n : ℕ) where
  -- a sum is no larger than another, where no chosen amount is
  chosen_le : (a b : Record → ℕ) (f g : ℕ → Record) → ((i : ℕ) → i < n → chosen i ≡ true → a (f i) ≤ b (g i)) →
      sum_where chosen a f n ≤ sum_where chosen b g n
  unfolding sum_where
  chosen_le a b f g each = sum_le _ _ (λ i. i) (λ i. i) n (λ i below. go (chosen i) (each i below))
    where
      go : (c : Bool) {x y : ℕ} → (c ≡ true → x ≤ y) → (if c then x else 0) ≤ (if c then y else 0)
      go true e = e refl
      go false e = omega arith

-- ---- a smallest record count
module _ (W : (ℕ → Record) → ℕ → ℕ → Type 0) (H : (ℕ → Record) → ℕ → Type 0) (m : Memory) (t : Truth) (stale : ℕ → ℕ) (records : ℕ) where
  -- a choice of fewer places is part of one of more
  pub weaken : Kept W H m t stale → Kept W H m (resize_truth t records) stale
  unfolding resize_truth
  weaken h =
      record {
        sizes = h.sizes;
        bytes = h.bytes;
        serial_fits = h.serial_fits;
        tracks =
            record {
              total_most = h.tracks.total_most;
              ceiling_most = h.tracks.ceiling_most;
              heat_most = h.tracks.heat_most;
              state_most = h.tracks.state_most;
              free_zero = h.tracks.free_zero;
              unlined_ticket = h.tracks.unlined_ticket;
              keys_apart = h.tracks.keys_apart;
              lines_apart = h.tracks.lines_apart;
              not_below = h.tracks.not_below;
              not_above = h.tracks.not_above;
              untracked = h.tracks.untracked;
              few = omega (arith, h.tracks.few);
              levels = λ chosen many.
                  let x =
                  larger chosen (λ i. true) (level m.gauge.ceiling) (places m) 0 (size m) (λ i below _. omega arith)
                  (t.fewest - min t.fewest records)
                  (omega (arith, count_all (size m), either_more chosen (size m) (λ i. true), many, h.tracks.few)) in
                  omega (arith, x.sum, h.tracks.levels x.choice (omega (arith, x.many, many)));
              total = h.tracks.total;
            };
        shows = h.shows;
        full = h.full;
        hottest = h.hottest;
      }

-- ---- the coldest loses its line
unlined_hottest : (f : ℕ → Record) (n i : ℕ) → ((j : ℕ) → j < n → 1 < (f j).state → (f i).heat ≤ (f j).heat) → Hottest f n →
    Hottest (at i (unlined (f i)) f) n
unfolding unlined
unlined_hottest f n i coldest h =
    let r = unlined (f i) in
    record {
      hottest = λ j k j-inside k-inside.
          at_all (λ j q. 1 < q.state → (at i r f k).state ≡ 1 → (at i r f k).heat ≤ q.heat) i r f (λ l. absurd (omega arith)) j
          (λ _ lined. at_all (λ k q. q.state ≡ 1 → q.heat ≤ (f j).heat) i r f (λ _. coldest j j-inside lined) k
          (λ _ waits. h.hottest j k j-inside k-inside lined waits));
    }

module _ (m : Memory) (t : Truth) (stale : ℕ → ℕ) (h : Kept Anyhow Hottest m t stale) where
  unline_found : (x : Found) → coldest_lined (places m) (size m) ≡ x → Kept Anyhow Hottest (unline m x) t stale
  unfolding unline
  unline_found None e = h
  unline_found (Some (i, r)) e =
      let f = places m in
      let n = size m in
      let found = coldest_found f n i r e in
      let r' = unlined (f i) in
      rw found.is
      (write_kept Anyhow Hottest m t stale i r' h.sizes h.bytes h.serial_fits found.inside (unlined_is (f i) (at_is m i h.bytes))
      (unlined_tracks f n (line_total m) i found.inside found.has.0 m.gauge t h.tracks)
      (off_shows f n m.gauge.serial (line_at m.lines) t.picture stale h.shows i r' (unlined_off (f i)))
      tt (unlined_hottest f n i found.has.1 h.hottest))

  pub unline_holds : Kept Anyhow Hottest (unline_coldest m) t stale
  unfolding unline_coldest
  unline_holds = unline_found (coldest_lined (places m) (size m)) refl

-- ---- the victim is dropped
-- it is no hotter than any other tracked record, of which at least as many are left as a choice may have
module _ (f : ℕ → Record) (n c i : ℕ) (inside : i < n) (waits : (f i).state ≡ 1) (g : Gauge) (t : Truth)
    (coldest : (j : ℕ) → j < n → 0 < (f j).state → (f i).heat ≤ (f j).heat) (left : t.fewest < count_of is_tracked f n)
    (s : Tracks f n c g t) where
  abbrev ceiling : ℕ
  ceiling = max g.ceiling (f i).heat

  abbrev f' : ℕ → Record
  f' = at i freed f

  -- one that is tracked is another, and its level is at least the new ceiling
  left_tracked : (j : ℕ) → is_tracked (f' j) ≡ true → (f' j ≡ f j) × (0 < (f j).state)
  unfolding is_tracked freed
  left_tracked j =
      at_all (λ j r. ltb 0 r.state ≡ true → (r ≡ f j) × (0 < (f j).state)) i freed f (λ e. absurd (true≢false (sym e))) j
      (λ _ e. (refl, ltb-true 0 (f j).state e))

  left_level : (j : ℕ) → j < n → is_tracked (f' j) ≡ true → ceiling ≤ level g.ceiling (f j)
  unfolding level is_free
  left_level j below e =
      let tracked = (left_tracked j e).1 in
      rw (ne_eqb (f j).state 0 (omega arith)) (omega (arith, coldest j below tracked))

  same_level : (j : ℕ) → j < n → is_tracked (f' j) ≡ true → level ceiling (f' j) ≤ level g.ceiling (f j)
  unfolding level is_free
  same_level j below e =
      let is = left_tracked j e in
      rw (is.0, ne_eqb (f j).state 0 (omega (arith, is.1))) (omega (arith, coldest j below is.1))

  left_count : t.fewest ≤ count_where (λ j. is_tracked (f' j)) n
  unfolding is_tracked freed
  left_count =
      omega (
        arith,
        rw waits at (count_at is_tracked i freed f n inside),
        count_is_where is_tracked f' (λ j. is_tracked (f' j)) n (λ j below. refl),
      )

  dropped_levels : (chosen : ℕ → Bool) → count_where chosen n ≡ t.fewest → sum_where chosen (level ceiling) f' n ≤ g.total
  dropped_levels =
      by_tracked f' n ceiling t.fewest g.total
      λ chosen extra tracked many.
      let x =
      larger chosen (λ j. is_tracked (f' j)) (level g.ceiling) f ceiling n left_level extra
      (omega (arith, left_count, either_more chosen n (λ j. is_tracked (f' j)), many)) in
      omega (
        arith,
        x.sum,
        s.levels x.choice (omega (arith, x.many, many)),
        chosen_le chosen n (level ceiling) (level g.ceiling) f' f (λ j below e. same_level j below (tracked j e)),
      )

  dropped_tracks : Tracks f' n c (with_ceiling ceiling g) t
  unfolding freed
  dropped_tracks =
      let w = freed_tracks f n c i inside (omega arith) g t s in
      record {
        total_most = w.total_most;
        ceiling_most = omega (arith, s.ceiling_most, s.heat_most i inside);
        heat_most = w.heat_most;
        state_most = w.state_most;
        free_zero = w.free_zero;
        unlined_ticket = w.unlined_ticket;
        keys_apart = w.keys_apart;
        lines_apart = w.lines_apart;
        not_below = λ j h.
            at_all (λ j r. 0 < r.state → t.heat r.key ≤ r.heat) i freed f (λ u. absurd (omega arith)) j (λ _. s.not_below j h);
        not_above = λ j h.
            at_all (λ j r. 0 < r.state → r.heat ≤ t.heat r.key + r.slack) i freed f (λ u. absurd (omega arith)) j
            (λ _. s.not_above j h);
        untracked = λ key none.
            elim (ℕ_discrete key (f i).key) [
              | yes e ↦ rw e (omega (arith, s.not_below i inside (omega arith)))
              | no other ↦ omega (
                arith,
                s.untracked key
                    (λ j h u. elim (ℕ_discrete j i) [
                      | yes same ↦ λ e. other (rw same at (sym e))
                      | no apart ↦ rw (at_other i j freed f apart) at (none j h (rw (at_other i j freed f apart) u))
                    ]),
              )
            ];
        few = s.few;
        levels = dropped_levels;
        total = s.total;
      }

module _ (m : Memory) (t : Truth) (stale : ℕ → ℕ) (h : Kept Anyhow Hottest m t stale) (left : t.fewest < tracked_count m) where
  drop_found : (x : Found) → victim (places m) (size m) ≡ x → Kept Anyhow Hottest (drop m x) t stale
  unfolding drop raised with_gauge places size line_total tracked_count
  drop_found None e = h
  drop_found (Some (i, r)) e =
      let f = places m in
      let n = size m in
      let c = line_total m in
      let found = victim_found f n i r e in
      -- one on a line is at least as hot as one without
      let coldest : (j : ℕ) → j < n → 0 < (f j).state → (f i).heat ≤ (f j).heat =
      λ j below tracked. elim (dec_lt 1 (f j).state) [
        | yes lined ↦ h.hottest.hottest j i below found.inside lined found.has.0
        | no off ↦ found.has.1 j below (omega arith)
      ] in
      rw found.is
      (write_kept Anyhow Hottest (raised (f i).heat m) t stale i freed h.sizes h.bytes h.serial_fits found.inside freed_is
      (dropped_tracks f n c i found.inside found.has.0 m.gauge t coldest left h.tracks)
      (freed_shows f n c i found.inside m.gauge.serial (line_at m.lines) t.picture stale h.shows)
      tt (freed_hottest f n c i found.inside h.hottest))

  drop_holds : Kept Anyhow Hottest (drop_victim m) t stale
  unfolding drop_victim
  drop_holds = drop_found (victim (places m) (size m)) refl

-- ---- so many times
module _ (t : Truth) (stale : ℕ → ℕ) where
  demoted_holds : (m : Memory) → Kept Anyhow Hottest m t stale → (count : ℕ) → Kept Anyhow Hottest (times count unline_coldest m) t stale
  unfolding times
  demoted_holds m h zero = h
  demoted_holds m h (suc count) = unline_holds (times count unline_coldest m) t stale (demoted_holds m h count)

  -- as long as more are tracked than a choice may have
  evicted_holds : (m : Memory) → Kept Anyhow Hottest m t stale → (count : ℕ) → count ≤ count_of is_unlined (places m) (size m) →
      count ≤ tracked_count m - t.fewest → Kept Anyhow Hottest (times count drop_victim m) t stale
  unfolding times
  evicted_holds m h zero some more = h
  evicted_holds m h (suc count) some more =
      drop_holds (times count drop_victim m) t stale (evicted_holds m h count (omega arith) (omega arith))
      (omega (arith, (evicted_is m h.bytes count (omega arith)).tracked))

pub kept_holds : (records lines : ℕ) (m : Memory) (t : Truth) (stale : ℕ → ℕ) → Holds m t stale → t.fewest ≤ records → lines < records →
    Kept Anyhow Hottest (kept records lines m) t stale
unfolding kept evicted demoted tracked_count lined_count
kept_holds records lines m t stale h few fewer =
    let m' = demoted lines m in
    let left : lined_count m' ≡ min (lined_count m) lines = demoted_lined records lines m h.bytes in
    evicted_holds t stale m' (demoted_holds t stale m (other_waiting h tt) (lined_count m - lines))
    (tracked_count m' - records) (omega (arith, left, counts_split (places m') (size m'))) (omega arith)
