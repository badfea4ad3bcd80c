-- An accepted read keeps what holds: step 1 ages where the true total says so too, steps 2 to 4 count the pieces and find the class a
-- record, step 5 admits it. Assumes nothing.
use Prim.Native.Nat.{ℕ, ◌+◌, ◌≤◌, ◌<◌, ◌^◌, max}
use mathlib.Core.Path.{◌≡◌, refl, ap, subst}
use mathlib.Core.Bool.{Bool, true, false}
use mathlib.Core.Logic.{◌≢◌}
use native.Mathlib.Omega.{arith}
use borrow.Author.Tests.{ltb-false, ne_eqb}
use native.Mathlib.Decide.{ℕ_discrete}
use lib.Dec.{ltb}
use Rattle.rules.specs.declared.Record.{Record}
use Rattle.rules.specs.Pass.{Found}
use Rattle.std.specs.Prelude.{Some, None}
use Rattle.rules.specs.Bytes.{line_at}
use Rattle.std.specs.Prelude.{if◌then◌else◌}
use Rattle.rules.specs.Answers.{Reply}
use Rattle.rules.specs.Table.{Memory, is_free, filled_state, heated, new_record, key_record, free_record, victim, half_down, most_total, places, size, line_total, with_table, with_gauge, write}
use Rattle.rules.specs.Steps.{Outcome, aged, aged_gauge, decay_for, grown, track, raised, evict, admission, place, read_counted, warm_steps, peek_steps, read_steps, level}
use Rattle.rules.specs.Calls.{most_weight, serial_limit}
use Rattle.rules.specs.Replay.{Truth, age_truth, grown_truth, warm_truth, read_truth}
use Rattle.rules.proofs.Places.{IsRecord, record_at_is}
use Rattle.rules.proofs.Finds.{zero_says, key_found, key_missing, free_found, free_missing, victim_found}
use Rattle.rules.proofs.Invariant.{FullBut, HottestBut, Holds, HoldsBut}
use Rattle.rules.proofs.Changes.{at_same}
use Rattle.rules.proofs.Shown.{put_shows}
use Rattle.rules.proofs.Memories.{places_write, size_write, sizes_say}
use Rattle.rules.proofs.InOrder.{lined_most, has_victim}
use Rattle.rules.proofs.ReadKeeps.{counted, heat_tracks, heat_full, heat_hottest, track_tracks, track_full, track_hottest, level_bounds}
use Rattle.rules.proofs.Peek.{read_counts, read_either}
use Rattle.rules.proofs.CallsHold.{age_holds, write_kept, admit_holds}

-- the record written at i, tracked, is admitted
admitted : (m : Memory) (t : Truth) (stale : ℕ → ℕ) (i : ℕ) (r : Record) → m.gauge.serial < serial_limit → i < size m → IsRecord r →
    0 < r.state → HoldsBut i (write m i r) t stale → Holds (admission i (write m i r)).after t stale
unfolding admission write with_table
admitted m t stale i r few inside is tracked h =
    admit_holds (write m i r) t stale i few h (rw (size_write m i r) inside)
    (rw (places_write m i r inside is, at_same i r (places m)) tracked)

pub heated_is : (w : ℕ) (r : Record) → IsRecord r → r.heat + w < 2 ^ 64 → IsRecord (heated w r)
unfolding heated
heated_is w r is hot = record { key = is.key; heat = hot; slack = is.slack; state = is.state; ticket = is.ticket }

heated_tracked : (w : ℕ) (r : Record) → 0 < r.state → 0 < (heated w r).state
unfolding heated
heated_tracked w r tracked = tracked

pub new_is : (key ceiling w : ℕ) → key < 2 ^ 64 → ceiling + w < 2 ^ 64 → IsRecord (new_record key ceiling w)
unfolding new_record
new_is key ceiling w fits hot = record { key = fits; heat = hot; slack = omega arith; state = omega arith; ticket = omega arith }

new_tracked : (key ceiling w : ℕ) → 0 < (new_record key ceiling w).state
unfolding new_record
new_tracked key ceiling w = omega arith

-- a ceiling that is raised to a heat which a record has leaves its level
unraised : (ceiling heat : ℕ) (r : Record) → r.state ≢ 0 → heat ≤ r.heat → level (max ceiling heat) r ≤ level ceiling r
unfolding level is_free
unraised ceiling heat r tracked below = rw (ne_eqb r.state 0 tracked) (omega arith)

module _ (m : Memory) (t : Truth) (stale : ℕ → ℕ) (key w : ℕ) (h : Holds m t stale) (room : m.gauge.total + w ≤ most_total)
    (fits : key < 2 ^ 64) (few : m.gauge.serial < serial_limit) where
  -- ---- step 2
  heat_holds : (i : ℕ) (r : Record) → key_record key (places m) (size m) ≡ Some (i, r) →
      Holds (admission i (write (grown w m) i (heated w r))).after (grown_truth t key w) stale
  unfolding grown with_gauge places size line_total grown_truth heated
  heat_holds i r e =
      let found = key_found (places m) (size m) key i r e in
      let f = places m in
      let tracked : 0 < (f i).state = found.has.0 in
      let is = record_at_is m.table i h.bytes in
      let hot : (f i).heat + w < 2 ^ 64 = omega (arith, h.tracks.heat_most i found.inside) in
      let written : IsRecord (heated w (f i)) = heated_is w (f i) is hot in
      rw (found.is, ← found.has.1)
      (admitted (grown w m) _ stale i (heated w (f i)) few found.inside written (heated_tracked w (f i) tracked)
      (write_kept (FullBut i) (HottestBut i) (grown w m) _ stale i (heated w (f i)) h.sizes h.bytes h.serial_fits found.inside
      written
      (heat_tracks f (size m) (line_total m) i found.inside w tracked m.gauge t h.tracks room)
      (put_shows f (size m) m.gauge.serial (line_at m.lines) t.picture stale h.shows i m.gauge.serial (heated w (f i))
      (omega arith) (λ line. h.shows.latest i line found.inside) (h.shows.ticket_most i found.inside)
      (h.shows.since i found.inside))
      (heat_full f (size m) (line_total m) i found.inside w tracked h.full)
      (heat_hottest f (size m) (line_total m) i found.inside w tracked h.hottest)))

  -- ---- steps 3 and 4
  track_holds : (i ceiling : ℕ) → i < size m → (places m i).state ≤ 1 → key_record key (places m) (size m) ≡ None →
      m.gauge.ceiling ≤ ceiling → (places m i).heat ≤ ceiling →
      ((j : ℕ) → j < size m → level ceiling (places m j) ≤ level m.gauge.ceiling (places m j)) →
      Holds (admission i (track (with_gauge (counted m.gauge w ceiling) m) key w i)).after (grown_truth t key w) stale
  unfolding track with_gauge places size line_total grown_truth new_record filled_state
  track_holds i ceiling inside unlined missing above covers lower =
      let f = places m in
      let m' = with_gauge (counted m.gauge w ceiling) m in
      let untracked = key_missing f (size m) key missing in
      let low : ceiling ≤ m.gauge.total =
      omega (arith, level_bounds ceiling m.gauge.ceiling (f i) (lower i inside), h.tracks.heat_most i inside, h.tracks.ceiling_most) in
      let written : IsRecord (new_record key ceiling w) = new_is key ceiling w fits (omega arith) in
      admitted m' _ stale i (new_record key ceiling w) few inside written (new_tracked key ceiling w)
      (write_kept (FullBut i) (HottestBut i) m' _ stale i (new_record key ceiling w) h.sizes h.bytes h.serial_fits inside written
      (track_tracks f (size m) (line_total m) i inside key ceiling w unlined m.gauge t h.tracks room untracked above covers lower)
      (put_shows f (size m) m.gauge.serial (line_at m.lines) t.picture stale h.shows i m.gauge.serial
      (new_record key ceiling w) (omega arith) (λ line e. absurd (omega arith)) (omega arith) (λ lined. absurd (omega arith)))
      (track_full f (size m) (line_total m) i inside key ceiling w unlined h.full)
      (track_hottest f (size m) (line_total m) i inside key ceiling w unlined h.hottest))

  -- every record is at least as hot as the victim: one without a line by its choice, one on a line by the invariant
  coldest_heat : (i heat : ℕ) → heat ≡ (places m i).heat → i < size m → (places m i).state ≡ 1 →
      ((j : ℕ) → j < size m → (places m j).state ≡ 1 → (places m i).heat ≤ (places m j).heat) →
      (j : ℕ) → j < size m → (places m j).state ≢ 0 → heat ≤ (places m j).heat
  coldest_heat i heat e inside waits least j j-inside tracked =
      elim (ℕ_discrete (places m j).state 1) [
        | yes same ↦ omega (arith, least j j-inside same)
        | no other ↦ omega (arith, h.hottest.hottest j i j-inside inside (omega arith) waits)
      ]

  placed_holds : (x y z : Found) → key_record key (places m) (size m) ≡ x → free_record (places m) (size m) ≡ y →
      victim (places m) (size m) ≡ z → Holds (place (grown w m) key w x y z).after (grown_truth t key w) stale
  unfolding place evict raised grown with_gauge line_total size
  placed_holds (Some (i, r)) y z ex ey ez = heat_holds i r ex
  placed_holds None (Some (i, r)) z ex ey ez =
      let found = free_found (places m) (size m) i r ey in
      let zero_heat : (places m i).heat ≡ 0 = (zero_says (places m i) (h.tracks.free_zero i found.inside found.has)).1 in
      let free = found.has in
      track_holds i m.gauge.ceiling found.inside (omega arith) ex (omega arith) (omega arith) (λ j _. omega arith)
  placed_holds None None (Some (i, r)) ex ey ez =
      let found = victim_found (places m) (size m) i r ez in
      let heat : r.heat ≡ (places m i).heat = ap (λ (s : Record). s.heat) found.is in
      let waits = found.has.0 in
      track_holds i (max m.gauge.ceiling r.heat) found.inside (omega arith) ex (omega arith) (omega arith)
      (λ j j-inside.
      unraised m.gauge.ceiling r.heat (places m j) (free_missing (places m) (size m) ey j j-inside)
      (coldest_heat i r.heat heat found.inside waits found.has.1 j j-inside (free_missing (places m) (size m) ey j j-inside)))
  placed_holds None None None ex ey ez =
      absurd
      (has_victim (places m) (size m) (line_total m)
      (lined_most (places m) (size m) (line_total m) h.tracks.state_most h.tracks.lines_apart)
      (sizes_say m.table m.lines h.sizes).lines_fewer ey ez)

  pub counted_holds : Holds (read_counted (grown w m) key w).after (grown_truth t key w) stale
  unfolding read_counted grown with_gauge places size
  counted_holds = placed_holds _ _ _ refl refl refl

aged_room : (m : Memory) (w : ℕ) → w ≤ most_weight → m.gauge.total ≤ most_total → (aged m).gauge.total + w ≤ most_total
unfolding aged aged_gauge with_gauge with_table half_down
aged_room m w small most = omega arith

aged_few : (m : Memory) → m.gauge.serial < serial_limit → (aged m).gauge.serial < serial_limit
unfolding aged aged_gauge with_gauge with_table
aged_few m few = few

warm_holds : (m : Memory) (t : Truth) (stale : ℕ → ℕ) (key w : ℕ) → Holds m t stale → w ≤ most_weight → key < 2 ^ 64 →
    m.gauge.serial < serial_limit → Holds (warm_steps m key w).after (warm_truth t key w) stale
unfolding warm_steps decay_for warm_truth
warm_holds m t stale key w h small fits few =
    subst
    (λ (total : ℕ). Holds (warm_steps m key w).after (grown_truth (if ltb most_total (total + w) then age_truth t else t) key w) stale)
    h.tracks.total (go (ltb most_total (m.gauge.total + w)) refl)
  where
    go : (b : Bool) → ltb most_total (m.gauge.total + w) ≡ b →
        Holds (read_counted (grown w (if b then aged m else m)) key w).after (grown_truth (if b then age_truth t else t) key w) stale
    go true e =
        counted_holds (aged m) (age_truth t) stale key w (age_holds m t stale h) (aged_room m w small h.tracks.total_most) fits
        (aged_few m few)
    go false e = counted_holds m t stale key w h (ltb-false most_total (m.gauge.total + w) e) fits few

pub read_holds : (m : Memory) (t : Truth) (stale : ℕ → ℕ) (key w : ℕ) → Holds m t stale → w ≤ most_weight → key < 2 ^ 64 →
    (0 < w → m.gauge.serial < serial_limit) → Holds (read_steps m key w).after (read_truth t key w) stale
unfolding peek_steps read_truth
read_holds m t stale key w h small fits few =
    read_either m key w (λ (o : Outcome Reply Memory). Holds o.after (read_truth t key w) stale)
    (λ e. rw e h)
    (λ weighs. rw (read_counts t key w weighs) (warm_holds m t stale key w h small fits (few (omega arith))))
