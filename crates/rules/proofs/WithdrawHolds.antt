-- An accepted withdrawal keeps what holds: the class's record is freed, and a line that it had goes to the hottest without one or becomes
-- unused. Assumes nothing.
use Prim.Native.Nat.{ℕ, ◌≤◌, ◌<◌}
use mathlib.Core.Path.{◌≡◌, refl}
use mathlib.Core.Bool.{Bool, true, false}
use mathlib.Core.Logic.{◌≢◌}
use native.Mathlib.Omega.{arith}
use borrow.Author.Tests.{ltb-true, ltb-false}
use lib.Dec.{ltb}
use Rattle.rules.specs.declared.Record.{Record}
use Rattle.rules.specs.Pass.{Found}
use Rattle.std.specs.Prelude.{Some, None, if◌then◌else◌}
use Rattle.rules.specs.Bytes.{line_at}
use Rattle.rules.specs.Table.{Memory, freed, is_lined, line_of, on_empty_line, key_record, hottest_unlined, places, size, line_total, write}
use Rattle.rules.specs.Steps.{next_ticket, hand_on, vacate_for, vacate, withdraw, withdraw_steps}
use Rattle.rules.specs.Calls.{serial_limit}
use Rattle.rules.specs.Replay.{Truth, at, withdraw_truth, make_stale}
use Rattle.rules.proofs.Places.{IsRecord}
use Rattle.rules.proofs.Finds.{key_found, key_missing, hottest_found, hottest_missing}
use Rattle.rules.proofs.Invariant.{Tracks, others_differ, Full, Hottest, Holds}
use Rattle.rules.proofs.LineKeeps.{all_used, hand_full}
use Rattle.rules.proofs.LowerKeeps.{lower_tracks}
use Rattle.rules.proofs.Changes.{at_all}
use Rattle.rules.proofs.Memories.{places_write, size_write}
use Rattle.rules.proofs.Serials.{withdraw_steps_give}
use Rattle.rules.proofs.WithdrawKeeps.{freed_off, freed_tracks, freed_shows, freed_full, freed_hottest, handed_hottest}
use Rattle.rules.proofs.CallsHold.{write_kept, places_hand, size_hand, line_few, hand_kept, staled_missing}

pub freed_is : IsRecord freed
unfolding freed
freed_is = record { key = omega arith; heat = omega arith; slack = omega arith; state = omega arith; ticket = omega arith }

-- no record is of the class
abbrev pub Gone : Memory → ℕ → Type 0
Gone m key = (j : ℕ) → j < size m → 0 < (places m j).state → (places m j).key ≢ key

-- ---- the record at place i is freed
module _ (m : Memory) (t : Truth) (stale : ℕ → ℕ) (i : ℕ) (few : m.gauge.serial < serial_limit) (h : Holds m t stale) (inside : i < size m)
    (tracked : 0 < (places m i).state) where
  abbrev f : ℕ → Record
  f = places m

  abbrev t' : Truth
  t' = withdraw_truth t (f i).key

  without : Tracks (at i freed f) (size m) (line_total m) m.gauge t'
  without = freed_tracks f (size m) (line_total m) i inside tracked m.gauge t h.tracks

  -- where no other record gets its line
  unused_holds : (1 < (f i).state → (j : ℕ) → j < size m → (f j).state ≢ 1) → Holds (write m i freed) t' stale
  unfolding withdraw_truth
  unused_holds none =
      write_kept Full Hottest m t' stale i freed h.sizes h.bytes h.serial_fits inside freed_is without
      (freed_shows f (size m) (line_total m) i inside m.gauge.serial (line_at m.lines) t.picture stale h.shows)
      (freed_full f (size m) (line_total m) i inside none h.full)
      (freed_hottest f (size m) (line_total m) i inside h.hottest)

  -- no record is the class's any more
  gone : (j : ℕ) → j < size m → 0 < (at i freed f j).state → (at i freed f j).key ≢ (f i).key
  unfolding freed
  gone j below =
      at_all (λ j r. 0 < r.state → r.key ≢ (f i).key) i freed f (λ u. absurd (omega arith)) j
      (others_differ h.tracks i inside tracked j below)

  unused_gone : Gone (write m i freed) (f i).key
  unused_gone = rw (places_write m i freed inside freed_is, size_write m i freed) gone

  -- where the one at place j does
  module _ (lined : 1 < (f i).state) (j : ℕ) (j-inside : j < size m) (waits : (f j).state ≡ 1) where
    low : line_of (f i) < 1024
    low = line_few m t i h.sizes h.tracks inside

    handed_holds : ((k : ℕ) → k < size m → (f k).state ≡ 1 → (f k).heat ≤ (f j).heat) → Holds (hand_on m i freed j) t' stale
    unfolding withdraw_truth
    handed_holds most =
        let n = size m in
        let c = line_total m in
        let ticket = next_ticket m in
        hand_kept m t' stale few i j freed freed_off freed_is h.bytes inside j-inside lined waits low h.sizes t h.tracks without h.shows
        (hand_full f n ticket i j freed freed_off inside j-inside lined waits c (all_used f n c h.full j j-inside waits))
        (handed_hottest f n c i inside ticket j j-inside lined waits most h.hottest)

    handed_gone : Gone (hand_on m i freed j) (f i).key
    unfolding on_empty_line
    handed_gone =
        let other : j ≢ i = λ e. omega (arith, rw e at waits) in
        rw (
          places_hand m t stale few i j freed freed_off freed_is h.bytes inside j-inside lined waits low,
          size_hand m t stale few i j freed freed_off freed_is h.bytes inside j-inside lined waits low,
        )
        (λ k below.
        at_all (λ k r. 0 < r.state → r.key ≢ (f i).key) j _ (at i freed f)
        (λ _. others_differ h.tracks i inside tracked j j-inside other (omega arith)) k (λ _. gone k below))

  -- what holds of both
  either : (P : Memory → Type 0) → ((1 < (f i).state → (j : ℕ) → j < size m → (f j).state ≢ 1) → P (write m i freed)) →
      (1 < (f i).state → (j : ℕ) → j < size m → (f j).state ≡ 1 → ((k : ℕ) → k < size m → (f k).state ≡ 1 → (f k).heat ≤ (f j).heat) →
      P (hand_on m i freed j)) →
      P (vacate m i)
  unfolding vacate vacate_for is_lined
  either P unused handed = go (ltb 1 (f i).state) refl
    where
      found : 1 < (f i).state → (x : Found) → hottest_unlined f (size m) ≡ x → P (vacate_for m i x)
      found lined None e = unused (λ _. hottest_missing f (size m) e)
      found lined (Some (j, r)) e = let at_j = hottest_found f (size m) j r e in handed lined j at_j.inside at_j.has.0 at_j.has.1

      go : (b : Bool) → ltb 1 (f i).state ≡ b → P (if b then vacate_for m i (hottest_unlined f (size m)) else write m i freed)
      go true e = found (ltb-true 1 (f i).state e) (hottest_unlined f (size m)) refl
      go false e = unused (λ lined. absurd (omega (arith, ltb-false 1 (f i).state e)))

  vacate_holds : Holds (vacate m i) t' stale
  vacate_holds = either (λ (m : Memory). Holds m t' stale) unused_holds handed_holds

  vacate_gone : Gone (vacate m i) (f i).key
  vacate_gone =
      either (λ (m : Memory). Gone m (f i).key) (λ _. unused_gone) (λ lined j inside waits most. handed_gone lined j inside waits)

-- ---- a withdrawal
module _ (m : Memory) (t : Truth) (stale : ℕ → ℕ) (key : ℕ) (h : Holds m t stale) (few : m.gauge.serial < serial_limit) where
  -- it leaves no record of the class
  pub withdraw_gone : Gone (withdraw_steps m key).after key
  unfolding withdraw_steps withdraw
  withdraw_gone = go (key_record key (places m) (size m)) refl
    where
      go : (x : Found) → key_record key (places m) (size m) ≡ x → Gone (withdraw m x).after key
      go None e = key_missing (places m) (size m) key e
      go (Some (i, r)) e =
          let found = key_found (places m) (size m) key i r e in
          rw (← found.has.1) (vacate_gone m t stale i few h found.inside found.has.0)

  withdraw_steps_hold : Holds (withdraw_steps m key).after (withdraw_truth t key) stale
  unfolding withdraw_steps withdraw withdraw_truth
  withdraw_steps_hold = go (key_record key (places m) (size m)) refl
    where
      go : (x : Found) → key_record key (places m) (size m) ≡ x → Holds (withdraw m x).after (withdraw_truth t key) stale
      go None e =
          record {
            sizes = h.sizes;
            bytes = h.bytes;
            serial_fits = h.serial_fits;
            tracks =
                lower_tracks (places m) (size m) (line_total m) key 0 m.gauge t t.picture (omega arith)
                (key_missing (places m) (size m) key e) h.tracks;
            shows = h.shows;
            full = h.full;
            hottest = h.hottest;
          }
      go (Some (i, r)) e =
          let found = key_found (places m) (size m) key i r e in
          rw (← found.has.1) (vacate_holds m t stale i few h found.inside found.has.0)

  pub withdraw_holds : Holds (withdraw_steps m key).after (withdraw_truth t key) (make_stale stale key m.gauge.serial)
  withdraw_holds =
      staled_missing (withdraw_steps m key).after (withdraw_truth t key) stale key m.gauge.serial (withdraw_steps_give m key).0
      withdraw_gone withdraw_steps_hold
