-- An accepted update keeps what holds: the class is cooled and its line emptied, then it is demoted or keeps its line. Assumes nothing.
use Prim.Native.Nat.{ℕ, ◌-◌, ◌<◌, ◌^◌}
use mathlib.Core.Path.{◌≡◌, refl, ◌∙◌, ap, subst}
use mathlib.Core.Bool.{Bool, true, false}
use native.Mathlib.Omega.{arith}
use borrow.Author.Tests.{ltb-true}
use lib.Dec.{ltb}
use Rattle.rules.specs.declared.Record.{Record}
use Rattle.rules.specs.declared.Gauge.{Gauge}
use Rattle.rules.specs.Pass.{Found}
use Rattle.std.specs.Prelude.{Some, None}
use Rattle.rules.specs.Bytes.{line_at}
use Rattle.std.specs.Prelude.{if◌then◌else◌}
use Rattle.rules.specs.Table.{Memory, is_lined, line_of, empty_state, with_state, cooled, emptied, key_record, places, size, line_total, write}
use Rattle.rules.specs.Steps.{demote, change, update_steps}
use Rattle.rules.specs.Calls.{serial_limit}
use Rattle.rules.specs.Replay.{Truth, update_truth, make_stale}
use Rattle.rules.proofs.Places.{IsRecord}
use Rattle.rules.proofs.Finds.{key_found, key_missing}
use Rattle.rules.proofs.Invariant.{Full, HottestOver, Holds}
use Rattle.rules.proofs.Changes.{at_same}
use Rattle.rules.proofs.Memories.{places_write, gauge_write, size_write}
use Rattle.rules.proofs.LowerKeeps.{lower_tracks}
use Rattle.rules.proofs.UpdateKeeps.{cool_key, cool_tracked, cool_unfilled, cool_tracks, cool_shows, cool_full, cool_hottest, unknown_shows}
use Rattle.rules.proofs.CallsHold.{at_is, write_kept, demote_holds}

cooled_is : (w : ℕ) (r : Record) → IsRecord r → IsRecord (emptied (cooled w r))
unfolding emptied cooled empty_state is_lined line_of
cooled_is w r is = go (ltb 1 r.state) refl
  where
    heat : r.heat - w < 2 ^ 64
    heat = omega (arith, is.heat)

    go : (b : Bool) → ltb 1 r.state ≡ b →
        IsRecord (if b then with_state (empty_state (line_of (cooled w r))) (cooled w r) else cooled w r)
    go true e =
        let lined = ltb-true 1 r.state e in
        record { key = is.key; heat = heat; slack = is.slack; state = omega (arith, lined, is.state); ticket = is.ticket }
    go false e = record { key = is.key; heat = heat; slack = is.slack; state = is.state; ticket = is.ticket }

pub update_holds : (m : Memory) (t : Truth) (stale : ℕ → ℕ) (key w : ℕ) → Holds m t stale → m.gauge.serial < serial_limit →
    Holds (update_steps m key w).after (update_truth t key w) (make_stale stale key m.gauge.serial)
unfolding update_steps change update_truth emptied
update_holds m t stale key w h few = go (key_record key (places m) (size m)) refl
  where
    f : ℕ → Record
    f = places m

    go : (x : Found) → key_record key (places m) (size m) ≡ x →
        Holds (change m w x).after (update_truth t key w) (make_stale stale key m.gauge.serial)
    go None e =
        let untracked = key_missing f (size m) key e in
        record {
          sizes = h.sizes;
          bytes = h.bytes;
          serial_fits = h.serial_fits;
          tracks = lower_tracks f (size m) (line_total m) key (t.heat key - w) m.gauge t _ (omega arith) untracked h.tracks;
          shows = unknown_shows f (size m) key m.gauge.serial (line_at m.lines) t.picture stale untracked h.shows;
          full = h.full;
          hottest = h.hottest;
        }
    go (Some (i, r)) e =
        let found = key_found f (size m) key i r e in
        let tracked : 0 < (f i).state = found.has.0 in
        let s : Record = emptied (cooled w (f i)) in
        let is : IsRecord s = cooled_is w (f i) (at_is m i h.bytes) in
        let here : places (write m i s) i ≡ s =
        ap (λ (g : ℕ → Record). g i) (places_write m i s found.inside is) ∙ at_same i s f in
        let alone : (j : ℕ) → j < size m → 0 < (f j).state → (f j).key ≡ (f i).key → j ≡ i =
        λ j below on same. h.tracks.keys_apart j i below found.inside on tracked same in
        rw (found.is, ← found.has.1)
        (subst (λ (g : Gauge). Holds (demote (write m i s) i) (update_truth t (f i).key w) (make_stale stale (f i).key g.serial))
        (gauge_write m i s)
        (rw (here, cool_key f (size m) (line_total m) i w found.inside tracked) at
        (demote_holds (write m i s) _ stale i (rw (gauge_write m i s) few)
        (write_kept Full (HottestOver i) m _ stale i s h.sizes h.bytes h.serial_fits found.inside is
        (cool_tracks f (size m) (line_total m) i w found.inside tracked m.gauge t h.tracks)
        (cool_shows f (size m) (line_total m) i w found.inside tracked m.gauge.serial (line_at m.lines) t.picture stale alone
        h.shows)
        (cool_full f (size m) (line_total m) i w found.inside tracked h.full)
        (cool_hottest f (size m) (line_total m) i w found.inside tracked h.hottest))
        (rw (size_write m i s) found.inside)
        (rw here (cool_tracked f (size m) (line_total m) i w found.inside tracked))
        (rw here (cool_unfilled f (size m) (line_total m) i w found.inside tracked)))))
