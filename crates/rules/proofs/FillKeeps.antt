-- Filling the line of a class keeps the invariant: its line shows the picture that the replay has, and other lines are other classes'.
-- Assumes nothing.
use Prim.Native.Nat.{ℕ, ◌<◌}
use mathlib.Core.Path.{◌≡◌, refl, sym, ◌∙◌}
use mathlib.Core.Bool.{true}
use mathlib.Core.List.{List}
use mathlib.Core.Option.{Option, some}
use native.Mathlib.Nat.{le_trans, le_of_eq}
use native.Mathlib.Decide.{ℕ_discrete}
use native.Mathlib.Omega.{arith}
use borrow.Author.Tests.{eq-eqb, ne_eqb}
use Rattle.rules.specs.declared.Record.{Record}
use Rattle.rules.specs.declared.Gauge.{Gauge}
use Rattle.rules.specs.Table.{is_free, line_of, empty_state, filled_state, is_zero, filled}
use Rattle.rules.specs.Steps.{level}
use Rattle.rules.specs.Replay.{Filled, filled_with, Truth, at, fill_truth}
use Rattle.rules.proofs.Chosen.{where_le}
use Rattle.rules.proofs.Changes.{at_same, at_all}
use Rattle.rules.proofs.SameLines.{SameLine, same_line_itself, same_line_state_most, same_lines_full}
use Rattle.rules.proofs.Shown.{put_shows, store_shows}
use Rattle.rules.proofs.Invariant.{Tracks, Shows, Full, Hottest}

-- the same class, as hot, on the same line
record Alike (r s : Record) : Type 0 where
  key : r.key ≡ s.key
  heat : r.heat ≡ s.heat
  slack : r.slack ≡ s.slack
  ticket : r.ticket ≡ s.ticket
  on : SameLine r s

alike_itself : (r : Record) → Alike r r
alike_itself r = record { key = refl; heat = refl; slack = refl; ticket = refl; on = same_line_itself r }

alike_zero : {r s : Record} → Alike r s → r.state ≡ 0 → is_zero s ≡ true → is_zero r ≡ true
unfolding is_zero
alike_zero {s = s} a free zero =
    let also_free : s.state ≡ 0 = omega arith in
    rw (a.key, a.heat, a.slack, a.ticket, free) (rw also_free at zero)

alike_level : {r s : Record} (ceiling : ℕ) → Alike r s → level ceiling r ≡ level ceiling s
unfolding level is_free
alike_level {r} {s} ceiling a =
    elim (ℕ_discrete s.state 0) [
      | yes e ↦ rw (eq-eqb s.state 0 e, eq-eqb r.state 0 (omega arith))
      | no e ↦ rw (ne_eqb s.state 0 e, ne_eqb r.state 0 (omega arith), a.heat)
    ]

module _ (f : ℕ → Record) (n c i line : ℕ) (inside : i < n) (empty : (f i).state ≡ empty_state line) where
  abbrev after : ℕ → Record
  after = at i (filled (f i)) f

  filled_alike : Alike (filled (f i)) (f i)
  unfolding filled line_of filled_state empty_state
  filled_alike =
      record { key = refl; heat = refl; slack = refl; ticket = refl; on = record { stage = omega arith; line = omega arith } }

  alike : (j : ℕ) → Alike (after j) (f j)
  alike j = at_all (λ j r. Alike r (f j)) i (filled (f i)) f filled_alike j (λ other. alike_itself (f j))

  pub fill_tracks : (g : Gauge) (t : Truth) (picture : List ℕ) (ticket : ℕ) → Tracks f n c g t →
      Tracks (at i (filled (f i)) f) n c g (fill_truth t (f i).key picture ticket)
  unfolding fill_truth
  fill_tracks g t picture ticket s =
      record {
        total_most = s.total_most;
        ceiling_most = s.ceiling_most;
        heat_most = λ j below. omega (arith, alike j, s.heat_most j below);
        state_most = λ j below. same_line_state_most c (alike j).on (s.state_most j below);
        free_zero = λ j below free. alike_zero (alike j) free (s.free_zero j below (omega (arith, alike j)));
        unlined_ticket = λ j below low. (alike j).ticket ∙ s.unlined_ticket j below (omega (arith, alike j));
        keys_apart =
            λ j k j-below k-below j-tracked k-tracked e.
            s.keys_apart j k j-below k-below (omega (arith, alike j)) (omega (arith, alike k)) (sym (alike j).key ∙ e ∙ (alike k).key);
        lines_apart =
            λ j k j-below k-below j-lined k-lined e.
            s.lines_apart j k j-below k-below (omega (arith, alike j)) (omega (arith, alike k))
            (sym (alike j).on.line ∙ e ∙ (alike k).on.line);
        not_below =
            λ j below tracked.
            rw ((alike j).key, (alike j).heat) (s.not_below j below (omega (arith, alike j)));
        not_above =
            λ j below tracked.
            rw ((alike j).key, (alike j).heat, (alike j).slack) (s.not_above j below (omega (arith, alike j)));
        untracked =
            λ key none.
            s.untracked key (λ j below tracked e. none j below (omega (arith, alike j)) ((alike j).key ∙ e));
        few = s.few;
        levels = λ chosen many.
            le_trans (where_le chosen _ _ after f n (λ j below. le_of_eq (alike_level g.ceiling (alike j)))) (s.levels chosen many);
        total = s.total;
      }

  -- the class's line shows the picture, with the ticket of its record
  pub fill_shows : (serial : ℕ) (shown : ℕ → List ℕ) (pictures : ℕ → Option Filled) (stale : ℕ → ℕ) (picture : List ℕ) →
      ((j : ℕ) → j < n → 0 < (f j).state → (f j).key ≡ (f i).key → j ≡ i) →
      ((j : ℕ) → j < n → 1 < (f j).state → line_of (f j) ≡ line → j ≡ i) → Shows f n serial shown pictures stale →
      Shows (at i (filled (f i)) f) n serial (at line picture shown)
      (at (f i).key (some (filled_with picture (f i).ticket)) pictures) stale
  unfolding filled line_of filled_state empty_state
  fill_shows serial shown pictures stale picture alone alone-on s =
      put_shows f n serial (at line picture shown) (at (f i).key (some (filled_with picture (f i).ticket)) pictures) stale
      (store_shows f n serial shown pictures stale s (f i).key line (f i).ticket picture
      (λ j k h e same. omega (arith, rw (alone j h (omega arith) same) at e))
      (λ j h e. omega (arith, rw (alone-on j h (omega arith) (omega arith)) at e)))
      i serial (filled (f i)) (omega arith)
      (λ k e.
      let same : k ≡ line = omega arith in
      rw (same, at_same line picture shown) (at_same (f i).key (some (filled_with picture (f i).ticket)) pictures))
      (s.ticket_most i inside) (λ lined. s.since i inside (omega arith))

  pub fill_full : Full f n c → Full (at i (filled (f i)) f) n c
  fill_full = same_lines_full f after n c (λ j below. (alike j).on)

  pub fill_hottest : Hottest f n → Hottest (at i (filled (f i)) f) n
  fill_hottest h =
      record {
        hottest =
            λ j k j-below k-below lined waits.
            omega (arith, alike j, alike k, h.hottest j k j-below k-below (omega (arith, alike j)) (omega (arith, alike k)));
      }
