-- Cooling a class and emptying its line keeps the invariant, but that the class may be colder than one without a line.
-- Assumes nothing.
use Prim.Native.Nat.{ℕ, ◌+◌, ◌-◌, ◌≤◌, ◌<◌}
use mathlib.Core.Path.{◌≡◌, refl, ◌∙◌}
use mathlib.Core.Bool.{Bool, true, false}
use mathlib.Core.List.{List}
use mathlib.Core.Logic.{◌≢◌}
use mathlib.Core.Option.{Option, none}
use native.Mathlib.Decide.{ℕ_discrete}
use native.Mathlib.Omega.{arith}
use borrow.Author.Tests.{ltb-true, ltb-false, eq-eqb, ne_eqb}
use lib.Dec.{ltb}
use Rattle.rules.specs.declared.Record.{Record}
use Rattle.rules.specs.declared.Gauge.{Gauge}
use Rattle.std.specs.Prelude.{if◌then◌else◌}
use Rattle.rules.specs.Table.{cooled, emptied, empty_state, filled_state, is_free, is_lined, is_zero, line_of, with_state}
use Rattle.rules.specs.Steps.{level}
use Rattle.rules.specs.Replay.{Filled, Truth, at, update_truth, make_stale}
use Rattle.rules.proofs.Changes.{at_same, at_other, at_all}
use Rattle.rules.proofs.LowerKeeps.{lowers}
use Rattle.rules.proofs.Chosen.{where_le}
use Rattle.rules.proofs.SameLines.{SameLine, same_lines_full}
use Rattle.rules.proofs.Shown.{put_shows, forget_shows, stale_shows}
use Rattle.rules.proofs.Invariant.{Tracks, others_differ, Shows, Full, Hottest, HottestOver}

-- r' is r but for a loss of heat, and perhaps an emptied line
record Eased (r r' : Record) : Type 0 where
  key : r'.key ≡ r.key
  heat : r'.heat ≤ r.heat
  slack : r'.slack ≡ r.slack
  state : r'.state ≤ r.state
  ticket : r'.ticket ≡ r.ticket
  on : SameLine r' r

record Cooled (w : ℕ) (r r' : Record) : Type 0 where
  eased : Eased r r'
  heat : r'.heat ≡ r.heat - w
  empty : (line : ℕ) → r'.state ≢ filled_state line

cooled_is : (w : ℕ) (r : Record) → Cooled w r (emptied (cooled w r))
unfolding emptied cooled is_lined empty_state filled_state line_of
cooled_is w r = go (ltb 1 r.state) refl
  where
    go : (b : Bool) → ltb 1 r.state ≡ b → Cooled w r (if b then with_state (empty_state (line_of (cooled w r))) (cooled w r) else cooled w r)
    go true e = omega (arith, ltb-true 1 r.state e)
    go false e = omega (arith, ltb-false 1 r.state e)

eased_level : (ceiling : ℕ) (r r' : Record) → Eased r r' → level ceiling r' ≤ level ceiling r
unfolding level is_free
eased_level ceiling r r' e =
    elim (ℕ_discrete r.state 0) [
      | yes free ↦ rw (eq-eqb r.state 0 free, eq-eqb r'.state 0 (omega arith)) (omega arith)
      | no used ↦ rw (ne_eqb r.state 0 used, ne_eqb r'.state 0 (omega arith)) (omega arith)
    ]

module _ (f : ℕ → Record) (n c i w : ℕ) (inside : i < n) (tracked : 0 < (f i).state) where
  abbrev r' : Record
  r' = emptied (cooled w (f i))

  abbrev f' : ℕ → Record
  f' = at i r' f

  here : Cooled w (f i) r'
  here = cooled_is w (f i)

  each : (j : ℕ) → Eased (f j) (f' j)
  each j = at_all (λ j r. Eased (f j) r) i r' f here.eased j (λ other. omega arith)

  pub cool_tracks : (g : Gauge) (t : Truth) → Tracks f n c g t →
      Tracks (at i (emptied (cooled w (f i))) f) n c g (update_truth t (f i).key w)
  unfolding update_truth
  cool_tracks g t s =
      let t' = update_truth t (f i).key w in
      let apart = others_differ s i inside tracked in
      record {
        total_most = s.total_most;
        ceiling_most = s.ceiling_most;
        heat_most = λ j h. omega (arith, (each j).heat, s.heat_most j h);
        state_most = λ j h. omega (arith, (each j).state, s.state_most j h);
        free_zero = λ j h.
            at_all (λ j r. r.state ≡ 0 → is_zero r ≡ true) i r' f (λ e. absurd (omega (arith, here))) j (λ other. s.free_zero j h);
        unlined_ticket = λ j h low. rw (each j).ticket (s.unlined_ticket j h (omega (arith, each j)));
        keys_apart = λ j k hj hk tj tk e.
            s.keys_apart j k hj hk (omega (arith, each j)) (omega (arith, each k)) (omega (arith, each j, each k));
        lines_apart = λ j k hj hk lj lk e.
            s.lines_apart j k hj hk (omega (arith, each j)) (omega (arith, each k)) (omega (arith, each j, each k));
        not_below = λ j h.
            at_all (λ j r. 0 < r.state → t'.heat r.key ≤ r.heat) i r' f
            (λ u. rw (here.eased.key, at_same (f i).key) (omega (arith, here.heat, s.not_below i inside tracked)))
            j
            (λ other u. omega (arith, lowers t (f i).key (t.heat (f i).key - w) (omega arith) (f j).key, s.not_below j h u));
        not_above = λ j h.
            at_all (λ j r. 0 < r.state → r.heat ≤ t'.heat r.key + r.slack) i r' f
            (λ u. rw (here.eased.key, at_same (f i).key) (omega (arith, here, s.not_above i inside tracked)))
            j
            (λ other u. rw (at_other (f i).key (f j).key _ _ (apart j h other u)) (s.not_above j h u));
        untracked = λ key none.
            omega (
              arith,
              lowers t (f i).key (t.heat (f i).key - w) (omega arith) key,
              s.untracked key (λ j h u e. none j h (omega (arith, each j)) ((each j).key ∙ e)),
            );
        few = s.few;
        levels = λ chosen many.
            omega (
              arith,
              where_le chosen (level g.ceiling) (level g.ceiling) f' f n (λ j h. eased_level g.ceiling (f j) (f' j) (each j)),
              s.levels chosen many,
            );
        total = s.total;
      }

  pub cool_key : (emptied (cooled w (f i))).key ≡ (f i).key
  cool_key = here.eased.key

  pub cool_tracked : 0 < (emptied (cooled w (f i))).state
  cool_tracked = omega (arith, here)

  -- its line is empty, so that no line shows a picture of its class
  pub cool_unfilled : (line : ℕ) → (emptied (cooled w (f i))).state ≢ filled_state line
  cool_unfilled line = here.empty line

  pub cool_shows : (serial : ℕ) (shown : ℕ → List ℕ) (pictures : ℕ → Option Filled) (stale : ℕ → ℕ) →
      ((j : ℕ) → j < n → 0 < (f j).state → (f j).key ≡ (f i).key → j ≡ i) → Shows f n serial shown pictures stale →
      Shows (at i (emptied (cooled w (f i))) f) n serial shown (at (f i).key none pictures) stale
  unfolding filled_state
  cool_shows serial shown pictures stale alone s =
      forget_shows f' n serial shown pictures stale
      (put_shows f n serial shown pictures stale s i serial r' (omega arith)
      (λ line e. absurd (here.empty line e))
      (omega (arith, here.eased.ticket, s.ticket_most i inside))
      (λ lined. rw (here.eased.key, here.eased.ticket) (s.since i inside (omega (arith, here.eased.state)))))
      (f i).key
      (λ j line h. at_all (λ j r. r.state ≡ filled_state line → r.key ≢ (f i).key) i r' f
      (λ e. absurd (here.empty line e)) j (λ other e same. other (alone j h (omega arith) same)))

  pub cool_full : Full f n c → Full (at i (emptied (cooled w (f i))) f) n c
  cool_full = same_lines_full f f' n c (λ j below. (each j).on)

  pub cool_hottest : Hottest f n → HottestOver i (at i (emptied (cooled w (f i))) f) n
  cool_hottest h =
      record {
        hottest = λ k j hk hj lined waits other.
            rw (at_other i k r' f other)
            (omega (arith, (each j).heat, h.hottest k j hk hj (omega (arith, each k)) (omega (arith, each j))));
      }

-- an update of a class that is not in the table
pub unknown_shows : (f : ℕ → Record) (n key serial : ℕ) (shown : ℕ → List ℕ) (pictures : ℕ → Option Filled) (stale : ℕ → ℕ) →
    ((j : ℕ) → j < n → 0 < (f j).state → (f j).key ≢ key) → Shows f n serial shown pictures stale →
    Shows f n serial shown (at key none pictures) (make_stale stale key serial)
unfolding filled_state
unknown_shows f n key serial shown pictures stale untracked s =
    stale_shows f n serial shown (at key none pictures) stale
    (forget_shows f n serial shown pictures stale s key (λ i line h e. untracked i h (omega arith)))
    key serial (omega arith) (λ i h lined e. absurd (untracked i h (omega arith) e))
