-- An aging keeps the invariant: halving keeps orders, heats within slack, and a sum of halves is at most half the sum.
-- Assumes nothing.
use Prim.Native.Nat.{ℕ, ◌+◌, ◌/◌, ◌≤◌, ◌<◌, max}
use mathlib.Core.Path.{◌≡◌, refl, ap}
use mathlib.Core.Bool.{Bool, true, false, ◌&&◌, false≢true}
use mathlib.Core.List.{List}
use mathlib.Core.Option.{Option}
use native.Mathlib.Nat.{le_of_eq}
use native.Mathlib.Omega.{arith}
use borrow.Author.Tests.{eq-eqb, eqb-true}
use lib.Dec.{eqb}
use Rattle.rules.specs.declared.Record.{Record}
use Rattle.rules.specs.declared.Gauge.{Gauge}
use Rattle.std.specs.Prelude.{if◌then◌else◌}
use Rattle.rules.specs.Pass.{sum_where}
use Rattle.rules.specs.Table.{aged_record, half_down, half_up, is_free, is_zero, line_of}
use Rattle.rules.specs.Steps.{aged_gauge, level}
use Rattle.rules.specs.Replay.{Filled, Truth, age_truth}
use Rattle.rules.proofs.Bounds.{halved_not_below, halved_not_above}
use Rattle.rules.proofs.Chosen.{where_halved}
use Rattle.rules.proofs.SameLines.{same_lines_full}
use Rattle.rules.proofs.Shown.{same_shows}
use Rattle.rules.proofs.Invariant.{Tracks, Shows, Full, Hottest}

-- the larger of halves is half of the larger
aged_level : (ceiling : ℕ) (r : Record) → level (half_down ceiling) (aged_record r) ≡ half_down (level ceiling r)
unfolding level aged_record is_free half_down
aged_level ceiling r = go (eqb r.state 0)
  where
    go : (b : Bool) → max (if b then 0 else r.heat / 2) (ceiling / 2) ≡ max (if b then 0 else r.heat) ceiling / 2
    go true = omega arith
    go false = omega arith

-- both of two tests still hold if each does
both_keep : {a a' b b' : Bool} → (a ≡ true → a' ≡ true) → (b ≡ true → b' ≡ true) → (a && b) ≡ true → (a' && b') ≡ true
both_keep {a = true} left right e = rw (left refl) (right e)
both_keep {a = false} left right e = absurd (false≢true e)

zero_keep : (x y : ℕ) → (x ≡ 0 → y ≡ 0) → eqb x 0 ≡ true → eqb y 0 ≡ true
zero_keep x y keep e = eq-eqb y 0 (keep (eqb-true x 0 e))

aged_zero : (r : Record) → is_zero r ≡ true → is_zero (aged_record r) ≡ true
unfolding is_zero aged_record half_down half_up
aged_zero r =
    both_keep
    (both_keep
    (both_keep
    (both_keep (zero_keep r.key r.key (λ e. e)) (zero_keep r.heat (r.heat / 2) (omega arith)))
    (zero_keep r.slack ((r.slack + 1) / 2) (omega arith)))
    (zero_keep r.state r.state (λ e. e)))
    (zero_keep r.ticket r.ticket (λ e. e))

half_most : (x : ℕ) → half_down x ≤ x
unfolding half_down
half_most x = omega arith

module _ (f f' : ℕ → Record) (n c : ℕ) (aged : (i : ℕ) → i < n → f' i ≡ aged_record (f i)) where
  pub age_tracks : (g : Gauge) (t : Truth) → Tracks f n c g t → Tracks f' n c (aged_gauge g) (age_truth t)
  unfolding aged_gauge age_truth aged_record line_of half_down
  age_tracks g t s =
      record {
        total_most = omega (arith, half_most g.total, s.total_most);
        ceiling_most = halved_not_below _ _ s.ceiling_most;
        heat_most = λ i h. rw (aged i h) (halved_not_below _ _ (s.heat_most i h));
        state_most = λ i h. rw (aged i h) (s.state_most i h);
        free_zero = λ i h. rw (aged i h) (λ e. aged_zero (f i) (s.free_zero i h e));
        unlined_ticket = λ i h. rw (aged i h) (s.unlined_ticket i h);
        keys_apart = λ i j hi hj. rw (aged i hi, aged j hj) (s.keys_apart i j hi hj);
        lines_apart = λ i j hi hj. rw (aged i hi, aged j hj) (s.lines_apart i j hi hj);
        not_below = λ i h. rw (aged i h) (λ u. halved_not_below _ _ (s.not_below i h u));
        not_above = λ i h. rw (aged i h) (λ u. halved_not_above _ _ _ (s.not_above i h u));
        untracked = λ key none. halved_not_below _ _ (s.untracked key (λ i h. rw (aged i h) at (none i h)));
        few = s.few;
        levels = λ chosen many.
            omega (
              arith,
              where_halved chosen (level (half_down g.ceiling)) (level g.ceiling) f' f n
                  (λ i h. rw (aged i h) (le_of_eq (aged_level g.ceiling (f i)))),
              halved_not_below g.total (sum_where chosen (level g.ceiling) f n) (s.levels chosen many),
            );
        total = ap half_down s.total;
      }

  pub age_shows : (serial : ℕ) (shown : ℕ → List ℕ) (pictures : ℕ → Option Filled) (stale : ℕ → ℕ) →
      Shows f n serial shown pictures stale → Shows f' n serial shown pictures stale
  unfolding aged_record
  age_shows serial shown pictures stale s =
      same_shows f n serial shown pictures stale s f' (λ i h. rw (aged i h) (record { key = refl; state = refl; ticket = refl }))

  pub age_full : Full f n c → Full f' n c
  unfolding aged_record line_of
  age_full = same_lines_full f f' n c (λ i below. rw (aged i below) (record { stage = refl; line = refl }))

  pub age_hottest : Hottest f n → Hottest f' n
  unfolding aged_record
  age_hottest h =
      record {
        hottest = λ i j hi hj. rw (aged i hi, aged j hj) (λ lined waits. halved_not_below _ _ (h.hottest i j hi hj lined waits));
      }
