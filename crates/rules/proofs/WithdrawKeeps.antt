-- Freeing a record keeps the invariant, the class's true heat being 0 from then on. Assumes nothing.
use Prim.Native.Nat.{ℕ, ◌+◌, ◌*◌, ◌<◌, ◌≤◌}
use mathlib.Core.Path.{◌≡◌, refl, sym}
use mathlib.Core.Bool.{true}
use mathlib.Core.List.{List}
use mathlib.Core.Logic.{◌≢◌}
use mathlib.Core.Option.{Option}
use native.Mathlib.Decide.{ℕ_discrete}
use Rattle.std.specs.Prelude.{if◌then◌else◌}
use native.Mathlib.Nat.{le-max_right}
use native.Mathlib.Omega.{arith}
use Rattle.rules.specs.declared.Record.{Record}
use Rattle.rules.specs.declared.Gauge.{Gauge}
use Rattle.rules.specs.Table.{freed, is_zero, is_free, filled_state, line_of}
use Rattle.rules.specs.Steps.{level}
use Rattle.rules.specs.Replay.{Filled, Truth, at, withdraw_truth}
use Rattle.rules.proofs.Chosen.{where_le}
use Rattle.rules.proofs.Changes.{at_other, at_all}
use Rattle.rules.proofs.LineKeeps.{Off, handed, hand_hottest, unused_before, used_at}
use Rattle.rules.proofs.Shown.{put_shows}
use Rattle.rules.proofs.Invariant.{Tracks, others_differ, Shows, Full, Hottest}

pub freed_off : Off freed
unfolding freed
freed_off = record { state = omega arith; ticket = refl }

freed_level : (ceiling : ℕ) (r : Record) → level ceiling freed ≤ level ceiling r
unfolding level freed is_free
freed_level ceiling r = omega (arith, le-max_right (if is_free r then 0 else r.heat) ceiling)

module _ (f : ℕ → Record) (n c i : ℕ) (inside : i < n) where
  pub freed_tracks : 0 < (f i).state → (g : Gauge) (t : Truth) → Tracks f n c g t → Tracks (at i freed f) n c g (withdraw_truth t (f i).key)
  unfolding freed withdraw_truth is_zero
  freed_tracks tracked g t s =
      let apart = others_differ s i inside tracked in
      record {
        total_most = s.total_most;
        ceiling_most = s.ceiling_most;
        heat_most = λ j h. at_all (λ j r. r.heat ≤ g.total) i freed f (omega arith) j (λ other. s.heat_most j h);
        state_most = λ j h. at_all (λ j r. r.state ≤ 1 + 2 * c) i freed f (omega arith) j (λ other. s.state_most j h);
        free_zero = λ j h. at_all (λ j r. r.state ≡ 0 → is_zero r ≡ true) i freed f (λ e. refl) j (λ other. s.free_zero j h);
        unlined_ticket = λ j h. at_all (λ j r. r.state ≤ 1 → r.ticket ≡ 0) i freed f (λ e. refl) j (λ other. s.unlined_ticket j h);
        keys_apart = λ j k hj hk.
            at_all (λ j r. 0 < r.state → 0 < (at i freed f k).state → r.key ≡ (at i freed f k).key → j ≡ k) i freed f
            (λ u. absurd (omega arith)) j
            (λ _ uj. at_all (λ k r. 0 < r.state → (f j).key ≡ r.key → j ≡ k) i freed f (λ u. absurd (omega arith)) k
            (λ _ uk. s.keys_apart j k hj hk uj uk));
        lines_apart = λ j k hj hk.
            at_all (λ j r. 1 < r.state → 1 < (at i freed f k).state → line_of r ≡ line_of (at i freed f k) → j ≡ k) i freed f
            (λ u. absurd (omega arith)) j
            (λ _ uj. at_all (λ k r. 1 < r.state → line_of (f j) ≡ line_of r → j ≡ k) i freed f (λ u. absurd (omega arith)) k
            (λ _ uk. s.lines_apart j k hj hk uj uk));
        not_below = λ j h.
            at_all (λ j r. 0 < r.state → at (f i).key 0 t.heat r.key ≤ r.heat) i freed f (λ u. absurd (omega arith)) j
            (λ other u. rw (at_other (f i).key (f j).key 0 t.heat (apart j h other u)) (s.not_below j h u));
        not_above = λ j h.
            at_all (λ j r. 0 < r.state → r.heat ≤ at (f i).key 0 t.heat r.key + r.slack) i freed f (λ u. absurd (omega arith)) j
            (λ other u. rw (at_other (f i).key (f j).key 0 t.heat (apart j h other u)) (s.not_above j h u));
        untracked = λ key none.
            at_all (λ key heat. heat ≤ g.ceiling) (f i).key 0 t.heat (omega arith) key
            (λ other. s.untracked key
            (λ j h u. elim (ℕ_discrete j i) [
              | yes same ↦ λ e. other (rw same at (sym e))
              | no apart ↦ rw (at_other i j freed f apart) at (none j h (rw (at_other i j freed f apart) u))
            ]));
        few = s.few;
        levels = λ chosen many.
            omega (
              arith,
              s.levels chosen many,
              where_le chosen (level g.ceiling) (level g.ceiling) (at i freed f) f n
                  (λ j h. at_all (λ j r. level g.ceiling r ≤ level g.ceiling (f j)) i freed f (freed_level g.ceiling (f i)) j
                  (λ other. omega arith)),
            );
        total = s.total;
      }

  -- it is on no line, and its pictures stay
  pub freed_shows : (serial : ℕ) (shown : ℕ → List ℕ) (pictures : ℕ → Option Filled) (stale : ℕ → ℕ) →
      Shows f n serial shown pictures stale → Shows (at i freed f) n serial shown pictures stale
  unfolding freed filled_state
  freed_shows serial shown pictures stale s =
      put_shows f n serial shown pictures stale s i serial freed (omega arith) (λ line e. absurd (omega arith)) (omega arith)
      (λ l. absurd (omega arith))

  -- it had no line, or no other record waits for one
  pub freed_full : (1 < (f i).state → (j : ℕ) → j < n → (f j).state ≢ 1) → Full f n c → Full (at i freed f) n c
  unfolding freed
  freed_full none h =
      record {
        none_waits = λ line below unused j j-inside.
            at_all (λ j r. r.state ≢ 1) i freed f (omega arith) j
            (λ other waits.
            h.none_waits line below
            (unused_before f (at i freed f) n
            (λ k k-inside lined.
            elim (ℕ_discrete k i) [
              | yes same ↦ absurd (none (rw same at lined) j j-inside waits)
              | no apart ↦ used_at (at i freed f) n k (f k) k-inside (at_other i k freed f apart) lined
            ])
            line unused)
            j j-inside waits);
      }

  pub freed_hottest : Hottest f n → Hottest (at i freed f) n
  unfolding freed
  freed_hottest h =
      record {
        hottest = λ j k hj hk.
            at_all (λ j r. 1 < r.state → (at i freed f k).state ≡ 1 → (at i freed f k).heat ≤ r.heat) i freed f
            (λ l. absurd (omega arith)) j
            (λ _ lined. at_all (λ k r. r.state ≡ 1 → r.heat ≤ (f j).heat) i freed f (λ e. absurd (omega arith)) k
            (λ _ waits. h.hottest j k hj hk lined waits));
      }

  -- its line goes to the hottest without one
  pub handed_hottest : (ticket b : ℕ) → b < n → 1 < (f i).state → (f b).state ≡ 1 →
      ((j : ℕ) → j < n → (f j).state ≡ 1 → (f j).heat ≤ (f b).heat) → Hottest f n → Hottest (handed f ticket i freed b) n
  unfolding freed
  handed_hottest ticket b b-inside lined waits most h =
      hand_hottest f n ticket i b freed freed_off inside b-inside lined waits
      (λ j k hj hk l e _ _. h.hottest j k hj hk l e)
      (λ e. absurd (omega arith))
      (λ j hj e _. most j hj e)
      (λ e. absurd (omega arith))
