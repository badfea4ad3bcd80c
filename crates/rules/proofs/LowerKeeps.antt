-- The true heat of a class that is not in the table may fall. Assumes nothing.
use Prim.Native.Nat.{ℕ, ◌≤◌, ◌<◌}
use mathlib.Core.Logic.{◌≢◌}
use mathlib.Core.Option.{Option}
use native.Mathlib.Omega.{arith}
use Rattle.rules.specs.declared.Record.{Record}
use Rattle.rules.specs.declared.Gauge.{Gauge}
use Rattle.rules.specs.Replay.{Filled, Truth, at}
use Rattle.rules.proofs.Changes.{at_other, at_all}
use Rattle.rules.proofs.Invariant.{Tracks}

-- the truth with another true heat of one class, and with other pictures
abbrev pub with_true_heat : Truth → ℕ → ℕ → (ℕ → Option Filled) → Truth
with_true_heat t key heat pictures = record { total = t.total; heat = at key heat t.heat; picture = pictures; fewest = t.fewest }

-- no class's true heat grows
pub lowers : (t : Truth) (key heat : ℕ) → heat ≤ t.heat key → (k : ℕ) → at key heat t.heat k ≤ t.heat k
lowers t key heat low k = at_all (λ k h. h ≤ t.heat k) key heat t.heat low k (λ other. omega arith)

pub lower_tracks : (f : ℕ → Record) (n c key heat : ℕ) (g : Gauge) (t : Truth) (pictures : ℕ → Option Filled) → heat ≤ t.heat key →
    ((j : ℕ) → j < n → 0 < (f j).state → (f j).key ≢ key) → Tracks f n c g t → Tracks f n c g (with_true_heat t key heat pictures)
lower_tracks f n c key heat g t pictures low untracked s =
    record {
      total_most = s.total_most;
      ceiling_most = s.ceiling_most;
      heat_most = s.heat_most;
      state_most = s.state_most;
      free_zero = s.free_zero;
      unlined_ticket = s.unlined_ticket;
      keys_apart = s.keys_apart;
      lines_apart = s.lines_apart;
      not_below = λ j h u. omega (arith, lowers t key heat low (f j).key, s.not_below j h u);
      not_above = λ j h u. rw (at_other key (f j).key _ _ (untracked j h u)) (s.not_above j h u);
      untracked = λ k none. omega (arith, lowers t key heat low k, s.untracked k none);
      few = s.few;
      levels = s.levels;
      total = s.total;
    }
