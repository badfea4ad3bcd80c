-- Records that are on the same line, or alike on none: such a change uses no line and frees none. Assumes nothing.
use Prim.Native.Nat.{ℕ, ◌+◌, ◌*◌, ◌-◌, ◌≤◌, ◌<◌}
use mathlib.Core.Path.{◌≡◌, refl, sym, ◌∙◌}
use mathlib.Core.Bool.{false}
use native.Mathlib.Decide.{dec_lt}
use native.Mathlib.Omega.{arith}
use borrow.Author.Tests.{lt-ltb, le-ltb}
use Rattle.rules.specs.declared.Record.{Record}
use Rattle.rules.specs.Table.{is_lined, line_of, is_on, is_used}
use Rattle.rules.proofs.Searches.{any_none, none_any}
use Rattle.rules.proofs.Invariant.{Full}

-- both free, both without a line, or both on the same line
pub record SameLine (r s : Record) : Type 0 where
  pub stage : 2 - r.state ≡ 2 - s.state
  pub line : line_of r ≡ line_of s

pub same_line_state_most : {r s : Record} (c : ℕ) → SameLine r s → s.state ≤ 1 + 2 * c → r.state ≤ 1 + 2 * c
unfolding line_of
same_line_state_most c same most = omega arith

pub same_line_on : {r s : Record} (line : ℕ) → SameLine r s → is_on line r ≡ is_on line s
unfolding is_on is_lined
same_line_on {r} {s} line same =
    elim (dec_lt 1 s.state) [
      | yes e ↦ rw (lt-ltb 1 s.state e, lt-ltb 1 r.state (omega arith), same.line)
      | no e ↦ rw (le-ltb 1 s.state (omega arith), le-ltb 1 r.state (omega arith))
    ]

pub same_line_itself : (r : Record) → SameLine r r
same_line_itself r = record { stage = refl; line = refl }

-- a line that is unused after was unused before
pub same_lines_unused : (f f' : ℕ → Record) (n : ℕ) → ((j : ℕ) → j < n → SameLine (f' j) (f j)) → (line : ℕ) →
    is_used f' n line ≡ false → is_used f n line ≡ false
unfolding is_used
same_lines_unused f f' n same line unused =
    any_none (is_on line) f n (λ k below. sym (same_line_on line (same k below)) ∙ none_any (is_on line) f' n unused k below)

-- lines that stay where they are stay full
pub same_lines_full : (f f' : ℕ → Record) (n c : ℕ) → ((j : ℕ) → j < n → SameLine (f' j) (f j)) → Full f n c → Full f' n c
same_lines_full f f' n c same h =
    record {
      none_waits =
          λ line below unused j inside waits.
          h.none_waits line below (same_lines_unused f f' n same line unused) j inside (omega (arith, same j inside));
    }
