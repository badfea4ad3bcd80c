-- The levels of a choice of records are those of the tracked ones chosen, and the ceiling for each of the others. Assumes nothing.
use Prim.Native.Nat.{ℕ, zero, suc, ◌+◌, ◌*◌, ◌≤◌}
use mathlib.Core.Path.{◌≡◌, refl}
use mathlib.Core.Bool.{Bool, true, false}
use native.Mathlib.Nat.{suc-mul}
use native.Mathlib.Omega.{arith}
use borrow.Author.Tests.{ltb-false, eq-eqb}
use Rattle.std.specs.Prelude.{◌&&◌, not, if◌then◌else◌}
use Rattle.rules.specs.declared.Record.{Record}
use Rattle.rules.specs.Pass.{pass, sum_of, count_of, sum_where, count_where}
use Rattle.rules.specs.Table.{is_free, is_tracked}
use Rattle.rules.specs.Steps.{level}
use Rattle.rules.proofs.Searches.{both}

pub free_level : (ceiling : ℕ) (r : Record) → is_tracked r ≡ false → level ceiling r ≡ ceiling
unfolding level is_free is_tracked
free_level ceiling r e = rw (eq-eqb r.state 0 (omega (arith, ltb-false 0 r.state e))) (omega arith)

pub level_least : (ceiling : ℕ) (r : Record) → ceiling ≤ level ceiling r
unfolding level
level_least ceiling r = omega arith

module _ (g : ℕ → Record) (ceiling : ℕ) (chosen : ℕ → Bool) where
  abbrev tracked : ℕ → Bool
  tracked i = chosen i && is_tracked (g i)

  abbrev others : ℕ → Bool
  others i = chosen i && not (is_tracked (g i))

  one_each : (b t : Bool) → (if b then 1 else 0) ≡ (if b && t then 1 else 0) + (if b && not t then 1 else 0)
  one_each true true = refl
  one_each true false = refl
  one_each false t = refl

  split_count : (n : ℕ) → count_where chosen n ≡ count_where tracked n + count_where others n
  unfolding count_where count_of sum_of pass
  split_count zero = refl
  split_count (suc n) = omega (arith, split_count n, one_each (chosen n) (is_tracked (g n)))

  level_each : (r : Record) (k : ℕ) (b t : Bool) → is_tracked r ≡ t →
      k * ceiling + (if b then level ceiling r else 0)
      ≡ (if b && t then level ceiling r else 0) + (k + (if b && not t then 1 else 0)) * ceiling
  level_each r k true true e = omega arith
  level_each r k true false e = omega (arith, suc-mul k ceiling, free_level ceiling r e)
  level_each r k false t e = omega arith

  split_sum : (n : ℕ) →
      sum_where chosen (level ceiling) g n ≡ sum_where tracked (level ceiling) g n + count_where others n * ceiling
  unfolding count_where count_of sum_where sum_of pass
  split_sum zero = omega arith
  split_sum (suc n) =
      omega (arith, split_sum n, level_each (g n) (count_where others n) (chosen n) (is_tracked (g n)) refl)

pub by_tracked : (g : ℕ → Record) (n ceiling few total : ℕ) →
    ((chosen : ℕ → Bool) (extra : ℕ) → ((i : ℕ) → chosen i ≡ true → is_tracked (g i) ≡ true) →
    count_where chosen n + extra ≡ few → sum_where chosen (level ceiling) g n + extra * ceiling ≤ total) →
    (chosen : ℕ → Bool) → count_where chosen n ≡ few → sum_where chosen (level ceiling) g n ≤ total
by_tracked g n ceiling few total most chosen many =
    omega (
      arith,
      split_sum g ceiling chosen n,
      most (tracked g ceiling chosen) (count_where (others g ceiling chosen) n) (λ i e. (both _ _ e).1)
          (omega (arith, many, split_count g ceiling chosen n)),
    )
