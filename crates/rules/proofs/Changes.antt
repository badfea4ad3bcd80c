-- A function changed at one place: what is there, what is elsewhere, and what then holds at every place. And the tests of a record's
-- state as orders of numbers. Assumes nothing.
use Prim.Native.Nat.{ℕ}
use mathlib.Core.Path.{◌≡◌, refl}
use mathlib.Core.Logic.{◌≢◌}
use native.Mathlib.Decide.{ℕ_discrete}
use borrow.Author.Tests.{eq-eqb, ne_eqb}
use Rattle.rules.specs.Replay.{at}

pub at_same : {A : Type 0} (i : ℕ) (v : A) (f : ℕ → A) → at i v f i ≡ v
unfolding at
at_same i v f = rw (eq-eqb i i refl)

pub at_other : {A : Type 0} (i j : ℕ) (v : A) (f : ℕ → A) → j ≢ i → at i v f j ≡ f j
unfolding at
at_other i j v f h = rw (ne_eqb j i h)

-- what holds of v, and of f elsewhere, holds everywhere
pub at_all : {A : Type 0} (P : ℕ → A → Type 0) (i : ℕ) (v : A) (f : ℕ → A) → P i v → (j : ℕ) → (j ≢ i → P j (f j)) → P j (at i v f j)
at_all P i v f here j there =
    elim (ℕ_discrete j i) [ yes e ↦ rw (e, at_same i v f) here | no e ↦ rw (at_other i j v f e) (there e) ]
