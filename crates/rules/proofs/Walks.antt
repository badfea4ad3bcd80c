-- What the walk holds after its first n records. Assumes nothing.
use Prim.Native.Nat.{ℕ, zero, suc, ◌+◌}
use mathlib.Core.Path.{◌≡◌, refl, ap}
use native.Mathlib.Numerals.{add-one}
use Rattle.rules.specs.declared.Record.{Record}
use Rattle.rules.specs.Pass.{pass, first_of, best_of}
use Rattle.rules.specs.Table.{key_record, free_record, victim}
use Rattle.rules.specs.Walk.{walk_step, walk}

module _ (key : ℕ) (f : ℕ → Record) where
  -- the key's record, the first free one and step 4's victim, of those n
  pub walk_holds : (n : ℕ) → walk key f n ≡ record { own = key_record key f n; free = free_record f n; victim = victim f n }
  unfolding walk key_record free_record victim first_of best_of pass walk_step
  walk_holds zero = refl
  walk_holds (suc n) = ap (λ held. walk_step key held n (f n)) (walk_holds n)

  -- what it holds, the key and the next record with its place alone decide what it holds next
  pub walk_next : (n : ℕ) → walk key f (n + 1) ≡ walk_step key (walk key f n) n (f n)
  unfolding walk pass
  walk_next n = rw add-one refl
