-- A search that stops at the first record that passes a test, at any test: as long as it runs, the definition finds nothing among the
-- records passed, so the record that it stops at is what the definition finds. Assumes nothing.
use Prim.Native.Nat.{ℕ, ◌+◌, ◌<◌}
use mathlib.Core.Path.{◌≡◌, sym}
use mathlib.Core.Bool.{Bool, true, false}
use native.Mathlib.Numerals.{add-one}
use Rattle.rules.specs.declared.Record.{Record}
use Rattle.std.specs.Prelude.{Some, None}
use Rattle.rules.specs.Pass.{pass, first, first_of}
use Rattle.rules.proofs.Searches.{first_found, first_nowhere}

module _ (test : Record → Bool) (f : ℕ → Record) (i : ℕ) (r : Record) (none : first_of test f i ≡ None) (read : r ≡ f i) where
  pub found_here : (n : ℕ) → i < n → test r ≡ true → Some (i, r) ≡ first_of test f n
  found_here n below passes =
      rw read (sym (first_found test f n i below (rw (← read) passes) (first_nowhere test f i none)))

  pub not_here : test r ≡ false → first_of test f (i + 1) ≡ None
  unfolding first_of pass first
  not_here fails = rw (add-one, none, ← read, fails)
