-- What is told of an epoch, read off the tests: to a Rattle caller by number and values; to a C host by its tests in one row and byte by
-- byte. Assumes nothing.
use Prim.Native.Nat.{ℕ}
use mathlib.Core.Path.{◌≡◌, refl}
use mathlib.Core.Bool.{Bool, true, false}
use mathlib.Core.List.{List}
use lib.ListN.{length}
use lib.Dec.{eqb}
use Rattle.std.specs.Prelude.{Result, Ok}
use Rattle.rules.specs.declared.Refusal.{Refusal}
use Rattle.rules.specs.Refusals.{number}
use Rattle.rules.specs.Steps.{outcome}
use Rattle.rules.specs.Calls.{verdict, unless}
use Rattle.scaler.specs.declared.Epoch.{Epoch}
use Rattle.scaler.specs.declared.Scale.{Scale}
use Rattle.scaler.specs.Scale.{on_average, scaled, sizes_good, epoch_good, scale_verdict, scale_outcome, reply_said, scale_said, scale_number, scale_values, put_numbers, out_size, exported_scale, scale_told}
use Rattle.scaler.proofs.Due.{made_of}

module _ (lookups : List ℕ) (e : Epoch) where
  outcome_said : reply_said (scale_outcome lookups e) ≡ scale_said lookups e
  unfolding reply_said scale_number scale_values scale_outcome scale_said scale_verdict verdict unless scaled on_average
  outcome_said = go (sizes_good e) (epoch_good lookups e) refl refl
    where
      go : (a b : Bool) → sizes_good e ≡ a → epoch_good lookups e ≡ b → reply_said (scale_outcome lookups e) ≡ scale_said lookups e
      go false b ea eb = rw ea refl
      go true false ea eb = rw (ea, eb) refl
      go true true ea eb = rw (ea, eb) (made_of lookups e (λ answer. reply_said (Ok answer)) _ _ _ _)

  pub so_said : (answer : Result Scale Refusal) → answer ≡ scale_outcome lookups e → reply_said answer ≡ scale_said lookups e
  so_said answer so = rw so outcome_said

  pub host_scale : (out : List ℕ) → exported_scale lookups e out ≡ scale_told lookups e out
  unfolding exported_scale scale_outcome scale_verdict verdict unless scaled on_average scale_number scale_values put_numbers number
  host_scale out = go (eqb (length out) out_size) (sizes_good e) (epoch_good lookups e) refl refl refl
    where
      go : (a b c : Bool) → eqb (length out) out_size ≡ a → sizes_good e ≡ b → epoch_good lookups e ≡ c →
          exported_scale lookups e out ≡ scale_told lookups e out
      go false b c ea eb ec = rw ea refl
      go true false c ea eb ec = rw (ea, eb) refl
      go true true false ea eb ec = rw (ea, eb, ec) refl
      go true true true ea eb ec =
          rw (ea, eb, ec) (made_of lookups e (λ answer. outcome (scale_number (Ok answer)) (put_numbers out 0 (scale_values (Ok answer)))) _ _ _ _)
