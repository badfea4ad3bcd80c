-- What a C host gets of a store, by its tests in one row and byte by byte: it is told 0 and finds the store in its 8 bytes; or it is told
-- the first test that fails, and finds them as they were. Assumes nothing.
use Prim.Native.Nat.{ℕ}
use mathlib.Core.Path.{◌≡◌, refl}
use mathlib.Core.Bool.{Bool, true, false}
use mathlib.Core.List.{List}
use lib.ListN.{length}
use lib.Dec.{eqb}
use Rattle.rules.specs.Refusals.{number}
use Rattle.rules.specs.Bytes.{number_size}
use Rattle.rules.specs.Calls.{verdict, unless, number_test, put_value}
use Rattle.ring.specs.Ring.{ring_good, doubled, ring_verdict, store_outcome, exported_store, store_told}

pub host_store : (ring : List ℕ) (key : ℕ) (store : List ℕ) → exported_store ring key store ≡ store_told ring key store
unfolding exported_store store_outcome ring_verdict verdict number_test unless put_value number
host_store ring key store = go (eqb (length store) number_size) (ring_good ring) (doubled ring) refl refl refl
  where
    go : (a b c : Bool) → eqb (length store) number_size ≡ a → ring_good ring ≡ b → doubled ring ≡ c →
        exported_store ring key store ≡ store_told ring key store
    go false b c ea eb ec = rw ea refl
    go true false c ea eb ec = rw (ea, eb) refl
    go true true true ea eb ec = rw (ea, eb, ec) refl
    go true true false ea eb ec = rw (ea, eb, ec) refl
