-- What a C host is told of a resize, by all tests in one row and byte by byte: a gauge of another length is refused with 1 before all else,
-- and a refused resize leaves every byte of the target. Assumes nothing.
use mathlib.Core.Path.{◌≡◌, refl}
use mathlib.Core.Bool.{Bool, true, false}
use lib.ListN.{length}
use lib.Dec.{eqb}
use Rattle.rules.specs.Refusals.{number}
use Rattle.rules.specs.Bytes.{IsBytes, gauge_size}
use Rattle.rules.specs.Answers.{completion_number}
use Rattle.rules.specs.Calls.{sizes_good, order_good, serial_good, verdict, unless, sizes_test, order_test, serial_test, HostMemory, held, stored, gauge_test}
use Rattle.rules.proofs.Places.{gauge_kept}
use Rattle.resizing.specs.Resize.{resize_verdict, resize_outcome, hosted_resize, exported_resize, resize_told}

module _ (source target : HostMemory) (bytes : IsBytes target.gauge) where
  abbrev sized : HostMemory → Bool
  sized h = eqb (length h.gauge) gauge_size

  abbrev good : HostMemory → Bool
  good h = sizes_good h.table h.lines

  pub host_resize : exported_resize source target ≡ resize_told source target
  unfolding exported_resize hosted_resize resize_outcome resize_verdict verdict gauge_test sizes_test order_test serial_test unless completion_number number held stored
  host_resize =
      go (sized source) (sized target) (good source) (good target) (order_good (held source)) (serial_good (held source))
      refl refl refl refl refl refl
    where
      go : (a b c d e f : Bool) → sized source ≡ a → sized target ≡ b → good source ≡ c → good target ≡ d → order_good (held source) ≡ e →
          serial_good (held source) ≡ f → exported_resize source target ≡ resize_told source target
      go false b c d e f ea eb ec ed ee ef = rw ea
      go true false c d e f ea eb ec ed ee ef = rw (ea, eb)
      go true true false d e f ea eb ec ed ee ef = rw (ea, eb, ec, gauge_kept target.gauge bytes)
      go true true true false e f ea eb ec ed ee ef = rw (ea, eb, ec, ed, gauge_kept target.gauge bytes)
      go true true true true false f ea eb ec ed ee ef = rw (ea, eb, ec, ed, ee, gauge_kept target.gauge bytes)
      go true true true true true false ea eb ec ed ee ef = rw (ea, eb, ec, ed, ee, ef, gauge_kept target.gauge bytes)
      go true true true true true true ea eb ec ed ee ef = rw (ea, eb, ec, ed, ee, ef)
