-- What a C host gets of a fresh and of a levelled sum, by their tests in one row and byte by byte: it is told 0 and finds table and
-- gauge zero, or the sum in its 8 bytes; or it is told the first test that fails, and finds every byte as it was. And that a read with
-- ticket bytes of another length is refused with 1. Assumes nothing.
use Prim.Native.Nat.{ℕ}
use mathlib.Core.Path.{◌≡◌, refl}
use mathlib.Core.Bool.{Bool, true, false}
use mathlib.Core.List.{List}
use mathlib.Core.Logic.{◌≢◌}
use native.Mathlib.Omega.{arith}
use borrow.Author.Tests.{eqb-true, ne_eqb}
use lib.ListN.{length}
use lib.Dec.{eqb}
use Rattle.std.specs.Prelude.{Ok}
use Rattle.rules.specs.Refusals.{number}
use Rattle.rules.specs.Bytes.{IsBytes, number_size, get64, gauge_size, gauge_at}
use Rattle.rules.specs.Table.{Memory, fresh_gauge, fresh_memory}
use Rattle.rules.specs.Answers.{Reply, number_of, completion_number}
use Rattle.rules.specs.Steps.{Outcome, outcome}
use Rattle.rules.specs.Calls.{sizes_good, order_good, verdict, unless, sizes_test, order_test, plain_verdict, fresh_outcome, levelled_outcome, HostRead, hosted_read, exported_read, HostMemory, held, stored, gauge_test, hosted, exported_fresh, fresh_told, number_test, put_value, exported_sum, sum_told}
use Rattle.rules.proofs.Places.{gauge_zeroed, gauge_kept}

module _ (h : HostMemory) where
  abbrev sized : Bool
  sized = eqb (length h.gauge) gauge_size

  abbrev good : Bool
  good = sizes_good h.table h.lines

  pub host_fresh : IsBytes h.gauge → exported_fresh h ≡ fresh_told h
  unfolding exported_fresh hosted fresh_outcome verdict gauge_test sizes_test unless completion_number number held stored fresh_memory
  host_fresh bytes = go sized good refl refl
    where
      go : (a b : Bool) → sized ≡ a → good ≡ b → exported_fresh h ≡ fresh_told h
      go false b ea eb = rw ea
      go true false ea eb = rw (ea, eb, gauge_kept h.gauge bytes)
      go true true ea eb = rw (ea, eb, gauge_zeroed h.gauge (eqb-true (length h.gauge) gauge_size ea))

  -- told 0, a host holds what fresh leaves
  pub host_starts : (exported_fresh h).answer ≡ 0 →
      ((fresh_outcome (held h)).answer ≡ Ok tt) × (held (exported_fresh h).after ≡ (fresh_outcome (held h)).after)
  unfolding exported_fresh hosted fresh_outcome verdict gauge_test sizes_test unless completion_number number held stored fresh_memory fresh_gauge gauge_at get64
  host_starts told = go sized good refl refl
    where
      go : (a b : Bool) → sized ≡ a → good ≡ b →
          ((fresh_outcome (held h)).answer ≡ Ok tt) × (held (exported_fresh h).after ≡ (fresh_outcome (held h)).after)
      go false b ea eb = absurd (omega (arith, rw ea at told))
      go true false ea eb = absurd (omega (arith, rw (ea, eb) at told))
      go true true ea eb = (rw eb, rw (ea, eb, gauge_zeroed h.gauge (eqb-true (length h.gauge) gauge_size ea)))

  module _ (sum : List ℕ) where
    pub host_sum : exported_sum h sum ≡ sum_told h sum
    unfolding exported_sum levelled_outcome plain_verdict verdict gauge_test number_test sizes_test order_test unless put_value number held
    host_sum = go sized (eqb (length sum) number_size) good (order_good (held h)) refl refl refl refl
      where
        go : (a b c d : Bool) → sized ≡ a → eqb (length sum) number_size ≡ b → good ≡ c → order_good (held h) ≡ d → exported_sum h sum ≡ sum_told h sum
        go false b c d ea eb ec ed = rw ea
        go true false c d ea eb ec ed = rw (ea, eb)
        go true true false d ea eb ec ed = rw (ea, eb, ec)
        go true true true false ea eb ec ed = rw (ea, eb, ec, ed)
        go true true true true ea eb ec ed = rw (ea, eb, ec, ed)

-- | an exported read lends 8 more bytes (another length gives 1)
pub ticket_length : (call : Memory → Outcome Reply Memory) (h : HostRead) → length h.ticket ≢ 8 → exported_read call h ≡ outcome 1 h
unfolding exported_read hosted_read verdict number_test unless number_of number
ticket_length call h other = rw (ne_eqb (length h.ticket) number_size other)
