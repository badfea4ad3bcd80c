-- What an accepted resize has shown. Assumes nothing.
use Prim.Native.Nat.{◌<◌}
use mathlib.Core.Path.{◌≡◌, refl}
use mathlib.Core.Bool.{true}
use borrow.Author.Tests.{ltb-true}
use Rattle.std.specs.Prelude.{Ok, Err}
use Rattle.rules.specs.Answers.{Completion}
use Rattle.rules.specs.Table.{Memory}
use Rattle.rules.specs.Steps.{Outcome}
use Rattle.rules.specs.Calls.{serial_limit, sizes_good, order_good, serial_good, sizes_test, order_test, serial_test, unless, leaving}
use Rattle.rules.proofs.Verdicts.{first_passes}
use Rattle.resizing.specs.Resize.{resize_verdict, resize_outcome}

pub record Accepted (source target : Memory) : Type 0 where
  pub verdict : resize_verdict source target ≡ Ok tt
  pub source_sizes : sizes_good source.table source.lines ≡ true
  pub target_sizes : sizes_good target.table target.lines ≡ true
  pub order : order_good source ≡ true
  pub serial : source.gauge.serial < serial_limit

-- by the answer, as a refused call answers with its cause
pub done_verdict : {Lent : Type 0} (lent : Lent) (given : Outcome Completion Lent) (v : Completion) →
    (unless v (leaving lent) given).answer ≡ Ok tt → v ≡ Ok tt
unfolding unless
done_verdict lent given (Ok u) e = refl
done_verdict lent given (Err cause) e = e

pub verdict_says : (source target : Memory) → resize_verdict source target ≡ Ok tt → Accepted source target
unfolding resize_verdict sizes_test order_test serial_test serial_good
verdict_says source target e =
    let a = first_passes _ _ e in
    let b = first_passes _ _ a.1 in
    let c = first_passes _ _ b.1 in
    let d = first_passes _ _ c.1 in
    record {
      verdict = e;
      source_sizes = a.0;
      target_sizes = b.0;
      order = c.0;
      serial = ltb-true source.gauge.serial serial_limit d.0;
    }

pub resize_accepted : (source target : Memory) → (resize_outcome source target).answer ≡ Ok tt → Accepted source target
unfolding resize_outcome
resize_accepted source target e = verdict_says source target (done_verdict target _ (resize_verdict source target) e)
