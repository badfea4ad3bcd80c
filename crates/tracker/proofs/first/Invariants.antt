use Rattle.std.proofs.Common.{◌≡◌, Bool, None}
use Rattle.rules.specs.declared.Record.{Record}
use Rattle.rules.specs.Bytes.{record_at}
use Rattle.rules.specs.Pass.{first_of}
use Rattle.tracker.proofs.first.Given as goal

abbrev pub invariant-loop-i : goal.invariant-loop-i
invariant-loop-i g l =
    (p : Record → Bool) → ((r passes : _) → goal.F-post g l.test r passes → passes ≡ p r) → first_of p (record_at l.table) l.i ≡ None
