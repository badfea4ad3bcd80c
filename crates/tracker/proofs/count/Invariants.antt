use Rattle.std.proofs.Common.{◌≡◌, ◌≤◌, Bool}
use Rattle.rules.specs.Bytes.{record_at}
use Rattle.rules.specs.declared.Record.{Record}
use Rattle.rules.specs.Pass.{count_of}
use Rattle.tracker.proofs.count.Given as goal

abbrev pub invariant-loop-i : goal.invariant-loop-i
invariant-loop-i g l =
    ((p : Record → Bool) → ((r passes : _) → goal.T-post g l.test r passes → passes ≡ p r) → l.counted ≡ count_of p (record_at l.table) l.i)
    × (l.counted ≤ l.i)
