use Rattle.std.proofs.Common.{◌≡◌, max, min}
use Rattle.rules.specs.Pass.{pass}
use Rattle.scaler.specs.Scale.{lookup_at}
use Rattle.scaler.proofs.imbalance.Given as goal

abbrev pub invariant-loop-i : goal.invariant-loop-i
invariant-loop-i l =
    (l.most ≡ pass (λ held i n. max held n) 0 (lookup_at l.lookups) l.i)
    × (l.fewest ≡ pass (λ held i n. min held n) (lookup_at l.lookups 0) (lookup_at l.lookups) l.i)
