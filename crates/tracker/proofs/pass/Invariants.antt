use Rattle.std.proofs.Common.{ℕ, ◌≡◌, None}
use Rattle.rules.specs.Bytes.{record_at}
use Rattle.rules.specs.declared.Record.{Record}
use Rattle.rules.specs.Pass.{Found, pass}
use Rattle.tracker.proofs.pass.Given as goal

abbrev pub invariant-loop-i : goal.invariant-loop-i
invariant-loop-i g l =
    (s : Found → ℕ → Record → Found) → ((held i r next : _) → goal.F-post g l.step held i r next → next ≡ s held i r) →
    l.held ≡ pass s None (record_at l.table) l.i
