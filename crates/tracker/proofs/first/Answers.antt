use Rattle.std.proofs.Common.{sym, ◌∙◌}
use Rattle.tracker.proofs.Stops.{found_here}
use Rattle.tracker.proofs.first.Goals as goal

pub returns-then-test : goal.returns-then-test
returns-then-test g c =
    λ p tells.
    rw (← c.record_count-i-end.ensures)
    (found_here p _ _ _ (c.loop-i.invariant p tells) c.record_at-r.ensures _ c.loop-i-test.true (sym (tells _ _ c.test.ensures) ∙ c.if-test.true))
