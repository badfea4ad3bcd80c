use Rattle.rules.specs.Calls.{unless, update_outcome}
use Rattle.rules.proofs.Numbers.{update_number_lem}
use Rattle.cache.proofs.update.Goals as goal

pub returns-clause-said : goal.returns-clause-said
unfolding update_outcome unless
returns-clause-said c =
    rw (← update_number_lem _ _ _, ← (rw c.view.ensures at c.in_ok-update_verdict.ensures), ← c.update_steps.ensures.outcome)
