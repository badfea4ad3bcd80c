use Rattle.rules.specs.Calls.{unless, withdraw_outcome}
use Rattle.rules.proofs.Numbers.{withdraw_number_lem}
use Rattle.cache.proofs.withdraw.Goals as goal

pub returns-clause-said : goal.returns-clause-said
unfolding withdraw_outcome unless
returns-clause-said c =
    rw (← withdraw_number_lem _ _, ← (rw c.view.ensures at c.in_ok-withdraw_verdict.ensures), ← c.withdraw_steps.ensures.outcome)
