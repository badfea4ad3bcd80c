use Rattle.std.proofs.Common.{rules}
use Rattle.rules.specs.Calls.{unless, fill_outcome}
use Rattle.rules.proofs.Numbers.{fill_number_lem}
use Rattle.cache.proofs.fill.Goals as goal

pub returns-clause-said : goal.returns-clause-said
unfolding fill_outcome unless
returns-clause-said c = rw (← fill_number_lem _ _ _ _) (search rules)
