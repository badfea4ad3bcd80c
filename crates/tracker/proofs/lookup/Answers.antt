use Rattle.rules.specs.Table.{lookup, looked_up}
use Rattle.rules.proofs.Numbers.{lookup_said_lem}
use Rattle.tracker.proofs.lookup.Goals as goal

pub returns-in-None-clause-result_value : goal.returns-in-None-clause-result_value
unfolding lookup looked_up
returns-in-None-clause-result_value c = rw (← lookup_said_lem _ _ _, ← c.in-None.ensures)

pub returns-in-Some-clause-result_value : goal.returns-in-Some-clause-result_value
unfolding lookup looked_up
returns-in-Some-clause-result_value c =
    rw (← lookup_said_lem _ _ _, ← c.in-Some.ensures, ← c.if-is_lined.ensures, ← c.line_of.ensures, ← c.is_filled.ensures)

pub returns-in-Some-2-clause-result_value : goal.returns-in-Some-2-clause-result_value
unfolding lookup looked_up
returns-in-Some-2-clause-result_value c = rw (← lookup_said_lem _ _ _, ← c.in-Some.ensures, ← c.if-is_lined.ensures)
