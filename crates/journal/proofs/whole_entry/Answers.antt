use Rattle.std.proofs.Common.{arith}
use Rattle.std.proofs.lemmas.Grind.{common_steps}
use Rattle.rules.specs.Journal.{whole_entry, of_form, kind_at, weight_zero, key_zero, ticket_zero}
use Rattle.journal.proofs.Parts.{parts}
use Rattle.journal.proofs.whole_entry.Goals as goal
use Rattle.journal.proofs.whole_entry.Goals.{then-ticket-eq0, else-ticket-eq0}

pub returns-in_err-kind : goal.returns-in_err-kind
unfolding whole_entry of_form kind_at
returns-in_err-kind c = λ j at e p. grind (arith, common_steps)

pub returns-in_default-7 : goal.returns-in_default-7
unfolding whole_entry of_form weight_zero key_zero ticket_zero
returns-in_default-7 c = λ j at e p. elim c.if-ticket-eq0.branch [ then-ticket-eq0 w ↦ grind (arith, parts) | else-ticket-eq0 w ↦ grind (arith, parts) ]

pub returns-in_default-9 : goal.returns-in_default-9
unfolding whole_entry of_form weight_zero key_zero ticket_zero
returns-in_default-9 c = λ j at e p. elim c.if-ticket-eq0.branch [ then-ticket-eq0 w ↦ grind (arith, parts) | else-ticket-eq0 w ↦ grind (arith, parts) ]
