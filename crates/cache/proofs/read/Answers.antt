-- A memory that is accepted has the room that the steps want. Assumes nothing.
use Rattle.std.proofs.Common.{sym, rules, arith}
use Rattle.rules.specs.Calls.{lent, unless, read_outcome}
use Rattle.rules.specs.Bytes.{IsBytes}
use Rattle.rules.proofs.Answered.{read_said_lem}
use Rattle.rules.proofs.Verdicts.{read_accepted}
use Rattle.steps.proofs.Rooms.{order_fits}
use Rattle.cache.proofs.read.Goals as goal

pub overflow_cast-weight : goal.overflow_cast-weight
overflow_cast-weight c =
    let told = read_accepted _ _ (sym (rw c.view.ensures at c.in_ok-read_verdict.ensures)) in omega (arith, told.good)

pub read_steps-requires : goal.read_steps-requires
read_steps-requires c =
    let told = read_accepted _ _ (sym (rw c.view.ensures at c.in_ok-read_verdict.ensures)) in
    let (total, heats, lines) = order_fits _ told.sizes told.order in
    (total, heats, lines, told.serial)

pub returns-clause-said : goal.returns-clause-said
unfolding read_outcome unless
returns-clause-said c =
    let bytes : IsBytes c.args.table.now = record { below = λ i. search rules } in
    rw (← read_said_lem (lent c.args.table.now c.args.gauge.now c.args.lines.now) c.args.key c.args.weight bytes (omega arith), ← (rw c.view.ensures at c.in_ok-read_verdict.ensures), ← c.read_steps.ensures.outcome)
