use Rattle.std.proofs.Common.{refl, rules}
use Rattle.rules.specs.Calls.{lent}
use Rattle.rules.specs.Steps.{outcome}
use Rattle.rules.specs.Journal.{row_of}
use Rattle.runner.proofs.Stepping.{picture_inside, ended, carried_on}
use Rattle.runner.proofs.step.Goals as goal

pub returns-in_default : goal.returns-in_default
returns-in_default c = ended _ _ _ _ (rw (← c.decode-d.ensures.0) c.in_default.is)

pub perform-reply-requires : goal.perform-reply-requires
perform-reply-requires c = picture_inside c.args.journal.now c.args.p.now.at c.in-Some.entry (rw (← c.decode-d.ensures.0) c.in-Some.is)

pub returns : goal.returns
unfolding row_of
returns c =
    let did = c.perform-reply in
    carried_on
    c.args.journal.now
    c.args.p.now
    _
    c.args.out.now
    _
    _
    (outcome did.result (lent did.new.table did.new.gauge did.new.lines))
    _
    (rw (← c.decode-d.ensures.0) c.in-Some.is)
    did.ensures
    (rw (← c.decode-d.ensures.0))
    refl
    c.put_row.ensures.ends
    (search rules)
    (search rules)
    c.requires.0
