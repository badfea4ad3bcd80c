-- An aging keeps the room that the steps want. Assumes nothing.
use Rattle.std.proofs.Common.{List, ap, subst}
use Rattle.rules.specs.Table.{Memory}
use Rattle.steps.specs.Room.{EachAged}
use Rattle.steps.proofs.Rooms.{aged_heats, aged_lines}
use Rattle.steps.proofs.decay_for.Goals as goal

pub returns-then-hub-from-gt-MOST_TOTAL-clause-room : goal.returns-then-hub-from-gt-MOST_TOTAL-clause-room
returns-then-hub-from-gt-MOST_TOTAL-clause-room c =
    let is = c.age_all.ensures.memory in
    let (_, heats, lines) = c.requires in
    let each = subst (λ (table : List _). EachAged c.args.hub.now.table.now table) (ap (λ (m : Memory). m.table) is) c.age_all.ensures.each in
    rw is (aged_heats _ each heats, aged_lines _ each lines)
