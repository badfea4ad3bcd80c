-- Where the tests pass and the lookup finds a filled line, the line lies inside the lines. Assumes nothing.
use Rattle.std.proofs.Common.{sym}
use Rattle.rules.specs.Table.{places, size, line_total}
use Rattle.rules.proofs.Verdicts.{plain_accepted}
use Rattle.steps.proofs.Rooms.{order_fits}
use Rattle.cache.proofs.Lined.{lined_at}
use Rattle.cache.proofs.show.Goals as goal

pub line_at-requires : goal.line_at-requires
unfolding places size line_total
line_at-requires c =
    let told = plain_accepted _ (sym (rw c.view.ensures at c.in-Ok.ensures)) in
    (lined_at _ c.args.key _ _ _ _ (order_fits _ told.sizes told.order).2 (sym c.in-Lined.ensures.value)).room
