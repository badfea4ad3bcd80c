-- A table in order has levels whose sum fits. Assumes nothing.
use Rattle.std.proofs.Common.{sym, arith}
use Rattle.rules.specs.Bytes.{record_count}
use Rattle.rules.specs.Table.{places, size}
use Rattle.rules.specs.Calls.{lent}
use Rattle.rules.proofs.Memories.{sizes_say}
use Rattle.rules.proofs.Verdicts.{plain_accepted}
use Rattle.steps.proofs.Rooms.{order_fits}
use Rattle.cache.proofs.levelled_sum.Goals as goal

pub sum_levels-requires : goal.sum_levels-requires
unfolding record_count places size
sum_levels-requires c =
    let m = lent c.args.table.now c.args.gauge c.args.lines.now in
    let good = plain_accepted m (sym (rw c.view.ensures at c.in_ok-plain_verdict.ensures)) in
    let sizes = sizes_say m.table m.lines good.sizes in
    let room = (order_fits m good.sizes good.order).1 in
    (omega arith, record { ceiling_most = room.ceiling; heat_most = room.heat })
