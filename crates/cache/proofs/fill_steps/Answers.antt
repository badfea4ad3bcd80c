-- The line that was looked up lies inside the lines, and its record inside the table. Assumes nothing.
use Rattle.std.proofs.Common.{sym}
use Rattle.rules.specs.Table.{places, size, line_total}
use Rattle.cache.proofs.Lined.{lined_at}
use Rattle.cache.proofs.fill_steps.Goals as goal

pub put_line-requires : goal.put_line-requires
unfolding places size line_total
put_line-requires c = (lined_at _ c.args.key _ _ _ _ c.requires (sym c.in-Lined.ensures.value)).room

pub change_record-requires : goal.change_record-requires
unfolding places size
change_record-requires c =
    let h = lined_at _ c.args.key _ _ _ _ c.requires (sym c.in-Lined.ensures.value) in
    (h.inside, (h.lined, rw h.line h.few))
