use Rattle.std.proofs.Common.{◌<◌}
use Rattle.rules.specs.Bytes.{record_at, record_count, line_count}
use Rattle.resizing.proofs.Copying.{has_place, has_line}
use Rattle.resizing.proofs.pack.Goals as goal

pub pack_one-requires : goal.pack_one-requires
unfolding record_count line_count
pack_one-requires c =
    let (_, table, lines, place, line, _, _) = c.loop-i.invariant in
    let f = record_at c.args.table.now in
    let inside : c.loop-i.i < record_count c.args.table.now = rw (← c.record_count-i-end.ensures) c.loop-i-test.true in (
      inside,
      place,
      line,
      rw (table, place) (has_place f _ _ _ _ c.loop-i.i c.requires inside),
      rw (lines, line) (has_line f _ _ _ _ c.loop-i.i c.requires inside),
      rw lines c.requires.to_few,
    )
