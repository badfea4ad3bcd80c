-- The record at the place that the walk found is inside, and is heated, tracked anew or evicted there. A read does not change the state of
-- the key's record. Assumes nothing.
use Rattle.std.proofs.Common.{arith}
use Rattle.rules.specs.Bytes.{record_at}
use Rattle.rules.specs.Table.{heated, places, size, with_table, write}
use Rattle.rules.proofs.Places.{IsRecord}
use Rattle.tracker.proofs.Walking.{own_inside, free_inside, victim_inside}
use Rattle.steps.proofs.Rooms.{write_admits, track_admits, evict_admits}
use Rattle.steps.proofs.place.Goals as goal

pub returns-in-Some-clause-admits : goal.returns-in-Some-clause-admits
unfolding heated places size write with_table
returns-in-Some-clause-admits c =
    let (heats, lines, serial) = c.requires in
    let f = record_at c.args.hub.now.table.now in
    let inside = own_inside c.args.key f _ c.walk-found.result c.walk-found.ensures c.in-Some.i (c.in-Some.ensures f) in
    let is : IsRecord c.heated.result = omega (arith, c.heated.type_inv) in
    let weight = c.ranges.weight.fits in
    rw c.put_record.ensures
    (write_admits _ _ c.heated.result heats lines serial inside is
    (rw (c.heated.ensures, c.record_at.ensures) (omega (arith, heats.heat _ inside)))
    (rw (c.heated.ensures, c.record_at.ensures) (lines.state _ inside)))

pub returns-in-Some-some_place-clause-admits : goal.returns-in-Some-some_place-clause-admits
unfolding size
returns-in-Some-some_place-clause-admits c =
    let (heats, lines, serial) = c.requires in
    let f = record_at c.args.hub.now.table.now in
    let inside = free_inside c.args.key f _ c.walk-found.result c.walk-found.ensures (c.in_default.ensures f) c.in-Some-some_place.i (c.in-Some-some_place.ensures f) in
    track_admits _ _ _ _ _ c.track.ensures.memory heats lines serial inside (omega arith) (omega (arith, c.ranges.weight.fits))

pub returns-clause-admits : goal.returns-clause-admits
unfolding places size
returns-clause-admits c =
    let (heats, lines, serial) = c.requires in
    let f = record_at c.args.hub.now.table.now in
    let inside = victim_inside c.args.key f _ c.walk-found.result c.walk-found.ensures (c.in_default.ensures f) c.in_ok-i.i (c.in_ok-i.ensures f) in
    evict_admits _ _ _ _ _ _ c.evict.ensures.memory heats lines serial inside (omega arith) (omega (arith, c.ranges.weight.fits))
    (rw c.record_at-v.ensures (heats.heat _ inside))
