-- The place that is held after the step is the next one. Assumes nothing.
use Rattle.std.proofs.Common.{◌≡◌, ◌+◌, ◌<◌, arith}
use Rattle.rules.specs.Bytes.{record_at, record_count}
use Rattle.rules.specs.Walk.{walk}
use Rattle.rules.proofs.Walks.{walk_next}
use Rattle.tracker.specs.Walking.{held_records}
use Rattle.tracker.proofs.Walking.{nowhere_yet, stops_here}
use Rattle.tracker.proofs.walk.Goals as goal

pub returns-then-held : goal.returns-then-held
returns-then-held c =
    let (held, heat, none) = c.loop-i.invariant in
    let f = record_at c.args.table.now in
    let key = c.args.key in
    let i = c.loop-i.i in
    let is : held_records f c.walk_step-held.result ≡ walk key f (i + 1) =
    rw (walk_next key f i, ← held, ← c.record_at.ensures) (c.walk_step-held.ensures f c.record_at.ensures heat).0 in
    let inside : i < record_count c.args.table.now = rw c.record_count-i-end.ensures at c.loop-i-test.true in
    let none_yet = nowhere_yet key f c.loop-i.held i held none in
    stops_here key f _ i c.walk_step-held.result inside none_yet is (omega (arith, c.walk_step-held.type_inv)) c.if-held.true
