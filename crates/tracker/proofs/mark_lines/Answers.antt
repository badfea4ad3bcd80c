use Rattle.std.proofs.Common.{◌≡◌, ◌<◌, true, false, sym, ◌∙◌}
use Rattle.rules.specs.Bytes.{record_at, record_count}
use Rattle.rules.specs.Table.{is_lined}
use Rattle.tracker.specs.Claiming.{largest}
use Rattle.tracker.proofs.Claiming.{coldest_moves, coldest_stays, coldest_off}
use Rattle.tracker.proofs.Marks.{marks_line, marks_stay}
use Rattle.tracker.proofs.mark_lines.Goals as goal
use Rattle.tracker.proofs.mark_lines.Goals.{then-is_lined+then-r-least, then-is_lined+else-r-least, else-is_lined}

pub loop-i-preserved : goal.loop-i-preserved
loop-i-preserved c =
    let (marks, so_far, heat) = c.loop-i.invariant in
    let f = record_at c.args.table.now in
    let n = c.record_count-n.result in
    let i = c.loop-i.i in
    let best = c.loop-i.best in
    let least = c.loop-i.least in
    let r = c.record_at-r.result in
    let read = c.record_at-r.ensures in
    let inside : i < record_count c.args.table.now = rw c.record_count-n.ensures at c.loop-i-test.true in
    let below : r.heat < largest = rw read (c.requires.1.heat i inside) in
    elim c.if-is_lined.branch [
      | then-is_lined+then-r-least w ↦
          let lined : is_lined r ≡ true = sym c.is_lined.ensures ∙ w.if-is_lined.true in
          let moves = coldest_moves f n i best least r read below so_far heat c.loop-i-test.true lined w.if-r-least.true in (
            rw (w.used-is, w.line_of.ensures, read) (marks_line f i c.loop-i.used marks (rw (← read) lined)),
            rw w.best-is moves.0,
            rw (w.least-is, w.best-is) moves.1,
          )
      | then-is_lined+else-r-least w ↦
          let lined : is_lined r ≡ true = sym c.is_lined.ensures ∙ w.if-is_lined.true in (
            rw (w.used-is, w.line_of.ensures, read) (marks_line f i c.loop-i.used marks (rw (← read) lined)),
            rw w.best-is (coldest_stays f n i best least r read below so_far heat w.if-r-least.false),
            rw (w.least-is, w.best-is) heat,
          )
      | else-is_lined w ↦
          let unlined : is_lined r ≡ false = sym c.is_lined.ensures ∙ w.if-is_lined.false in (
            rw w.used-is (marks_stay f i c.loop-i.used marks (rw (← read) unlined)),
            rw w.best-is (coldest_off f n i best least r read below so_far heat unlined),
            rw (w.least-is, w.best-is) heat,
          )
    ]
