use Prim.Native.Nat.{◌-◌}
use mathlib.Core.Path.{◌≡◌}
use native.Mathlib.Omega.{arith}
use Rattle.rules.specs.Table.{places, size, line_total}
use Rattle.resizing.specs.Resize.{lined_count, filled_up}
use Rattle.resizing.proofs.fill_up.Goals as goal

pub returns-clause-memory : goal.returns-clause-memory
unfolding filled_up lined_count places size line_total
returns-clause-memory c =
    let (_, _, most, is, _) = c.loop-line.invariant in
    let first = c.lined_count-line.result in
    let more : c.loop-line.line - first ≡ c.line_count-line-end.result - first = omega (arith, most, c.loop-line-test.false) in
    rw (← c.lined_count-line.ensures, ← c.line_count-line-end.ensures) (rw more at is)
