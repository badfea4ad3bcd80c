-- The coldest record on a line is inside, and on a line, as one that is found is. Assumes nothing.
use Rattle.std.proofs.Common.{sym, ◌∙◌}
use borrow.Author.Tests.{lt-ltb}
use Rattle.rules.specs.Table.{is_lined, line_of, places, size, line_total}
use Rattle.rules.proofs.Finds.{coldest_found}
use Rattle.lines.proofs.admit.Goals as goal

pub hand_over-requires : goal.hand_over-requires
unfolding is_lined line_of places size line_total
hand_over-requires c =
    let found = coldest_found _ _ _ _ (sym c.claimable-claim.ensures.coldest_is ∙ c.in-Some-coldest.is) in
    let (inside, _, _, serial) = c.requires in
    (found.inside, inside, lt-ltb _ _ found.has.0, serial)
