use Rattle.std.proofs.Common.{rules, not, ◌∙◌}
use Rattle.std.specs.Prelude.{take}
use Rattle.std.proofs.lemmas.Iterator.{YieldsList-from_slice}
use Rattle.std.proofs.lemmas.Iterator.Search.{position_from_yields_List}
use borrow.Author.Tests.{tests}
use Rattle.tracker.proofs.Marks.{clear_is_unmarked}
use Rattle.tracker.proofs.lowest_unmarked.Goals as goal

pub returns : goal.returns
returns c =
    position_from_yields_List not _ _ c.position.result c.position.ensures.ran
    (YieldsList-from_slice (take c.args.lines c.args.used.now) cc) (λ x b q k. search (rules, tests))
    ∙ clear_is_unmarked _ _ c.requires
