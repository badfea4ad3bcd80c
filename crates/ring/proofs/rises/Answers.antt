-- What the closure answers of two numbers.
use Rattle.std.proofs.Common.{rules, ltb}
use Rattle.std.proofs.lemmas.List.Sorted.{answers_always}
use Rattle.ring.proofs.rises.Goals as goal

pub returns : goal.returns
returns c = c.is_sorted_by.ensures.cases ltb (answers_always _ _ _ (λ f a r f' called. search rules))
