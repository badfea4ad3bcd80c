-- What a branch on a test's function says of the test. Assumes nothing.
use mathlib.Core.Path.{◌≡◌, sym, ◌∙◌}
use mathlib.Core.Bool.{Bool, true, false, not}
use borrow.Author.Tests.{not-true, not-false}

-- inside `if !test() { .. }`, and after it
pub fails : {b good : Bool} → b ≡ good → not b ≡ true → good ≡ false
fails {b} e inside = sym e ∙ not-true b inside

pub passes : {b good : Bool} → b ≡ good → not b ≡ false → good ≡ true
passes {b} e after = sym e ∙ not-false b after
