-- What is decoded as the definition does says what the definition says.
use Rattle.std.proofs.Common.{◌≡◌, ℕ, List, Option, Result}
use Rattle.rules.specs.declared.Entry.{Entry}
use Rattle.rules.specs.declared.Refusal.{Refusal}
use Rattle.rules.specs.Answers.{entry_said}
use Rattle.rules.specs.Journal.{entry_at}
use Rattle.rules.specs.Numbers.{said_at}
use Rattle.rules.proofs.Numbers.{entry_said_lem}

pub said_of : (entry : Option (Result Entry Refusal)) (j : List ℕ) (at : ℕ) → entry ≡ (entry_at j at).entry → entry_said entry ≡ said_at j at
said_of entry j at e = rw e (entry_said_lem j at)
