-- The paper's numbers and values: for a refusal, and for each case of every answer.
use Rattle.std.specs.Prelude.{ℕ, ◌+◌, ◌≡◌, List, [], ◌∷◌, Bool, true, false, ltb, Option, Some, None, Result, Ok, Err}
use Rattle.std.proofs.Math.Option as maybe
use Rattle.std.proofs.Math.Option.{none, some}
use Rattle.rules.specs.declared.Answer.{Answer}
use Rattle.rules.specs.declared.Answer.TheVariants.{Aged, Changed, Unknown, Stored, Passed, Withdrawn, Hit, Wanted}
use Rattle.rules.specs.declared.Refusal.{Refusal}
use Rattle.rules.specs.declared.Refusal.TheVariants.{NoLine, AlreadyFilled}
use Rattle.rules.specs.declared.Lookup.{Lookup}
use Rattle.rules.specs.declared.Entry.{Entry}
use Rattle.rules.specs.declared.Entry.TheVariants.{Read, Update, Fill, Age, Withdraw}
use Rattle.rules.specs.Refusals.{number}

-- what a read, update, fill, aging or withdrawal says: its answer, or why it is refused
abbrev pub Reply : Type 0
Reply = Result Answer Refusal

-- that a call is done, or accepted, or why it is refused
abbrev pub Completion : Type 0
Completion = Result Unit Refusal

-- | returns one number: a refusal's own, 100 for aged, 101 changed, 102 unknown, 103 stored, 104 passed, 2,000 + n for hit and
-- | 4,000 + n for wanted on line n. .. withdrawn (105 when exported) (document 02)
unfoldable pub answer_number : Answer → ℕ
answer_number Aged = 100
answer_number Changed = 101
answer_number Unknown = 102
answer_number Stored = 103
answer_number Passed = 104
answer_number Withdrawn = 105
answer_number (Hit n) = 2000 + n
answer_number (Wanted n ticket) = 4000 + n

unfoldable pub number_of : Reply → ℕ
number_of (Ok a) = answer_number a
number_of (Err cause) = number cause

unfoldable pub is_refused : Reply → Bool
is_refused (Ok a) = false
is_refused (Err cause) = true

-- | a refusal's own
-- It is below 100, as no other answer's is, so that the number alone tells whether the call was refused.
abbrev pub Told : Reply → Type 0
Told a = ltb (number_of a) 100 ≡ is_refused a

-- The paper's number, if an answer has one, and the values that come with it.
pub record Said : Type 0 where
  pub number : maybe.Option ℕ
  pub values : List ℕ

abbrev pub said : maybe.Option ℕ → List ℕ → Said
said n vs = record { number = n; values = vs }

-- | Wanted carries the ticket (document 02)
unfoldable pub values_of : Reply → List ℕ
values_of (Ok Aged) = []
values_of (Ok Changed) = []
values_of (Ok Unknown) = []
values_of (Ok Stored) = []
values_of (Ok Passed) = []
values_of (Ok Withdrawn) = []
values_of (Ok (Hit n)) = []
values_of (Ok (Wanted n ticket)) = ticket ∷ []
values_of (Err cause) = []

unfoldable pub answer_said : Reply → Said
answer_said a = said (some (number_of a)) (values_of a)

-- | Fresh, and any call without a named answer, answers done.
unfoldable pub completion_said : Completion → Said
completion_said (Ok u) = said none []
completion_said (Err cause) = said (some (number cause)) []

-- A C host is told done by a number of its own, which is no refusal's.
abbrev pub done_number : ℕ
done_number = 0

unfoldable pub completion_number : Completion → ℕ
completion_number (Ok u) = done_number
completion_number (Err cause) = number cause

-- a call that is done tells a number besides
unfoldable pub value_said : Result ℕ Refusal → Said
value_said (Ok n) = said none (n ∷ [])
value_said (Err cause) = said (some (number cause)) []

-- with the number that a fill of such a key is refused with
unfoldable pub lookup_said : Lookup → Said
lookup_said Lookup.Untracked = said (some (number NoLine)) []
lookup_said Lookup.Unlined = said (some (number NoLine)) []
lookup_said (Lookup.Lined place line true ticket) = said (some (number AlreadyFilled)) (place ∷ line ∷ ticket ∷ [])
lookup_said (Lookup.Lined place line false ticket) = said none (place ∷ line ∷ ticket ∷ [])

-- | Byte 0 is the kind: 1 read, 2 update, 3 fill, 4 age. .. [A withdrawal's] journal kind is 5 (document 02)
abbrev pub read_kind : ℕ
read_kind = 1

abbrev pub update_kind : ℕ
update_kind = 2

abbrev pub fill_kind : ℕ
fill_kind = 3

abbrev pub age_kind : ℕ
age_kind = 4

abbrev pub withdraw_kind : ℕ
withdraw_kind = 5

unfoldable pub entry_said : Option (Result Entry Refusal) → Said
entry_said (Some (Ok (Read key weight))) = said (some read_kind) (key ∷ weight ∷ [])
entry_said (Some (Ok (Update key weight))) = said (some update_kind) (key ∷ weight ∷ [])
entry_said (Some (Ok (Fill key picture ticket))) = said (some fill_kind) (key ∷ picture ∷ ticket ∷ [])
entry_said (Some (Ok Age)) = said (some age_kind) []
entry_said (Some (Ok (Withdraw key))) = said (some withdraw_kind) (key ∷ [])
entry_said (Some (Err cause)) = said (some (number cause)) []
entry_said None = said none []
