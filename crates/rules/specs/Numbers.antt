-- What each call answers, by the paper's numbers and values, read off its tests, the table and the journal's bytes: not by the cases of
-- an answer, so that number and values of every case (Answers.antt) are held to it. And what a caller may make of a line's number.
use Rattle.std.specs.Prelude.{ℕ, ◌+◌, ◌-◌, ◌≤◌, ◌<◌, ◌^◌, ◌≡◌, List, [], ◌∷◌, Bool, ◌&&◌, ◌||◌, length, ltb, leb, eqb, if◌then◌else◌, Some, None, Ok}
use Rattle.std.proofs.Math.Option.{none, some}
use Rattle.rules.specs.Refusals.{number}
use Rattle.rules.specs.declared.Answer.TheVariants.{Hit, Wanted}
use Rattle.rules.specs.Pass.{Found}
use Rattle.rules.specs.Bytes.{get64}
use Rattle.rules.specs.Table.{Memory, is_lined, is_filled, line_of, key_record, places, size}
use Rattle.rules.specs.Answers.{Said, said, Reply}
use Rattle.rules.specs.Steps.{read_steps, levelled_sum}
use Rattle.rules.specs.Calls.{most_records, verdict, sizes_test, unless, plain_verdict, read_verdict, update_verdict, fill_verdict, withdraw_verdict}
use Rattle.rules.specs.Journal.{entry_size, kind_at, weight_at, key_at, picture_place, ticket_at, gaps_zero, picture_zero, weight_zero, key_zero, ticket_zero}

-- | Returned: the number
abbrev pub refusal : ℕ → Said
refusal n = said (some n) []

-- ---- age, read, update, fill, withdraw
-- | 100 for aged
unfoldable pub age_number : Memory → ℕ
age_number m = unless (plain_verdict m) number 100

-- | hit with the line number if its line is filled; wanted with the number if empty; passed if it has no line
-- | 104 passed, 2,000 + n for hit and 4,000 + n for wanted on line n. .. Wanted carries the ticket (document 02)
unfoldable pub standing : Found → Said
standing None = said (some 104) []
standing (Some (i, r)) =
    if is_filled r
    then said (some (2000 + line_of r)) []
    else if is_lined r then said (some (4000 + line_of r)) (r.ticket ∷ []) else said (some 104) []

-- as the table then stands
unfoldable pub read_said : Memory → ℕ → ℕ → Said
read_said m key w =
    unless (read_verdict m w) (λ cause. refusal (number cause))
    (standing (key_record key (places (read_steps m key w).after) (size (read_steps m key w).after)))

-- | 101 changed, 102 unknown
unfoldable pub change_number : Found → ℕ
change_number None = 102
change_number (Some (i, r)) = 101

unfoldable pub update_number : Memory → ℕ → ℕ → ℕ
update_number m key w = unless (update_verdict m w) number (change_number (key_record key (places m) (size m)))

-- | withdrawn (105 when exported), or unknown for an untracked key (document 02)
unfoldable pub withdrawn_number : Found → ℕ
withdrawn_number None = 102
withdrawn_number (Some (i, r)) = 105

unfoldable pub withdraw_number : Memory → ℕ → ℕ
withdraw_number m key = unless (withdraw_verdict m) number (withdrawn_number (key_record key (places m) (size m)))

-- ---- a key, looked up, and its fill
-- | if there is none, or it has no line, the call ends there with 5; if the line is filled, with 6
-- Its values are the record's place, its line and its ticket.
unfoldable pub key_said : Found → Said
key_said None = refusal 5
key_said (Some (i, r)) =
    if is_filled r
    then said (some 6) (i ∷ line_of r ∷ r.ticket ∷ [])
    else if is_lined r then said none (i ∷ line_of r ∷ r.ticket ∷ []) else refusal 5

-- | 103 stored. .. 9, a fill with another ticket, tested after 6 (document 02)
unfoldable pub store_number : ℕ → Found → ℕ
store_number ticket None = 5
store_number ticket (Some (i, r)) =
    if is_filled r then 6 else if is_lined r then if eqb ticket r.ticket then 103 else 9 else 5

unfoldable pub fill_number : Memory → ℕ → List ℕ → ℕ → ℕ
fill_number m key picture ticket =
    unless (fill_verdict m picture) number (store_number ticket (key_record key (places m) (size m)))

-- ---- fresh and the levelled sum
unfoldable pub fresh_said : Memory → Said
fresh_said m = unless (verdict (sizes_test m ∷ [])) (λ cause. refusal (number cause)) (said none [])

unfoldable pub levelled_said : Memory → Said
levelled_said m = unless (plain_verdict m) (λ cause. refusal (number cause)) (said none (levelled_sum m ∷ []))

-- ---- the journal
-- | Byte 0 is the kind: 1 read, 2 update, 3 fill, 4 age. Byte 1 is 0. .. 4 to 7 are 0. .. Weight is 0 in fills and agings, the
-- | picture is all 0 except in fills, an aging's key is 0. .. a fill's ticket .., zero otherwise. .. The journal kind is 5, in the form
-- | of an aging but with the key. (Document 02)
unfoldable pub form_good : List ℕ → ℕ → Bool
form_good j at =
    leb 1 (kind_at j at)
    && leb (kind_at j at) 5
    && gaps_zero j at
    && (leb (kind_at j at) 2 || weight_zero j at)
    && (eqb (kind_at j at) 3 || picture_zero j at)
    && (eqb (kind_at j at) 3 || ticket_zero j at)
    && (leb (kind_at j at) 3 || eqb (kind_at j at) 5 || key_zero j at)

-- the key, with the weight, or the picture's place and the ticket, or alone
unfoldable pub form_values : List ℕ → ℕ → List ℕ
form_values j at =
    if leb (kind_at j at) 2
    then key_at j at ∷ weight_at j at ∷ []
    else if eqb (kind_at j at) 3
    then key_at j at ∷ picture_place at ∷ ticket_at j at ∷ []
    else if eqb (kind_at j at) 5 then key_at j at ∷ [] else []

-- | anything else is 7. .. 1 to 87 bytes left: 8. .. with no byte left it answers done
unfoldable pub said_at : List ℕ → ℕ → Said
said_at j at =
    if leb (length j) at
    then said none []
    else if ltb (length j - at) entry_size
    then refusal 8
    else if form_good j at then said (some (kind_at j at)) (form_values j at) else refusal 7

-- ---- the line that an answer names
-- a hit's or a wanted's line is one of c, and one that the paper allows, which is at most 1,022; a wanted's ticket has 64 bits
pub record NamesLine (c : ℕ) (a : Reply) : Type 0 where
  pub hit : (n : ℕ) → a ≡ Ok (Hit n) → (n < c) × (n + 1 < most_records)
  pub wanted : (n ticket : ℕ) → a ≡ Ok (Wanted n ticket) → (n < c) × (n + 1 < most_records) × (ticket < 2 ^ 64)

-- what a host makes of a number from 2,000 on, and of the bytes that it lent for a ticket: which answer it is, and a line that is there
pub record TellsLine (c : ℕ) (a : Reply) (told : ℕ) (ticket : List ℕ) : Type 0 where
  pub hit : 2000 ≤ told → told < 4000 → (a ≡ Ok (Hit (told - 2000))) × (told - 2000 < c)
  pub wanted : 4000 ≤ told → (a ≡ Ok (Wanted (told - 4000) (get64 ticket 0))) × (told - 4000 < c)
