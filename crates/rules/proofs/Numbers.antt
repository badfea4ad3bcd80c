-- The number and the values of every answer but a read's are those of the specification, by the cases of the tests, of what is found,
-- or of a journal record's kind. Assumes nothing.
use Prim.Native.Nat.{ℕ, zero, suc, ◌+◌, ◌-◌, ◌%◌, ◌<◌, ◌≤◌}
use mathlib.Core.Path.{◌≡◌, refl, ap}
use mathlib.Core.Logic.{◌≢◌}
use mathlib.Core.List.{List, [], ◌∷◌}
use mathlib.Core.Bool.{Bool, true, false, ◌&&◌, ◌||◌, and-false}
use mathlib.Core.Option.{none, some}
use native.Mathlib.Omega.{arith}
use borrow.Author.Tests.{ne_eqb, le-leb, lt-leb}
use lib.ListN.{length, get_or}
use lib.Dec.{ltb, leb, eqb}
use Rattle.rules.specs.declared.Record.{Record}
use Rattle.rules.specs.Pass.{Found}
use Rattle.std.specs.Prelude.{Some, None}
use Rattle.rules.specs.Answers.{Completion}
use Rattle.std.specs.Prelude.{Result, Ok, Err}
use Rattle.rules.specs.declared.Lookup.TheVariants.{Unlined, Lined}
use Rattle.rules.specs.declared.Refusal.{Refusal}
use Rattle.rules.specs.declared.Refusal.TheVariants.{ShortEnd, StaleTicket, UnknownForm}
use Rattle.rules.specs.Refusals.{number}
use Rattle.rules.specs.declared.Entry.{Entry}
use Rattle.rules.specs.declared.Entry.TheVariants.{Read, Update, Fill, Age, Withdraw}
use Rattle.std.specs.Prelude.{if◌then◌else◌}
use Rattle.rules.specs.Bytes.{number_size, get64}
use Rattle.rules.specs.Table.{Memory, is_lined, is_filled, line_of, key_record, looked_up, lookup, places, size, fresh_memory}
use Rattle.rules.specs.Answers.{answer_number, number_of, said, completion_said, value_said, lookup_said, entry_said, Reply, read_kind, update_kind, fill_kind, age_kind, withdraw_kind}
use Rattle.rules.specs.Steps.{Outcome, outcome, age_steps, change, update_steps, store_in, store, fill_steps, withdraw, withdraw_steps, levelled_sum}
use Rattle.rules.specs.Calls.{unless, leaving, verdict, sizes_test, plain_verdict, update_verdict, fill_verdict, withdraw_verdict, fresh_outcome, age_outcome, update_outcome, fill_outcome, withdraw_outcome, levelled_outcome}
use Rattle.rules.specs.Journal.{entry_size, kind_at, weight_at, key_at, picture_place, ticket_at, gaps_zero, picture_zero, weight_zero, key_zero, ticket_zero, of_form, whole_entry, decoded, entry_at}
use Rattle.rules.specs.Numbers.{refusal, age_number, change_number, update_number, withdrawn_number, withdraw_number, key_said, store_number, fill_number, fresh_said, levelled_said, form_good, form_values, said_at}

-- ---- by the tests
-- a refused call's number is its verdict's, an accepted one's is its steps'
pub unless_number : (v : Completion) (m : Memory) (given : Outcome Reply Memory) (n : ℕ) → number_of given.answer ≡ n →
    number_of (unless v (leaving m) given).answer ≡ unless v number n
unfolding unless number_of answer_number
unless_number (Ok u) m given n e = e
unless_number (Err k) m given n e = refl

pub age_number_lem : (m : Memory) → number_of (age_outcome m).answer ≡ age_number m
unfolding age_outcome age_number age_steps number_of answer_number
age_number_lem m = unless_number (plain_verdict m) m (age_steps m) 100 refl

pub update_number_lem : (m : Memory) (key w : ℕ) → number_of (update_outcome m key w).answer ≡ update_number m key w
unfolding update_outcome update_number update_steps change change_number number_of answer_number
update_number_lem m key w =
    unless_number (update_verdict m w) m (update_steps m key w) _ (changes (key_record key (places m) (size m)))
  where
    changes : (x : Found) → number_of (change m w x).answer ≡ change_number x
    changes None = refl
    changes (Some (i, r)) = refl

pub withdraw_number_lem : (m : Memory) (key : ℕ) → number_of (withdraw_outcome m key).answer ≡ withdraw_number m key
unfolding withdraw_outcome withdraw_number withdraw_steps withdraw withdrawn_number number_of answer_number
withdraw_number_lem m key =
    unless_number (withdraw_verdict m) m (withdraw_steps m key) _ (withdraws (key_record key (places m) (size m)))
  where
    withdraws : (x : Found) → number_of (withdraw m x).answer ≡ withdrawn_number x
    withdraws None = refl
    withdraws (Some (i, r)) = refl

pub fresh_said_lem : (m : Memory) → completion_said (fresh_outcome m).answer ≡ fresh_said m
unfolding fresh_outcome fresh_said unless completion_said
fresh_said_lem m = go (verdict (sizes_test m ∷ []))
  where
    go : (v : Completion) →
        completion_said (unless v (λ n. outcome (Err n) m) (outcome (Ok tt) (fresh_memory m))).answer
        ≡ unless v (λ cause. refusal (number cause)) (said none [])
    go (Ok u) = refl
    go (Err n) = refl

pub levelled_said_lem : (m : Memory) → value_said (levelled_outcome m) ≡ levelled_said m
unfolding levelled_outcome levelled_said unless value_said
levelled_said_lem m = go (plain_verdict m)
  where
    go : (v : Completion) → value_said (unless v Err (Ok (levelled_sum m))) ≡ unless v (λ cause. refusal (number cause)) (said none (levelled_sum m ∷ []))
    go (Ok u) = refl
    go (Err n) = refl

-- ---- by what is found
looked_up_said : (x : Found) → lookup_said (looked_up x) ≡ key_said x
unfolding looked_up lookup_said key_said is_filled number
looked_up_said None = refl
looked_up_said (Some (i, r)) = go (is_lined r) (eqb (r.state % 2) 1)
  where
    go : (lined odd : Bool) →
        lookup_said (if lined then Lined i (line_of r) (lined && odd) r.ticket else Unlined)
        ≡ (if lined && odd
        then said (some 6) (i ∷ line_of r ∷ r.ticket ∷ [])
        else if lined then said none (i ∷ line_of r ∷ r.ticket ∷ []) else refusal 5)
    go true true = refl
    go true false = refl
    go false odd = refl

pub lookup_said_lem : (f : ℕ → Record) (n key : ℕ) → lookup_said (lookup f n key) ≡ key_said (key_record key f n)
unfolding lookup
lookup_said_lem f n key = looked_up_said (key_record key f n)

store_number_lem : (m : Memory) (picture : List ℕ) (ticket : ℕ) (x : Found) →
    number_of (store m picture ticket (looked_up x)).answer ≡ store_number ticket x
unfolding looked_up store store_in store_number is_filled number_of answer_number number
store_number_lem m picture ticket None = refl
store_number_lem m picture ticket (Some (i, r)) = go (is_lined r) (eqb (r.state % 2) 1)
  where
    brought : (same : Bool) →
        number_of (if same then store_in m i (line_of r) picture else outcome (Err StaleTicket) m).answer ≡ (if same then 103 else 9)
    brought true = refl
    brought false = refl

    go : (lined odd : Bool) →
        number_of (store m picture ticket (if lined then Lined i (line_of r) (lined && odd) r.ticket else Unlined)).answer
        ≡ (if lined && odd then 6 else if lined then if eqb ticket r.ticket then 103 else 9 else 5)
    go true true = refl
    go true false = brought (eqb ticket r.ticket)
    go false odd = refl

pub fill_number_lem : (m : Memory) (key : ℕ) (picture : List ℕ) (ticket : ℕ) →
    number_of (fill_outcome m key picture ticket).answer ≡ fill_number m key picture ticket
unfolding fill_outcome fill_number fill_steps lookup
fill_number_lem m key picture ticket =
    unless_number (fill_verdict m picture) m (fill_steps m key picture ticket) _
    (store_number_lem m picture ticket (key_record key (places m) (size m)))

-- ---- by a journal record's kind, and whether its gaps, weight, picture, ticket and key are 0
module _ (k w place brought : ℕ) where
  abbrev KindSaid : ℕ → Bool → Bool → Bool → Bool → Bool → Type 0
  KindSaid kind gaps weight picture ticket key =
      entry_said
      (Some (if eqb kind read_kind
      then of_form (gaps && picture && ticket) (Read k w)
      else if eqb kind update_kind
      then of_form (gaps && picture && ticket) (Update k w)
      else if eqb kind fill_kind
      then of_form (gaps && weight) (Fill k place brought)
      else if eqb kind age_kind
      then of_form (gaps && weight && picture && key && ticket) Age
      else of_form (eqb kind withdraw_kind && gaps && weight && picture && ticket) (Withdraw k)))
      ≡ (if leb 1 kind
      && leb kind 5
      && gaps
      && (leb kind 2 || weight)
      && (eqb kind 3 || picture)
      && (eqb kind 3 || ticket)
      && (leb kind 3 || eqb kind 5 || key)
      then said (some kind) (if leb kind 2
      then k ∷ w ∷ []
      else if eqb kind 3 then k ∷ place ∷ brought ∷ [] else if eqb kind 5 then k ∷ [] else [])
      else refusal 7)

  read_said_lem : (gaps weight picture ticket key : Bool) → KindSaid 1 gaps weight picture ticket key
  unfolding entry_said of_form number
  read_said_lem false weight picture ticket key = refl
  read_said_lem true weight false ticket key = refl
  read_said_lem true weight true false key = refl
  read_said_lem true weight true true key = refl

  update_said : (gaps weight picture ticket key : Bool) → KindSaid 2 gaps weight picture ticket key
  unfolding entry_said of_form number
  update_said false weight picture ticket key = refl
  update_said true weight false ticket key = refl
  update_said true weight true false key = refl
  update_said true weight true true key = refl

  fill_said : (gaps weight picture ticket key : Bool) → KindSaid 3 gaps weight picture ticket key
  unfolding entry_said of_form number
  fill_said false weight picture ticket key = refl
  fill_said true false picture ticket key = refl
  fill_said true true picture ticket key = refl

  age_said : (gaps weight picture ticket key : Bool) → KindSaid 4 gaps weight picture ticket key
  unfolding entry_said of_form number
  age_said false weight picture ticket key = refl
  age_said true false picture ticket key = refl
  age_said true true false ticket key = refl
  age_said true true true false false = refl
  age_said true true true false true = refl
  age_said true true true true false = refl
  age_said true true true true true = refl

  withdraw_said : (gaps weight picture ticket key : Bool) → KindSaid 5 gaps weight picture ticket key
  unfolding entry_said of_form number
  withdraw_said false weight picture ticket key = refl
  withdraw_said true false picture ticket key = refl
  withdraw_said true true false ticket key = refl
  withdraw_said true true true false key = refl
  withdraw_said true true true true key = refl

  other_said : (kind : ℕ) (gaps weight picture ticket key : Bool) → 5 < kind → KindSaid kind gaps weight picture ticket key
  unfolding entry_said of_form number
  other_said kind gaps weight picture ticket key over =
      rw (
        ne_eqb kind 1 (omega arith),
        ne_eqb kind 2 (omega arith),
        ne_eqb kind 3 (omega arith),
        ne_eqb kind 4 (omega arith),
        ne_eqb kind 5 (omega arith),
        le-leb 1 kind (omega arith),
        lt-leb kind 5 over,
      )

  kind_said : (kind : ℕ) (gaps weight picture ticket key : Bool) → KindSaid kind gaps weight picture ticket key
  unfolding entry_said of_form number
  kind_said zero gaps weight picture ticket key = refl
  kind_said (suc zero) gaps weight picture ticket key = read_said_lem gaps weight picture ticket key
  kind_said (suc (suc zero)) gaps weight picture ticket key = update_said gaps weight picture ticket key
  kind_said (suc (suc (suc zero))) gaps weight picture ticket key = fill_said gaps weight picture ticket key
  kind_said (suc (suc (suc (suc zero)))) gaps weight picture ticket key = age_said gaps weight picture ticket key
  kind_said (suc (suc (suc (suc (suc zero))))) gaps weight picture ticket key = withdraw_said gaps weight picture ticket key
  kind_said (suc (suc (suc (suc (suc (suc n)))))) gaps weight picture ticket key =
      other_said (suc (suc (suc (suc (suc (suc n)))))) gaps weight picture ticket key (omega arith)

pub entry_said_lem : (j : List ℕ) (at : ℕ) → entry_said (entry_at j at).entry ≡ said_at j at
unfolding entry_at decoded whole_entry said_at form_good form_values entry_said number
entry_said_lem j at = go (leb (length j) at) (ltb (length j - at) entry_size)
  where
    go : (none_left few : Bool) →
        entry_said (if none_left then decoded None at else if few then decoded (Some (Err ShortEnd)) at else decoded (Some (whole_entry j at)) (at + entry_size)).entry
        ≡ (if none_left
        then said none []
        else if few
        then refusal 8
        else if form_good j at then said (some (kind_at j at)) (form_values j at) else refusal 7)
    go true few = refl
    go false true = refl
    go false false =
        kind_said (key_at j at) (weight_at j at) (picture_place at) (ticket_at j at) (kind_at j at)
        (gaps_zero j at) (weight_zero j at) (picture_zero j at) (ticket_zero j at) (key_zero j at)

-- ---- who may have a ticket
-- | the journal keeps a fill's ticket in bytes 80 to 87, zero otherwise (document 02)
module _ (j : List ℕ) (at : ℕ) where
  ticket_byte : (i : ℕ) → i < number_size → get_or j (at + 80 + i) 0 ≤ ticket_at j at
  unfolding ticket_at get64
  ticket_byte zero few =
      let same : get_or j (at + 80 + 0) 0 ≡ get_or j (at + 80) 0 = ap (λ x. get_or j x 0) (omega arith) in omega arith
  ticket_byte (suc zero) few = omega arith
  ticket_byte (suc (suc zero)) few = omega arith
  ticket_byte (suc (suc (suc zero))) few = omega arith
  ticket_byte (suc (suc (suc (suc zero)))) few = omega arith
  ticket_byte (suc (suc (suc (suc (suc zero))))) few = omega arith
  ticket_byte (suc (suc (suc (suc (suc (suc zero)))))) few = omega arith
  ticket_byte (suc (suc (suc (suc (suc (suc (suc zero))))))) few = omega arith
  ticket_byte (suc (suc (suc (suc (suc (suc (suc (suc i)))))))) few = absurd (omega arith)

  not_ticket_zero : (i : ℕ) → i < number_size → get_or j (at + 80 + i) 0 ≢ 0 → ticket_zero j at ≡ false
  unfolding ticket_zero
  not_ticket_zero i few some_byte =
      let below = ticket_byte i few in ne_eqb (ticket_at j at) 0 (λ e. some_byte (omega arith))

  -- any of them that is not 0 makes a record that is no fill one of unknown form
  pub ticket_of_fills : (i : ℕ) → kind_at j at ≢ fill_kind → i < number_size → get_or j (at + 80 + i) 0 ≢ 0 →
      whole_entry j at ≡ Err UnknownForm
  unfolding whole_entry of_form
  ticket_of_fills i other few some_byte =
      rw (ne_eqb (kind_at j at) fill_kind other, not_ticket_zero i few some_byte)
      (simp and-false (kinds (eqb (kind_at j at) read_kind) (eqb (kind_at j at) update_kind) (eqb (kind_at j at) age_kind)))
    where
      kinds : (read update age : Bool) →
          ◌≡◌ {A = Result Entry Refusal}
          (if read
          then Err UnknownForm
          else if update then Err UnknownForm else if age then Err UnknownForm else Err UnknownForm)
          (Err UnknownForm)
      kinds true update age = refl
      kinds false true age = refl
      kinds false false true = refl
      kinds false false false = refl
