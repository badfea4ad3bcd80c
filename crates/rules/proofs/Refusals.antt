-- A refused call leaves every byte and number that it was lent, and a call's number alone tells whether it was refused: each call's
-- own laws, over its outcome, and what becomes of them where a C host makes the call. Assumes nothing.
use Prim.Native.Nat.{ℕ, ◌+◌, ◌≤◌, ◌<◌}
use mathlib.Core.Path.{◌≡◌, refl, sym}
use mathlib.Core.Bool.{Bool, true, false, true≢false}
use mathlib.Core.List.{List, [], ◌∷◌}
use native.Mathlib.Omega.{arith}
use borrow.Author.Tests.{lt-ltb, le-ltb, eqb-true}
use lib.ListN.{length}
use lib.Dec.{eqb}
use Rattle.rules.specs.Answers.{Completion}
use Rattle.std.specs.Prelude.{Ok, Err}
use Rattle.rules.specs.Pass.{Found}
use Rattle.std.specs.Prelude.{Some, None}
use Rattle.rules.specs.declared.Refusal.{Refusal}
use Rattle.rules.specs.declared.Refusal.TheVariants.{WrongSizes, WrongWeight, NotInOrder, WrongPicture, NoLine, AlreadyFilled, UnknownForm, ShortEnd, StaleTicket, SerialSpent, DoubledPosition, WrongRing, WrongEpoch}
use Rattle.rules.specs.Refusals.{number}
use Rattle.rules.specs.declared.Lookup.{Lookup}
use Rattle.rules.specs.declared.Lookup.TheVariants.{Untracked, Unlined, Lined}
use Rattle.rules.specs.declared.Answer.TheVariants.{Aged, Changed, Unknown, Stored, Passed, Withdrawn, Hit, Wanted}
use Rattle.rules.specs.Bytes.{gauge_size}
use Rattle.std.specs.Prelude.{if◌then◌else◌}
use Rattle.rules.specs.Table.{Memory, lookup, places, size}
use Rattle.rules.specs.Answers.{is_refused, answer_number, number_of, values_of, Told, Reply}
use Rattle.rules.specs.Steps.{Outcome, outcome, age_steps, admission, place, read_counted, warm_steps, peek_steps, read_steps, change, update_steps, store_in, store, fill_steps, withdraw, withdraw_steps, decay_for, grown}
use Rattle.rules.specs.Calls.{unless, leaving, HostMemory, held, stored, gauge_test, verdict, hosted, HostRead, read_lent, number_test, put_ticket, hosted_read, plain_verdict, read_verdict, update_verdict, fill_verdict, withdraw_verdict, withdraw_outcome, age_outcome, read_outcome, update_outcome, fill_outcome}
use Rattle.rules.proofs.Searches.{clash}
use Rattle.rules.proofs.Verdicts.{first_passes, refused_leaves}
use Rattle.rules.proofs.Peek.{read_either}

-- ---- no step of a read, an update, a withdrawal or an aging refuses
place_answers : (m : Memory) (key w : ℕ) (x y z : Found) → is_refused (place m key w x y z).answer ≡ false
unfolding place admission is_refused
place_answers m key w (Some (i, r)) y z = refl
place_answers m key w None (Some (i, r)) z = refl
place_answers m key w None None (Some (i, r)) = refl
place_answers m key w None None None = refl

read_steps_answer : (m : Memory) (key w : ℕ) → is_refused (read_steps m key w).answer ≡ false
unfolding peek_steps warm_steps read_counted is_refused
read_steps_answer m key w =
    read_either m key w (λ (o : Outcome Reply Memory). is_refused o.answer ≡ false)
    (λ _. refl)
    (λ _. place_answers (grown w (decay_for w m)) key w _ _ _)

change_answers : (m : Memory) (w : ℕ) (x : Found) → is_refused (change m w x).answer ≡ false
unfolding change is_refused
change_answers m w None = refl
change_answers m w (Some (i, r)) = refl

update_steps_answer : (m : Memory) (key w : ℕ) → is_refused (update_steps m key w).answer ≡ false
unfolding update_steps
update_steps_answer m key w = change_answers m w _

withdraw_answers : (m : Memory) (x : Found) → is_refused (withdraw m x).answer ≡ false
unfolding withdraw is_refused
withdraw_answers m None = refl
withdraw_answers m (Some (i, r)) = refl

-- a fill that its steps refuse has written nothing
store_leaves : (m : Memory) (picture : List ℕ) (ticket : ℕ) (l : Lookup) → is_refused (store m picture ticket l).answer ≡ true →
    (store m picture ticket l).after ≡ m
unfolding store store_in is_refused
store_leaves m picture ticket Untracked e = refl
store_leaves m picture ticket Unlined e = refl
store_leaves m picture ticket (Lined i n true given) e = refl
store_leaves m picture ticket (Lined i n false given) e = go (eqb ticket given) e
  where
    brought : Bool → Outcome Reply Memory
    brought same = if same then store_in m i n picture else outcome (Err StaleTicket) m

    go : (same : Bool) → is_refused (brought same).answer ≡ true → (brought same).after ≡ m
    go true e = absurd (true≢false (sym e))
    go false e = refl

-- ---- a refused call leaves all
module _ (m : Memory) where
  pub read_leaves : (key w : ℕ) → is_refused (read_outcome m key w).answer ≡ true → (read_outcome m key w).after ≡ m
  unfolding read_outcome
  read_leaves key w =
      refused_leaves m (read_steps m key w) (read_verdict m w) (λ e. clash e (read_steps_answer m key w))

  pub update_leaves : (key w : ℕ) → is_refused (update_outcome m key w).answer ≡ true → (update_outcome m key w).after ≡ m
  unfolding update_outcome
  update_leaves key w =
      refused_leaves m (update_steps m key w) (update_verdict m w) (λ e. clash e (update_steps_answer m key w))

  pub fill_leaves : (key : ℕ) (picture : List ℕ) (ticket : ℕ) → is_refused (fill_outcome m key picture ticket).answer ≡ true →
      (fill_outcome m key picture ticket).after ≡ m
  unfolding fill_outcome fill_steps
  fill_leaves key picture ticket =
      refused_leaves m (fill_steps m key picture ticket) (fill_verdict m picture)
      (store_leaves m picture ticket (lookup (places m) (size m) key))

  pub withdraw_leaves : (key : ℕ) → is_refused (withdraw_outcome m key).answer ≡ true → (withdraw_outcome m key).after ≡ m
  unfolding withdraw_outcome withdraw_steps
  withdraw_leaves key =
      refused_leaves m (withdraw_steps m key) (withdraw_verdict m) (λ e. clash e (withdraw_answers m _))

  pub age_leaves : is_refused (age_outcome m).answer ≡ true → (age_outcome m).after ≡ m
  unfolding age_outcome age_steps is_refused
  age_leaves = refused_leaves m (age_steps m) (plain_verdict m) (λ e. clash e refl)

-- ---- a refusal's number
pub number_few : (cause : Refusal) → number cause < 100
unfolding number
number_few WrongSizes = omega arith
number_few WrongWeight = omega arith
number_few NotInOrder = omega arith
number_few WrongPicture = omega arith
number_few NoLine = omega arith
number_few AlreadyFilled = omega arith
number_few UnknownForm = omega arith
number_few ShortEnd = omega arith
number_few StaleTicket = omega arith
number_few SerialSpent = omega arith
number_few DoubledPosition = omega arith
number_few WrongRing = omega arith
number_few WrongEpoch = omega arith

-- 0 is none: a host is told it for done
pub number_some : (cause : Refusal) → 1 ≤ number cause
unfolding number
number_some WrongSizes = omega arith
number_some WrongWeight = omega arith
number_some NotInOrder = omega arith
number_some WrongPicture = omega arith
number_some NoLine = omega arith
number_some AlreadyFilled = omega arith
number_some UnknownForm = omega arith
number_some ShortEnd = omega arith
number_some StaleTicket = omega arith
number_some SerialSpent = omega arith
number_some DoubledPosition = omega arith
number_some WrongRing = omega arith
number_some WrongEpoch = omega arith

-- | a refusal's own
pub every_told : (a : Reply) → Told a
unfolding number_of answer_number is_refused
every_told (Ok Aged) = refl
every_told (Ok Changed) = refl
every_told (Ok Unknown) = refl
every_told (Ok Stored) = refl
every_told (Ok Passed) = refl
every_told (Ok Withdrawn) = refl
every_told (Ok (Hit n)) = le-ltb (2000 + n) 100 (omega arith)
every_told (Ok (Wanted n ticket)) = le-ltb (4000 + n) 100 (omega arith)
every_told (Err cause) = lt-ltb (number cause) 100 (number_few cause)

-- ---- by a C host
module _ (call : Memory → Outcome Reply Memory) (h : HostMemory) where
  abbrev host_given : Outcome Reply HostMemory
  host_given = outcome (call (held h)).answer (stored h (call (held h)).after)

  -- what is seen of a host's memory stays where the call leaves what it holds, if putting the gauge back as it was read leaves it
  pub hosted_keeps : {A : Type 0} (seen : HostMemory → A) →
      (verdict (gauge_test h ∷ []) ≡ Ok tt → (call (held h)).after ≡ held h) →
      (length h.gauge ≡ gauge_size → seen (stored h (held h)) ≡ seen h) →
      seen (hosted call h).after ≡ seen h
  unfolding hosted gauge_test unless
  hosted_keeps seen keeps put = go (verdict (gauge_test h ∷ [])) refl
    where
      go : (v : Completion) → verdict (gauge_test h ∷ []) ≡ v → seen (unless v (leaving h) host_given).after ≡ seen h
      go (Ok u) v = rw (keeps v) (put (eqb-true (length h.gauge) gauge_size (first_passes _ _ v).0))
      go (Err n) v = refl

  -- and so where it is refused
  pub hosted_leaves : {A : Type 0} (seen : HostMemory → A) →
      (is_refused (call (held h)).answer ≡ true → (call (held h)).after ≡ held h) →
      (length h.gauge ≡ gauge_size → seen (stored h (held h)) ≡ seen h) →
      is_refused (hosted call h).answer ≡ true → seen (hosted call h).after ≡ seen h
  unfolding hosted unless
  hosted_leaves seen leaves put e = hosted_keeps seen (λ v. leaves (rw v at e)) put

-- ---- a read by a C host
-- | and otherwise stay
pub ticket_stays : (bytes : List ℕ) (a : Reply) → values_of a ≡ [] → put_ticket bytes a ≡ bytes
unfolding put_ticket values_of
ticket_stays bytes (Ok Aged) e = refl
ticket_stays bytes (Ok Changed) e = refl
ticket_stays bytes (Ok Unknown) e = refl
ticket_stays bytes (Ok Stored) e = refl
ticket_stays bytes (Ok Passed) e = refl
ticket_stays bytes (Ok Withdrawn) e = refl
ticket_stays bytes (Ok (Hit n)) e = refl
ticket_stays bytes (Ok (Wanted n ticket)) e = let z : ◌≡◌ {A = ℕ} 0 1 = cc in absurd (omega arith)
ticket_stays bytes (Err cause) e = refl

-- a refused answer brings none
refused_brings_none : (a : Reply) → is_refused a ≡ true → values_of a ≡ []
unfolding is_refused values_of
refused_brings_none (Ok a) e = absurd (true≢false (sym e))
refused_brings_none (Err cause) e = refl

module _ (call : Memory → Outcome Reply Memory) (h : HostRead) where
  abbrev pub read_given : Outcome Reply HostRead
  read_given =
      outcome (hosted call h.memory).answer
      (read_lent (hosted call h.memory).after (put_ticket h.ticket (hosted call h.memory).answer))

  -- it is refused for the length of the ticket's bytes, or it is the host's call
  read_hosted_either : (P : Outcome Reply HostRead → Type 0) → ((n : Refusal) → P (leaving h n)) → P read_given → P (hosted_read call h)
  unfolding hosted_read unless
  read_hosted_either P refused given = go (verdict (number_test h.ticket ∷ []))
    where
      go : (v : Completion) → P (unless v (leaving h) read_given)
      go (Ok u) = given
      go (Err n) = refused n

  -- where it leaves the memory, all that it may write is the ticket of a wanted
  pub read_hosted_puts : (hosted call h.memory).after ≡ h.memory →
      (hosted_read call h).after ≡ read_lent h.memory (put_ticket h.ticket (hosted_read call h).answer)
  unfolding put_ticket
  read_hosted_puts keeps =
      read_hosted_either (λ (o : Outcome Reply HostRead). o.after ≡ read_lent h.memory (put_ticket h.ticket o.answer))
      (λ n. refl) (rw keeps)

  pub read_hosted_leaves : {A : Type 0} (seen : HostMemory → A) →
      (is_refused (call (held h.memory)).answer ≡ true → (call (held h.memory)).after ≡ held h.memory) →
      (length h.memory.gauge ≡ gauge_size → seen (stored h.memory (held h.memory)) ≡ seen h.memory) →
      is_refused (hosted_read call h).answer ≡ true →
      (seen (hosted_read call h).after.memory ≡ seen h.memory) × ((hosted_read call h).after.ticket ≡ h.ticket)
  read_hosted_leaves seen leaves put =
      read_hosted_either
      (λ (o : Outcome Reply HostRead).
      is_refused o.answer ≡ true → (seen o.after.memory ≡ seen h.memory) × (o.after.ticket ≡ h.ticket))
      (λ n e. (refl, refl))
      (λ e. (hosted_leaves call h.memory seen leaves put e, ticket_stays h.ticket _ (refused_brings_none _ e)))
