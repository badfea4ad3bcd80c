-- A fill that brings the ticket of a fetch which an update or a withdrawal of its class overtook is refused: a ticket that a read tells
-- has been given by then, and either, once accepted, makes all that the class has been given stale. Assumes nothing.
use Prim.Native.Nat.{ℕ, ◌+◌, ◌≤◌, ◌<◌, ◌^◌}
use mathlib.Core.Path.{◌≡◌, refl, sym, ◌∙◌, ap}
use mathlib.Core.Bool.{Bool, true, false, true≢false}
use mathlib.Core.List.{[], ◌∷◌}
use mathlib.Core.Option.{some}
use native.Mathlib.Omega.{arith}
use lib.ListN.{length, get_or}
use Rattle.std.specs.Prelude.{if◌then◌else◌, Some, None, Ok, Err}
use Rattle.rules.specs.declared.Record.{Record}
use Rattle.rules.specs.declared.Answer.TheVariants.{Wanted}
use Rattle.rules.specs.Refusals.{number}
use Rattle.rules.specs.Pass.{Found}
use Rattle.rules.specs.Table.{Memory, is_lined, is_filled, line_of, key_record, places, size}
use Rattle.rules.specs.Answers.{Reply, Completion, is_refused, answer_number, number_of, values_of, Said, said, answer_said}
use Rattle.rules.specs.Steps.{outcome, read_steps, fill_steps}
use Rattle.rules.specs.Calls.{verdict, held, stored, hosted, hosted_read, read_lent, put_ticket, number_test, gauge_test, unless, leaving, read_verdict, read_outcome, fill_verdict, fill_outcome}
use Rattle.rules.specs.Numbers.{refusal, standing, read_said}
use Rattle.rules.specs.Replay.{Truth, unheard}
use Rattle.rules.specs.Bytes.{IsBytes}
use Rattle.rules.proofs.Finds.{key_found}
use Rattle.rules.proofs.Answered.{read_said_lem}
use Rattle.rules.proofs.Invariant.{Holds}
use Rattle.rules.proofs.FillHolds.{late_fill_refused}
use Rattle.rules.proofs.FreshHolds.{fresh_holds}
use Rattle.demand.specs.List.{read, Replied, answered, completed, was_refused, key_of, call_outcome, Lent, rattle, host, memory_of, host_made, made, told as told_heard, replay, stale_from}
use Rattle.demand.specs.Demand3.{OvertakenRefused, AfterEveryList}
use Rattle.demand.proofs.EveryList.{made_accepted, own_holds, list_holds}
use Rattle.demand.proofs.Since.{stale_voided}

-- a ticket that a read tells stands in its record, so that it has been given
module _ (m : Memory) (key w n ticket : ℕ) (t : Truth) (stale : ℕ → ℕ) where
  abbrev wanted : Said
  wanted = said (some (4000 + n)) (ticket ∷ [])

  stood : (a : Memory) → Holds a t stale → (x : Found) → key_record key (places a) (size a) ≡ x → wanted ≡ standing x → ticket ≤ a.gauge.serial
  unfolding standing
  stood a h None e s = absurd (omega (arith, ap (λ (s : Said). length s.values) s))
  stood a h (Some (i, r)) e s = go (is_filled r) (is_lined r) s
    where
      go : (full lined : Bool) →
          wanted
          ≡ (if full
          then said (some (2000 + line_of r)) []
          else if lined then said (some (4000 + line_of r)) (r.ticket ∷ []) else said (some 104) []) →
          ticket ≤ a.gauge.serial
      go true lined s = absurd (omega (arith, ap (λ (s : Said). length s.values) s))
      go false false s = absurd (omega (arith, ap (λ (s : Said). length s.values) s))
      go false true s =
          let found = key_found (places a) (size a) key i r e in
          omega (
            arith,
            ap (λ (s : Said). get_or s.values 0 0) s,
            ap (λ (r : Record). r.ticket) found.is,
            h.shows.ticket_most i found.inside,
          )

  told_given : IsBytes m.table → key < 2 ^ 64 → Holds (read_outcome m key w).after t stale →
      (read_outcome m key w).answer ≡ Ok (Wanted n ticket) → ticket ≤ (read_outcome m key w).after.gauge.serial
  unfolding read_outcome read_said unless answer_said number_of answer_number values_of
  told_given bytes fits h e = go (read_verdict m w) h e (ap answer_said (sym e) ∙ read_said_lem m key w bytes fits)
    where
      go : (v : Completion) → Holds (unless v (leaving m) (read_steps m key w)).after t stale →
          (unless v (leaving m) (read_steps m key w)).answer ≡ Ok (Wanted n ticket) →
          wanted
          ≡ unless v (λ cause. refusal (number cause))
          (standing (key_record key (places (read_steps m key w).after) (size (read_steps m key w).after))) →
          ticket ≤ (unless v (leaving m) (read_steps m key w)).after.gauge.serial
      go (Ok u) h e s = stood (read_steps m key w).after h _ refl s
      go (Err cause) h e s = absurd (omega (arith, ap (λ (s : Said). length s.values) s))

-- one reply, one answer
replied_is : {a b : Reply} → answered a ≡ answered b → a ≡ b
replied_is {a} e = ap reply_of e
  where
    reply_of : Replied → Reply
    reply_of (answered r) = r
    reply_of (completed c) = a

-- a host is told what a Rattle caller is
wanted_held : (lent : Lent) (key w n ticket : ℕ) → (made (read key w) lent).answer ≡ answered (Ok (Wanted n ticket)) →
    (read_outcome (memory_of lent) key w).answer ≡ Ok (Wanted n ticket)
unfolding made memory_of call_outcome host_made hosted_read hosted unless is_refused
wanted_held (rattle m) key w n ticket e = replied_is e
wanted_held (host h) key w n ticket e = whole (verdict (number_test h.ticket ∷ [])) (replied_is e)
  where
    gauged : (v : Completion) →
        (unless v (leaving h.memory) (outcome (read_outcome (held h.memory) key w).answer (stored h.memory (read_outcome (held h.memory) key w).after))).answer ≡ Ok (Wanted n ticket) →
        (read_outcome (held h.memory) key w).answer ≡ Ok (Wanted n ticket)
    gauged (Ok u) e = e
    gauged (Err cause) e = absurd (true≢false (ap is_refused e))

    whole : (v : Completion) →
        (unless v (leaving h) (outcome (hosted (λ m. read_outcome m key w) h.memory).answer
        (read_lent (hosted (λ m. read_outcome m key w) h.memory).after (put_ticket h.ticket (hosted (λ m. read_outcome m key w) h.memory).answer)))).answer ≡ Ok (Wanted n ticket) →
        (read_outcome (held h.memory) key w).answer ≡ Ok (Wanted n ticket)
    whole (Ok u) e = gauged (verdict (gauge_test h.memory ∷ [])) e
    whole (Err cause) e = absurd (true≢false (ap is_refused e))

pub overtaken_refused : AfterEveryList OvertakenRefused
unfolding fill_outcome unless is_refused call_outcome key_of
overtaken_refused m told es done lead lent end later key w n ticket picture same fits wants rest changes =
    go (fill_verdict end picture)
  where
    h : Holds told (replay (unheard (size m)) (told_heard es)) (stale_from (λ key. 0) es)
    h = list_holds (unheard (size m)) (λ key. 0) (fresh_holds m done) lead

    here : Holds (memory_of lent) (replay (unheard (size m)) (told_heard es)) (stale_from (λ key. 0) es)
    here = rw same h

    go : (v : Completion) → is_refused (unless v (leaving end) (fill_steps end key picture ticket)).answer ≡ true
    go (Ok u) =
        let k = own_holds (read key w) lent _ _ h same fits in
        let after = (made_accepted (read key w) lent _ _ here fits (ap was_refused wants)).1 in
        let given = told_given (memory_of lent) key w n ticket _ _ here.bytes fits (rw after at k) (wanted_held lent key w n ticket wants) in
        late_fill_refused end _ _ key picture ticket (list_holds _ _ k rest) (omega (arith, given, ap (λ (m : Memory). m.gauge.serial) after, stale_voided _ _ key k rest changes))
    go (Err cause) = refl
