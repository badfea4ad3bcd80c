-- The serial never falls; and the ticket of a filled line was given by the last accepted update or
-- withdrawal of its class, if any, or by a later call. Assumes nothing.
use Prim.Native.Nat.{ℕ, ◌≤◌, ◌<◌, ◌^◌}
use mathlib.Core.Path.{◌≡◌, refl, ap, ◌∙◌}
use mathlib.Core.Bool.{Bool, true, false, ◌||◌, false≢true}
use mathlib.Core.List.{List, [], ◌∷◌}
use native.Mathlib.Decide.{dec_lt}
use native.Mathlib.Omega.{arith}
use borrow.Author.Tests.{eqb-true}
use Rattle.rules.specs.declared.Gauge.{Gauge}
use Rattle.rules.specs.Table.{Memory, places, size}
use Rattle.rules.specs.Bytes.{IsBytes}
use Rattle.rules.specs.Calls.{HostMemory, held}
use Rattle.resizing.specs.Resize.{resize_outcome}
use Rattle.resizing.proofs.Keeps.{resize_gives}
use Rattle.demand.proofs.Refusals.{moving_leaves}
use Rattle.rules.specs.Replay.{Truth, unheard, make_stale}
use Rattle.rules.proofs.Changes.{at_same, at_all}
use Rattle.rules.proofs.Invariant.{Holds}
use Rattle.rules.proofs.Serials.{read_gives, update_gives, fill_gives_none, age_gives_none, withdraw_gives}
use Rattle.rules.proofs.FreshHolds.{fresh_holds, fresh_serial}
use Rattle.demand.specs.List.{Call, Fed, read, update, fill, age, withdraw, resize, was_refused, moving, fed_by, happened, key_of, call_outcome, Lent, memory_of, made, Event, event, Follows, nothing, own, into, elsewhere, target_left, accepted_stale, event_stale, stale_from, stale_up_to, call_voids, voids, voided, next_serial}
use Rattle.demand.specs.Demand3.{GivenSince, TicketsGivenSince, AfterEveryList}
use Rattle.demand.proofs.EveryList.{demand3, moving_accepted, made_accepted, refused_stays, target_stays, own_holds, into_holds}

-- ---- a call
pub serial_grows : (c : Call) (m : Memory) → IsBytes m.table → m.gauge.serial ≤ (call_outcome c m).after.gauge.serial
unfolding call_outcome
serial_grows (read key w) m bytes = (read_gives m key w).0
serial_grows (update key w) m bytes = (update_gives m key w).0
serial_grows (fill key picture ticket) m bytes = omega (arith, ap (λ (g : Gauge). g.serial) (fill_gives_none m key picture ticket))
serial_grows age m bytes = omega (arith, age_gives_none m)
serial_grows (withdraw key) m bytes = (withdraw_gives m key).0
serial_grows (resize target) m bytes = go (was_refused (moving m (resize_outcome m (held target))).answer) refl
  where
    go : (b : Bool) → was_refused (moving m (resize_outcome m (held target))).answer ≡ b →
        m.gauge.serial ≤ (moving m (resize_outcome m (held target))).after.gauge.serial
    go true e = omega (arith, ap (λ (m : Memory). m.gauge.serial) (moving_leaves m (resize_outcome m (held target)) e))
    go false e =
        let (done, after) = moving_accepted m (resize_outcome m (held target)) e in
        rw after (resize_gives m (held target) bytes done).0

-- ---- a call of a list
module _ (c : Call) (lent : Lent) (t : Truth) (stale : ℕ → ℕ) (h : Holds (memory_of lent) t stale) (fits : key_of c < 2 ^ 64) where
  refused_gives_none : was_refused (made c lent).answer ≡ true → (memory_of (made c lent).after).gauge.serial ≡ (memory_of lent).gauge.serial
  refused_gives_none e = ap (λ (m : Memory). m.gauge.serial) (refused_stays c lent t stale h e)

  own_grows : {m : Memory} → memory_of lent ≡ m → m.gauge.serial ≤ (memory_of (made c lent).after).gauge.serial
  own_grows same = omega (arith, ap (λ (m : Memory). m.gauge.serial) same, go (was_refused (made c lent).answer) refl)
    where
      go : (b : Bool) → was_refused (made c lent).answer ≡ b → (memory_of lent).gauge.serial ≤ (memory_of (made c lent).after).gauge.serial
      go true e = omega (arith, refused_gives_none e)
      go false e = rw (made_accepted c lent t stale h fits e).1 (serial_grows c (memory_of lent) h.bytes)

-- a resize into the list's memory, refused
into_serial : {m : Memory} (target : HostMemory) (lent : Lent) (t : Truth) (stale : ℕ → ℕ) → Holds m t stale → held target ≡ m →
    was_refused (made (resize target) lent).answer ≡ true → (target_left target lent).gauge.serial ≡ m.gauge.serial
into_serial target lent t stale h same e =
    ap (λ (m : Memory). m.gauge.serial) (target_stays target lent t stale (rw same h) e ∙ same)

-- ---- the list
-- what the next call finds is what the memory has
next_finds : {m end : Memory} {es : List Event} → Follows m es end → next_serial es end ≡ m.gauge.serial
unfolding next_serial
next_finds nothing = refl
next_finds (own c lent same fits rest) = refl
next_finds (into target lent same e rest) = refl
next_finds (elsewhere c lent e rest) = refl

-- ---- stale tickets
-- an accepted call leaves a class's as they are, or makes them the serial that it found
stale_either : (stale : ℕ → ℕ) (c : Fed) (serial key least : ℕ) → least ≤ serial → least ≤ stale key → least ≤ accepted_stale stale c serial key
unfolding accepted_stale make_stale
stale_either stale (read k w) serial key least low was = was
stale_either stale (update k w) serial key least low was = at_all (λ key x. least ≤ stale key → least ≤ x) k serial stale (λ _. low) key (λ _ h. h) was
stale_either stale (fill k picture ticket) serial key least low was = was
stale_either stale age serial key least low was = was
stale_either stale (withdraw k) serial key least low was = at_all (λ key x. least ≤ stale key → least ≤ x) k serial stale (λ _. low) key (λ _ h. h) was
stale_either stale (resize records) serial key least low was = was

event_either : (stale : ℕ → ℕ) (c : Fed) (refused : Bool) (serial key least : ℕ) → least ≤ serial → least ≤ stale key →
    least ≤ event_stale stale (happened c refused serial) key
unfolding event_stale
event_either stale c true serial key least low was = was
event_either stale c false serial key least low was = stale_either stale c serial key least low was

-- an update or a withdrawal makes them that
event_voids : (stale : ℕ → ℕ) (c : Fed) (refused : Bool) (serial key : ℕ) → voids key (happened c refused serial) ≡ true →
    event_stale stale (happened c refused serial) key ≡ serial
unfolding event_stale voids call_voids accepted_stale make_stale
event_voids stale c true serial key e = absurd (false≢true e)
event_voids stale (read k w) false serial key e = absurd (false≢true e)
event_voids stale (update k w) false serial key e = rw (eqb-true k key e) (at_same key serial stale)
event_voids stale (fill k picture ticket) false serial key e = absurd (false≢true e)
event_voids stale age false serial key e = absurd (false≢true e)
event_voids stale (withdraw k) false serial key e = rw (eqb-true k key e) (at_same key serial stale)
event_voids stale (resize records) false serial key e = absurd (false≢true e)

-- in a list they never fall below what they were, and are no less than the serial at the start once they are made void
stale_stays : {m end : Memory} {es : List Event} (t : Truth) (stale : ℕ → ℕ) (key least : ℕ) → Holds m t stale → Follows m es end →
    least ≤ m.gauge.serial → least ≤ stale key → least ≤ stale_from stale es key
unfolding stale_from event_stale
stale_stays t stale key least h nothing low was = was
stale_stays {m} t stale key least h (own c lent same fits rest) low was =
    let k : Holds (memory_of lent) t stale = rw same h in
    let grows = own_grows c lent t stale k (omega arith) same in
    stale_stays _ _ key least (own_holds c lent t stale h same (omega arith)) rest (omega arith)
    (event_either stale (fed_by c) (was_refused (made c lent).answer) m.gauge.serial key least low was)
stale_stays t stale key least h (into target lent same e rest) low was =
    stale_stays t _ key least (into_holds target lent t stale h same e) rest (omega (arith, into_serial target lent t stale h same e)) was
stale_stays {m} t stale key least h (elsewhere c lent e rest) low was = stale_stays t _ key least h rest low was

pub stale_voided : {m end : Memory} {es : List Event} (t : Truth) (stale : ℕ → ℕ) (key : ℕ) → Holds m t stale → Follows m es end →
    voided key es ≡ true → m.gauge.serial ≤ stale_from stale es key
unfolding stale_from voided event_stale voids
stale_voided t stale key h nothing e = absurd (false≢true e)
stale_voided {m} t stale key h (own {es = es} c lent same fits rest) e =
    go (voids key (event c (was_refused (made c lent).answer) m)) refl
    (λ later. stale_voided _ _ key (own_holds c lent t stale h same (omega arith)) rest later) e
  where
    k : Holds (memory_of lent) t stale
    k = rw same h

    grows : m.gauge.serial ≤ (memory_of (made c lent).after).gauge.serial
    grows = own_grows c lent t stale k (omega arith) same

    -- it is here, or later
    go : (b : Bool) → voids key (event c (was_refused (made c lent).answer) m) ≡ b →
        (voided key es ≡ true →
        (memory_of (made c lent).after).gauge.serial ≤ stale_from (event_stale stale (event c (was_refused (made c lent).answer) m)) es key) →
        (b || voided key es) ≡ true →
        m.gauge.serial ≤ stale_from (event_stale stale (event c (was_refused (made c lent).answer) m)) es key
    go true u later e =
        stale_stays _ _ key m.gauge.serial (own_holds c lent t stale h same (omega arith)) rest grows
        (omega (arith, event_voids stale (fed_by c) (was_refused (made c lent).answer) m.gauge.serial key u))
    go false u later e = omega (arith, grows, later e)
stale_voided t stale key h (into target lent same refused rest) e =
    omega (arith, into_serial target lent t stale h same refused, stale_voided t stale key (into_holds target lent t stale h same refused) rest e)
stale_voided t stale key h (elsewhere c lent refused rest) e = stale_voided t stale key h rest e

-- ---- who gave a ticket
-- a call that is before
before : {es : List Event} {end : Memory} {key ticket : ℕ} (e : Event) → GivenSince es end key ticket → GivenSince (e ∷ es) end key ticket
before e g =
    record {
      before = e ∷ g.before;
      giver = g.giver;
      later = g.later;
      whole = ap (λ (es : List Event). e ∷ es) g.whole;
      accepted = g.accepted;
      given = g.given;
      none_later = g.none_later;
    }

-- a ticket over the serial at the start, up to that at the end, and not stale at the end
gave : {m end : Memory} {es : List Event} (t : Truth) (stale : ℕ → ℕ) (key ticket : ℕ) → Holds m t stale → Follows m es end →
    m.gauge.serial < ticket → ticket ≤ end.gauge.serial → stale_from stale es key < ticket → GivenSince es end key ticket
unfolding stale_from event_stale
gave t stale key ticket h nothing over most fresh = absurd (omega arith)
gave {m} {end} t stale key ticket h (own {es = es} c lent same fits rest) over most fresh =
    elim (dec_lt (memory_of (made c lent).after).gauge.serial ticket) [
      | yes still ↦
          before (event c (was_refused (made c lent).answer) m)
          (gave _ _ key ticket (own_holds c lent t stale h same (omega arith)) rest still most fresh)
      | no given ↦
          record {
            before = [];
            giver = event c (was_refused (made c lent).answer) m;
            later = es;
            whole = refl;
            accepted = not_refused (was_refused (made c lent).answer) refl (omega arith);
            given = (over, omega (arith, next_finds rest));
            none_later = not_voided (voided key es) refl (omega arith);
          }
    ]
  where
    k : Holds (memory_of lent) t stale
    k = rw same h

    -- a refused call gives none
    not_refused : (b : Bool) → was_refused (made c lent).answer ≡ b → ticket ≤ (memory_of (made c lent).after).gauge.serial → b ≡ false
    not_refused true e reached =
        absurd (omega (arith, ap (λ (m : Memory). m.gauge.serial) same, refused_gives_none c lent t stale k (omega arith) e))
    not_refused false e reached = refl

    -- a later update or withdrawal would have made the ticket stale
    not_voided : (b : Bool) → voided key es ≡ b → ticket ≤ (memory_of (made c lent).after).gauge.serial → b ≡ false
    not_voided true e reached = absurd (omega (arith, stale_voided _ _ key (own_holds c lent t stale h same (omega arith)) rest e))
    not_voided false e reached = refl
gave {m} t stale key ticket h (into target lent same e rest) over most fresh =
    before (event (resize target) true m)
    (gave t stale key ticket (into_holds target lent t stale h same e) rest (omega (arith, over, into_serial target lent t stale h same e)) most
    fresh)
gave {m} t stale key ticket h (elsewhere c lent e rest) over most fresh = before (event c true m) (gave t stale key ticket h rest over most fresh)

-- | a filled line shows a picture whose ticket was given by the last accepted update of its class, if any, or after it
pub given_since : AfterEveryList TicketsGivenSince
unfolding stale_up_to
given_since m end es done follows i line inside filled =
    let (since, most) = (demand3 m end es done follows).current i line inside filled in
    gave (unheard (size m)) (λ key. 0) (places end i).key (places end i).ticket (fresh_holds m done) follows
    (omega (arith, fresh_serial m done, since)) (omega (arith, most)) (omega (arith, since))
