-- Demand 3, its levelled bound, that the table stays in order, and that heavy hitters are tracked: what holds of a fresh memory is kept
-- by every call of a list, refused or accepted, of a Rattle caller or a C host. Assumes nothing.
use Prim.Native.Nat.{ℕ, ◌*◌, ◌≤◌, ◌<◌, ◌^◌}
use mathlib.Core.Path.{◌≡◌, refl, ap}
use mathlib.Core.Bool.{Bool, true, false, true≢false, false≢true}
use mathlib.Core.List.{List, [], ◌∷◌}
use native.Mathlib.Nat.{le-max_right, mul-le-mul_left}
use native.Mathlib.Omega.{arith}
use borrow.Author.Tests.{ltb-true, eqb-true}
use lib.ListN.{length, replicate}
use Rattle.std.specs.Prelude.{Ok}
use Rattle.rules.specs.declared.Refusal.{Refusal}
use Rattle.rules.specs.Answers.{Completion, Reply}
use Rattle.std.specs.Prelude.{Ok, Err}
use Rattle.rules.specs.Bytes.{record_size, gauge_size}
use Rattle.std.specs.Prelude.{if◌then◌else◌}
use Rattle.rules.specs.Table.{Memory, is_tracked, is_unlined, is_lined, filled_state, places, size, line_total}
use Rattle.rules.specs.Answers.{is_refused}
use Rattle.rules.specs.Steps.{Outcome, outcome, level, levelled_sum, age_steps, read_steps, update_steps, fill_steps, withdraw_steps}
use Rattle.rules.specs.Calls.{OfSizes, HostMemory, HostRead, host_lent, read_lent, put_ticket, number_test, held, hosted, hosted_read, stored, gauge_test, sizes_test, order_test, order_good, verdict, unless, leaving, plain_verdict, read_verdict, update_verdict, fill_verdict, withdraw_verdict, age_outcome, read_outcome, update_outcome, fill_outcome, withdraw_outcome, fresh_outcome, exported_fresh}
use Rattle.rules.specs.Replay.{Truth, unheard}
use Rattle.rules.proofs.Places.{gauge_same}
use Rattle.rules.specs.Pass.{count_where}
use Rattle.rules.proofs.Chosen.{where_all, count_all, larger}
use Rattle.resizing.specs.Resize.{resize_outcome, hosted_resize}
use Rattle.resizing.proofs.Accepting.{done_verdict}
use Rattle.resizing.proofs.Goes.{count_none}
use Rattle.resizing.proofs.Refusals.{resize_leaves, hosted_resize_seen}
use Rattle.resizing.proofs.ResizeHolds.{resize_holds}
use Rattle.rules.proofs.Finds.{key_missing}
use Rattle.rules.proofs.InOrder.{tracks_in_order}
use Rattle.rules.proofs.Invariant.{Holds}
use Rattle.rules.proofs.Verdicts.{first_passes, read_accepted, update_accepted, fill_accepted, withdraw_accepted, accepted_verdict}
use Rattle.rules.proofs.FreshHolds.{fresh_holds, size_of, fresh_accepts, zeroed_is_fresh}
use Rattle.rules.proofs.HostCalls.{host_starts}
use Rattle.rules.proofs.CallsHold.{age_holds}
use Rattle.rules.proofs.ReadHolds.{read_holds}
use Rattle.rules.proofs.UpdateHolds.{update_holds}
use Rattle.rules.proofs.FillHolds.{fill_holds, late_fill_refused}
use Rattle.rules.proofs.WithdrawHolds.{withdraw_holds}
use Rattle.demand.specs.List.{read, update, fill, age, withdraw, resize, Call, was_refused, moving, fed_by, key_of, call_outcome, Lent, rattle, host, memory_of, host_made, made, heard, Event, event, told, Follows, nothing, own, into, elsewhere, target_left, completed, accepted_truth, heard_truth, replay, accepted_stale, event_stale, stale_from, stale_up_to}
use Rattle.demand.specs.Demand3.{Demand3, LevelledBound, StaysInOrder, HeavyHittersTracked, LateFillsRefused, AfterEveryList}
use Rattle.demand.proofs.Refusals.{refused_leaves_all, host_leaves}

-- ---- an accepted call
-- of a resize the target, which the list goes on from
pub moving_accepted : {Lent : Type 0} (source : Lent) (o : Outcome Completion Lent) → was_refused (moving source o).answer ≡ false →
    (o.answer ≡ Ok tt) × ((moving source o).after ≡ o.after)
unfolding unless
moving_accepted source o = go o.answer
  where
    go : (c : Completion) → unless c (λ cause. true) false ≡ false → (c ≡ Ok tt) × (unless c (λ cause. source) o.after ≡ o.after)
    go (Ok u) e = (refl, refl)
    go (Err cause) e = absurd (true≢false e)

call_holds : (c : Call) (m : Memory) (t : Truth) (stale : ℕ → ℕ) → Holds m t stale → key_of c < 2 ^ 64 →
    was_refused (call_outcome c m).answer ≡ false →
    Holds (call_outcome c m).after (accepted_truth t (fed_by c)) (accepted_stale stale (fed_by c) m.gauge.serial)
unfolding call_outcome key_of fed_by accepted_truth accepted_stale read_outcome update_outcome fill_outcome age_outcome withdraw_outcome unless age_steps
call_holds (read key w) m t stale h fits ok =
    let v = accepted_verdict m (read_steps m key w) (read_verdict m w) ok in
    let a = read_accepted m w v in
    rw v (read_holds m t stale key w h a.good (omega arith) a.serial)
call_holds (update key w) m t stale h fits ok =
    let v = accepted_verdict m (update_steps m key w) (update_verdict m w) ok in
    rw v (update_holds m t stale key w h (update_accepted m w v).serial)
call_holds (fill key picture ticket) m t stale h fits ok =
    let v = accepted_verdict m (fill_steps m key picture ticket) (fill_verdict m picture) ok in
    rw v (fill_holds m t stale key picture ticket h (fill_accepted m picture v).good (rw v at ok))
call_holds age m t stale h fits ok =
    let v = accepted_verdict m (age_steps m) (plain_verdict m) ok in
    rw v (age_holds m t stale h)
call_holds (withdraw key) m t stale h fits ok =
    let v = accepted_verdict m (withdraw_steps m key) (withdraw_verdict m) ok in
    rw v (withdraw_holds m t stale key h (withdraw_accepted m v))
call_holds (resize target) m t stale h fits ok =
    let (done, after) = moving_accepted m (resize_outcome m (held target)) ok in
    rw after (resize_holds m (held target) t stale h done)

-- what is stored into a host's memory is held there
held_stored : (h : HostMemory) (m : Memory) (t : Truth) (stale : ℕ → ℕ) → Holds m t stale → length h.gauge ≡ gauge_size →
    held (stored h m) ≡ m
unfolding held stored
held_stored h m t stale k whole =
    let total = k.tracks.total_most in
    let ceiling = k.tracks.ceiling_most in
    rw (gauge_same h.gauge m.gauge whole (record { total = omega arith; ceiling = omega arith; serial = k.serial_fits }))

-- a C host's accepted call is the call on what its memory holds
hosted_accepted : (call : Memory → Outcome Reply Memory) (h : HostMemory) (t : Truth) (stale : ℕ → ℕ) →
    (is_refused (call (held h)).answer ≡ false → Holds (call (held h)).after t stale) → is_refused (hosted call h).answer ≡ false →
    (is_refused (call (held h)).answer ≡ false) × (held (hosted call h).after ≡ (call (held h)).after)
unfolding hosted unless gauge_test
hosted_accepted call h t stale holds ok =
    let o = call (held h) in
    let v = accepted_verdict h (outcome o.answer (stored h o.after)) (verdict (gauge_test h ∷ [])) ok in
    let whole : length h.gauge ≡ gauge_size = eqb-true (length h.gauge) gauge_size (first_passes _ _ v).0 in
    let accepted : is_refused o.answer ≡ false = rw v at ok in
    (accepted, rw v (held_stored h o.after t stale (holds accepted) whole))

hosted_read_accepted : (call : Memory → Outcome Reply Memory) (h : HostRead) (t : Truth) (stale : ℕ → ℕ) →
    (is_refused (call (held h.memory)).answer ≡ false → Holds (call (held h.memory)).after t stale) →
    is_refused (hosted_read call h).answer ≡ false →
    (is_refused (call (held h.memory)).answer ≡ false) × (held (hosted_read call h).after.memory ≡ (call (held h.memory)).after)
unfolding hosted_read unless
hosted_read_accepted call h t stale holds ok =
    let o = hosted call h.memory in
    let v = accepted_verdict h (outcome o.answer (read_lent o.after (put_ticket h.ticket o.answer)))
    (verdict (number_test h.ticket ∷ [])) ok in
    rw v (hosted_accepted call h.memory t stale holds (rw v at ok))

hosted_resize_accepted : (source target : HostMemory) (t : Truth) (stale : ℕ → ℕ) → Holds (held source) t stale →
    (hosted_resize source target).answer ≡ Ok tt →
    ((resize_outcome (held source) (held target)).answer ≡ Ok tt)
    × (held (hosted_resize source target).after ≡ (resize_outcome (held source) (held target)).after)
unfolding hosted_resize unless gauge_test
hosted_resize_accepted source target t stale k e =
    let o = resize_outcome (held source) (held target) in
    let v = done_verdict target (outcome o.answer (stored target o.after)) (verdict (gauge_test source ∷ gauge_test target ∷ [])) e in
    let whole : length target.gauge ≡ gauge_size =
    eqb-true (length target.gauge) gauge_size (first_passes _ _ (first_passes _ _ v).1).0 in
    let done : o.answer ≡ Ok tt = rw v at e in
    (done, rw v (held_stored target o.after _ _ (resize_holds (held source) (held target) t stale k done) whole))

-- an accepted call is the call on the list's memory, and leaves what that leaves
pub made_accepted : (c : Call) (lent : Lent) (t : Truth) (stale : ℕ → ℕ) → Holds (memory_of lent) t stale → key_of c < 2 ^ 64 →
    was_refused (made c lent).answer ≡ false →
    (was_refused (call_outcome c (memory_of lent)).answer ≡ false) × (memory_of (made c lent).after ≡ (call_outcome c (memory_of lent)).after)
unfolding made memory_of host_made call_outcome unless
made_accepted c (rattle m) t stale k fits ok = (ok, refl)
made_accepted (read key w) (host h) t stale k fits ok =
    hosted_read_accepted (λ m. read_outcome m key w) h _ _ (call_holds (read key w) (held h.memory) t stale k fits) ok
made_accepted (update key w) (host h) t stale k fits ok =
    hosted_accepted (λ m. update_outcome m key w) h.memory _ _ (call_holds (update key w) (held h.memory) t stale k fits) ok
made_accepted (fill key picture ticket) (host h) t stale k fits ok =
    hosted_accepted (λ m. fill_outcome m key picture ticket) h.memory _ _
    (call_holds (fill key picture ticket) (held h.memory) t stale k fits) ok
made_accepted age (host h) t stale k fits ok =
    hosted_accepted age_outcome h.memory _ _ (call_holds age (held h.memory) t stale k fits) ok
made_accepted (withdraw key) (host h) t stale k fits ok =
    hosted_accepted (λ m. withdraw_outcome m key) h.memory _ _ (call_holds (withdraw key) (held h.memory) t stale k fits) ok
made_accepted (resize target) (host h) t stale k fits ok =
    let (done, after) = moving_accepted h.memory (hosted_resize h.memory target) ok in
    let (accepted, left) = hosted_resize_accepted h.memory target t stale k done in
    (rw accepted refl, rw (after, accepted) left)

-- ---- a refused call that is lent the list's memory leaves it
pub refused_stays : (c : Call) (lent : Lent) (t : Truth) (stale : ℕ → ℕ) → Holds (memory_of lent) t stale → was_refused (made c lent).answer ≡ true →
    memory_of (made c lent).after ≡ memory_of lent
unfolding made memory_of
refused_stays c (rattle m) t stale k e = refused_leaves_all c m e
refused_stays c (host h) t stale k e = (host_leaves held c h (held_stored h.memory (held h.memory) t stale k) e).0

-- nor does a refused resize write into it
refusal_of : (c : Completion) → was_refused (completed c) ≡ true → (cause : Refusal) × (c ≡ Err cause)
unfolding unless
refusal_of (Ok u) e = absurd (false≢true e)
refusal_of (Err cause) e = (cause, refl)

pub target_stays : (target : HostMemory) (lent : Lent) (t : Truth) (stale : ℕ → ℕ) → Holds (held target) t stale →
    was_refused (made (resize target) lent).answer ≡ true → target_left target lent ≡ held target
unfolding made call_outcome host_made target_left
target_stays target (rattle m) t stale k e =
    let (cause, is) = refusal_of (resize_outcome m (held target)).answer e in resize_leaves m (held target) cause is
target_stays target (host h) t stale k e =
    let (cause, is) = refusal_of (hosted_resize h.memory target).answer e in
    hosted_resize_seen held h.memory target cause (held_stored target (held target) t stale k) is

pub into_holds : {m : Memory} (target : HostMemory) (lent : Lent) (t : Truth) (stale : ℕ → ℕ) → Holds m t stale → held target ≡ m →
    was_refused (made (resize target) lent).answer ≡ true → Holds (target_left target lent) t stale
into_holds target lent t stale h same e =
    let k : Holds (held target) t stale = rw same h in rw (target_stays target lent t stale k e) k

-- ---- the list
pub own_holds : {m : Memory} (c : Call) (lent : Lent) (t : Truth) (stale : ℕ → ℕ) → Holds m t stale → memory_of lent ≡ m → key_of c < 2 ^ 64 →
    Holds (memory_of (made c lent).after) (heard_truth t (heard (fed_by c) (was_refused (made c lent).answer)))
    (event_stale stale (event c (was_refused (made c lent).answer) m))
unfolding heard_truth event_stale
own_holds {m} c lent t stale h same fits =
    rw (ap (λ (m : Memory). m.gauge.serial) same) at (go (was_refused (made c lent).answer) refl)
  where
    k : Holds (memory_of lent) t stale
    k = rw same h

    go : (b : Bool) → was_refused (made c lent).answer ≡ b →
        Holds (memory_of (made c lent).after) (if b then t else accepted_truth t (fed_by c))
        (if b then stale else accepted_stale stale (fed_by c) (memory_of lent).gauge.serial)
    go true e = rw (refused_stays c lent t stale k e) k
    go false e =
        let (accepted, after) = made_accepted c lent t stale k fits e in
        rw after (call_holds c (memory_of lent) t stale k fits accepted)

pub list_holds : {m end : Memory} {es : List Event} (t : Truth) (stale : ℕ → ℕ) → Holds m t stale → Follows m es end →
    Holds end (replay t (told es)) (stale_from stale es)
unfolding told replay heard_truth stale_from event_stale
list_holds t stale h nothing = h
list_holds t stale h (own c lent same fits rest) = list_holds _ _ (own_holds c lent t stale h same (omega arith)) rest
list_holds t stale h (into target lent same e rest) = list_holds t stale (into_holds target lent t stale h same e) rest
list_holds t stale h (elsewhere c lent e rest) = list_holds t stale h rest

-- what holds after it
pub after_list : (m end : Memory) (es : List Event) → (fresh_outcome m).answer ≡ Ok tt → Follows (fresh_outcome m).after es end →
    Holds end (replay (unheard (size m)) (told es)) (stale_up_to es)
unfolding stale_up_to
after_list m end es done follows = list_holds (unheard (size m)) (λ key. 0) (fresh_holds m done) follows

-- ---- every K and C of the paper, from fresh or from a host's zeroed table and gauge
module _ (Claim : Memory → Truth → List Event → Type 0) (claim : AfterEveryList Claim) (m end : Memory) (k c : ℕ) (es : List Event)
    (sized : OfSizes m k c) where
  pub of_every_size : Follows (fresh_outcome m).after es end → Claim end (replay (unheard k) (told es)) es
  of_every_size follows = rw (size_of m k c sized) at (claim m end es (fresh_accepts m k c sized) follows)

  pub from_zeroed : Follows (held (host_lent (replicate (record_size * k) 0) (replicate gauge_size 0) m.lines)) es end →
      Claim end (replay (unheard k) (told es)) es
  from_zeroed follows = of_every_size (rw (zeroed_is_fresh m k c sized) at follows)

-- ---- from what an exported fresh leaves, where it told the host 0
pub from_host_fresh : (Claim : Memory → Truth → List Event → Type 0) → AfterEveryList Claim → (h : HostMemory) (end : Memory)
    (es : List Event) → (exported_fresh h).answer ≡ 0 → Follows (held (exported_fresh h).after) es end →
    Claim end (replay (unheard (size (held h))) (told es)) es
from_host_fresh Claim claim h end es told-zero follows =
    let starts = host_starts h told-zero in
    claim (held h) end es starts.0 (rw starts.1 at follows)

-- ---- what it says
-- some such choice of places has levels that are each at least the ceiling
product_most : (m : Memory) (t : Truth) (stale : ℕ → ℕ) → Holds m t stale → t.fewest * m.gauge.ceiling ≤ m.gauge.total
unfolding level count_where
product_most m t stale h =
    let none : count_where (λ i. false) (size m) ≡ 0 = count_none (λ (i : ℕ). false) (λ i. i) (size m) (λ i inside. refl) in
    let x = larger (λ i. false) (λ i. true) (level m.gauge.ceiling) (places m) m.gauge.ceiling (size m)
    (λ i inside e. le-max_right _ _) t.fewest (rw count_all (omega (arith, none, h.tracks.few))) in
    omega (arith, x.sum, h.tracks.levels x.choice (omega (arith, x.many, none)))

says : (m : Memory) (t : Truth) (es : List Event) → Holds m t (stale_up_to es) → Demand3 m t es
unfolding is_lined is_unlined is_tracked filled_state
says m t es h =
    let s = h.tracks in
    record {
      hottest =
          λ i j i-inside j-inside lined waits.
          omega (arith, h.hottest.hottest i j i-inside j-inside (ltb-true 1 (places m i).state lined) (eqb-true (places m j).state 1 waits));
      not_below = λ i inside tracked. omega (arith, s.not_below i inside (ltb-true 0 (places m i).state tracked));
      not_above = λ i inside tracked. omega (arith, s.not_above i inside (ltb-true 0 (places m i).state tracked));
      untracked = λ key missing. omega (arith, s.untracked key (key_missing (places m) (size m) key missing));
      few = s.few;
      product = product_most m t (stale_up_to es) h;
      levelled = s.levels;
      total = s.total;
      latest = h.shows.latest;
      current = λ i line inside e.
          (omega (arith, h.shows.since i inside (omega arith)), omega (arith, h.shows.ticket_most i inside));
    }

pub demand3 : AfterEveryList Demand3
demand3 m end es done follows = says end (replay (unheard (size m)) (told es)) es (after_list m end es done follows)

pub levelled_bound : AfterEveryList LevelledBound
unfolding levelled_sum
levelled_bound m end es done follows same =
    let h = after_list m end es done follows in
    rw where_all at (h.tracks.levels (λ i. true) (rw same (count_all (size end))))

pub stays_in_order : AfterEveryList StaysInOrder
unfolding plain_verdict verdict sizes_test order_test order_good
stays_in_order m end es done follows =
    let h = after_list m end es done follows in
    rw (h.sizes, tracks_in_order (places end) (size end) (line_total end) end.gauge (replay (unheard (size m)) (told es)) h.tracks)

pub heavy_hitters_tracked : AfterEveryList HeavyHittersTracked
heavy_hitters_tracked m end es done follows key heavy missing =
    let h = after_list m end es done follows in
    omega (
      arith,
      mul-le-mul_left (replay (unheard (size m)) (told es)).fewest (h.tracks.untracked key (key_missing (places end) (size end) key missing)),
      product_most end (replay (unheard (size m)) (told es)) (stale_up_to es) h,
    )

pub late_fills_refused : AfterEveryList LateFillsRefused
unfolding fill_outcome unless is_refused
late_fills_refused m end es done follows key picture ticket late = go (fill_verdict end picture)
  where
    go : (v : Completion) → is_refused (unless v (leaving end) (fill_steps end key picture ticket)).answer ≡ true
    go (Ok u) = late_fill_refused end _ (stale_up_to es) key picture ticket (after_list m end es done follows) late
    go (Err n) = refl
