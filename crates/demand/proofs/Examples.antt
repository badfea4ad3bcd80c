-- What keeps demand 3 from being thinned unnoticed: for each clause a memory and a truth that miss it, by one, and no other clause; and
-- that its premise is wide. Each example is run. Assumes nothing.
use Prim.Native.Nat.{ℕ, ◌+◌, ◌*◌, ◌≤◌, ◌<◌, ◌^◌, min}
use mathlib.Core.Path.{◌≡◌, refl, sym, ap}
use mathlib.Core.Bool.{Bool, true, false, ◌||◌, true≢false}
use mathlib.Core.Option.{Option, none, some}
use mathlib.Core.List.{List, [], ◌∷◌, ◌++◌}
use mathlib.Core.Logic.{◌≢◌}
use native.Mathlib.Decide.{dec_lt}
use native.Mathlib.Omega.{arith}
use lib.ListN.{get_or, replicate}
use lib.Dec.{eqb, leb, ltb}
use borrow.Author.Tests.{eq-eqb, leb-true, ltb-true, le-leb, lt-ltb}
use Rattle.rules.specs.declared.Record.{Record}
use Rattle.std.specs.Prelude.{Some, None, Ok}
use Rattle.rules.specs.Pass.{Found, sum_where}
use Rattle.rules.specs.Steps.{outcome, level, levelled_sum}
use Rattle.rules.specs.Bytes.{IsBytes, get64, put_record, line_count}
use Rattle.std.specs.Prelude.{if◌then◌else◌}
use Rattle.rules.specs.Table.{Memory, key_record, places, size, with_lines}
use Rattle.rules.specs.Answers.{Completion, is_refused, completion_number}
use Rattle.rules.specs.Calls.{plain_verdict, read_outcome, fill_outcome, fresh_outcome, HostMemory, host_lent, held, HostRead, read_lent, put_ticket, hosted_read, exported_read, exported_fresh}
use Rattle.rules.specs.Numbers.{TellsLine}
use Rattle.rules.specs.Replay.{Filled, filled_with, Truth, unheard, at, make_stale}
use Rattle.rules.specs.Sample.{gauge_of, numbers, three_records, sample_picture, host_start}
use Rattle.rules.proofs.Searches.{both}
use Rattle.rules.proofs.Changes.{at_same}
use Rattle.resizing.specs.Resize.{hosted_resize, exported_resize}
use Rattle.demand.proofs.Refusals.{told_by_number}
use Rattle.rules.proofs.Answered.{host_answered_line}
use Rattle.demand.specs.List.{completed, Call, read, update, fill, age, withdraw, resize, was_refused, number_told, call_outcome, key_of, Lent, memory_of, host_made, made, heard, Event, happened, event, told, rattle, host, Follows, nothing, own, into, elsewhere, target_left, heard_truth, replay, accepted_stale, event_stale, stale_up_to, voided, next_serial, ticket_put}
use Rattle.demand.specs.Demand3.{Demand3, LevelledBound, StaysInOrder, HeavyHittersTracked, GivenSince, TicketsGivenSince, Removed}
use Rattle.demand.specs.Sample.{sample_calls}
use Rattle.demand.proofs.Computing.{computing}
use Rattle.demand.proofs.Refusals.{refused_leaves_lent, small_number_leaves}
use Rattle.demand.proofs.SampleList.{eight_bytes}
use Rattle.demand.proofs.Peek.{peek_leaves_lent, peek_counts_nothing}
use Rattle.demand.proofs.EveryList.{demand3, levelled_bound, heavy_hitters_tracked, stays_in_order, moving_accepted, late_fills_refused, from_host_fresh}
use Rattle.demand.proofs.Since.{given_since}
use Rattle.demand.proofs.Overtaken.{overtaken_refused}
use Rattle.demand.proofs.Withdrawn.{withdrawals_leave}

-- ---- one clause missed
-- class 7 and class 8 tracked, with one line and one free record; the rest of what the examples share
abbrev two : Record → Record → ℕ → Memory
two x y ceiling = three_records x y (numbers 0 0 0 0 0) (gauge_of 20 ceiling 5) 1

-- the same two as the last of the records
abbrev last : Record → Record → Memory
last x y = three_records (numbers 0 0 0 0 0) x y (gauge_of 20 0 5) 1

-- true heats of class 7, of class 8 and of every other
abbrev heats : ℕ → ℕ → ℕ → ℕ → ℕ
heats seven eight other key = if eqb key 7 then seven else if eqb key 8 then eight else other

abbrev tracked_two : Memory
tracked_two = two (numbers 7 4 0 2 5) (numbers 8 3 0 1 0) 2

-- nothing but a resize happened, so that no ticket is stale
abbrev unstale : List Event
unstale = happened (resize 3) false 0 ∷ []

abbrev truth : ℕ → (ℕ → ℕ) → Truth
truth total heat = record { total = total; heat = heat; picture = λ key. none; fewest = 3 }

abbrev truth_since : ℕ → ℕ → Truth
truth_since fewest total = record { total = total; heat = heats 4 3 0; picture = λ key. none; fewest = fewest }

-- the first on an empty line; the second on a filled one
pub hottest_bites :
    (¬ Demand3 (two (numbers 7 3 0 2 5) (numbers 8 4 0 1 0) 0) (truth 20 (heats 3 4 0)) unstale)
    × (¬ Demand3 (last (numbers 7 3 0 2 5) (numbers 8 4 0 1 0)) (truth 20 (heats 3 4 0)) unstale)
    × (¬ Demand3 (two (numbers 7 4 0 1 0) (numbers 8 3 0 3 5) 0) (record { total = 20; heat = heats 4 3 0; picture = λ key. some (filled_with (sample_picture 170) 5); fewest = 3 }) unstale)
unfolding computing
hottest_bites = (
  λ d. let e : 4 ≤ 3 = d.hottest 0 1 (omega arith) (omega arith) refl refl in omega arith,
  λ d. let e : 4 ≤ 3 = d.hottest 1 2 (omega arith) (omega arith) refl refl in omega arith,
  λ d. let e : 4 ≤ 3 = d.hottest 1 0 (omega arith) (omega arith) refl refl in omega arith,
)

-- without a line; on one
pub not_below_bites :
    (¬ Demand3 (two (numbers 7 4 0 2 5) (numbers 8 2 0 1 0) 0) (truth 20 (heats 4 3 0)) unstale)
    × (¬ Demand3 (two (numbers 7 3 0 2 5) (numbers 8 3 0 1 0) 0) (truth 20 (heats 4 3 0)) unstale)
    × (¬ Demand3 (last (numbers 7 4 0 2 5) (numbers 8 2 0 1 0)) (truth 20 (heats 4 3 0)) unstale)
unfolding computing
not_below_bites = (
  λ d. let e : 3 ≤ 2 = d.not_below 1 (omega arith) refl in omega arith,
  λ d. let e : 4 ≤ 3 = d.not_below 0 (omega arith) refl in omega arith,
  λ d. let e : 3 ≤ 2 = d.not_below 2 (omega arith) refl in omega arith,
)

pub not_above_bites :
    (¬ Demand3 (two (numbers 7 4 0 2 5) (numbers 8 3 1 1 0) 0) (truth 20 (heats 4 1 0)) unstale)
    × (¬ Demand3 (two (numbers 7 4 1 2 5) (numbers 8 3 0 1 0) 0) (truth 20 (heats 2 3 0)) unstale)
    × (¬ Demand3 (last (numbers 7 4 0 2 5) (numbers 8 3 1 1 0)) (truth 20 (heats 4 1 0)) unstale)
unfolding computing
not_above_bites = (
  λ d. let e : 3 ≤ 1 + 1 = d.not_above 1 (omega arith) refl in omega arith,
  λ d. let e : 4 ≤ 2 + 1 = d.not_above 0 (omega arith) refl in omega arith,
  λ d. let e : 3 ≤ 1 + 1 = d.not_above 2 (omega arith) refl in omega arith,
)

-- any class, 0 too
pub untracked_bites : (key : ℕ) → key_record key (places tracked_two) (size tracked_two) ≡ None → ¬ Demand3 tracked_two (truth 20 (at key 3 (heats 4 3 0))) unstale
unfolding computing
untracked_bites key missing d = let e : at key 3 (heats 4 3 0) key ≤ 2 = d.untracked key missing in omega (arith, at_same key 3 (heats 4 3 0))

pub few_bites : ¬ Demand3 (two (numbers 7 4 0 2 5) (numbers 8 3 0 1 0) 0) (record { total = 20; heat = heats 4 3 0; picture = λ key. none; fewest = 4 }) unstale
unfolding computing
few_bites d = let e : 4 ≤ 3 = d.few in omega arith

pub product_bites : ¬ Demand3 (two (numbers 7 4 0 2 5) (numbers 8 3 0 1 0) 7) (truth 20 (heats 4 3 0)) unstale
unfolding computing
product_bites d = let e : 3 * 7 ≤ 20 = d.product in omega arith

-- two times 4, and a total of 7, where there are more records than the fewest
pub product_since_bites : ¬ Demand3 (three_records (numbers 7 4 0 2 5) (numbers 8 3 0 1 0) (numbers 0 0 0 0 0) (gauge_of 7 4 5) 1) (truth_since 2 7) unstale
unfolding computing
product_since_bites d = let e : 2 * 4 ≤ 7 = d.product in omega arith

pub total_bites : ¬ Demand3 (two (numbers 7 4 0 2 5) (numbers 8 3 0 1 0) 0) (truth 21 (heats 4 3 0)) unstale
unfolding computing
total_bites d = let e : ◌≡◌ {A = ℕ} 20 21 = d.total in omega arith

-- the first or the second of two lines is filled with bytes of 170, and its class waited with ticket 5: the class has no picture, or one
-- whose last byte is another, or one that was filled with another ticket
abbrev first_filled : ℕ → Memory
first_filled serial = three_records (numbers 7 4 0 3 5) (numbers 8 4 0 4 4) (numbers 0 0 0 0 0) (gauge_of 20 0 serial) 2

abbrev second_filled : ℕ → Memory
second_filled serial = three_records (numbers 7 4 0 2 4) (numbers 8 4 0 5 5) (numbers 0 0 0 0 0) (gauge_of 20 0 serial) 2

-- the last of the records, on the second line
abbrev last_filled : ℕ → Memory
last_filled serial = three_records (numbers 0 0 0 0 0) (numbers 7 4 0 2 4) (numbers 8 4 0 5 5) (gauge_of 20 0 serial) 2

abbrev shown : List ℕ → ℕ → Truth
shown bytes ticket = record { total = 20; heat = heats 4 4 0; picture = λ key. some (filled_with bytes ticket); fewest = 3 }

abbrev last_byte : Option Filled → ℕ
last_byte none = 256
last_byte (some p) = get_or p.bytes 63 256

abbrev ticket_of : Option Filled → ℕ
ticket_of none = 0
ticket_of (some p) = p.ticket

pub latest_bites :
    (¬ Demand3 (first_filled 5) (truth 20 (heats 4 4 0)) unstale)
    × (¬ Demand3 (second_filled 5) (shown (replicate 63 170 ++ (171 ∷ [])) 5) unstale)
    × (¬ Demand3 (first_filled 5) (shown (sample_picture 170) 6) unstale)
    × (¬ Demand3 (second_filled 5) (shown (sample_picture 170) 4) unstale)
    × (¬ Demand3 (last_filled 5) (shown (sample_picture 170) 4) unstale)
unfolding computing
latest_bites = (
  λ d. let e : ◌≡◌ {A = ℕ} 256 170 = ap last_byte (d.latest 0 0 (omega arith) refl) in omega arith,
  λ d. let e : ◌≡◌ {A = ℕ} 171 170 = ap last_byte (d.latest 1 1 (omega arith) refl) in omega arith,
  λ d. let e : ◌≡◌ {A = ℕ} 6 5 = ap ticket_of (d.latest 0 0 (omega arith) refl) in omega arith,
  λ d. let e : ◌≡◌ {A = ℕ} 4 5 = ap ticket_of (d.latest 1 1 (omega arith) refl) in omega arith,
  λ d. let e : ◌≡◌ {A = ℕ} 4 5 = ap ticket_of (d.latest 2 1 (omega arith) refl) in omega arith,
)

-- an update that found the serial 5: of the class, tracked or not, and whatever came after
abbrev at_five : List Event
at_five = happened (update 8 1) false 5 ∷ happened (update 7 1) false 5 ∷ happened (update 7 1) true 4 ∷ happened (read 7 1) false 6 ∷ []

-- ticket 5 was given before that update, or not given yet
pub current_bites :
    (¬ Demand3 (first_filled 6) (shown (sample_picture 170) 5) at_five)
    × (¬ Demand3 (second_filled 6) (shown (sample_picture 170) 5) at_five)
    × (¬ Demand3 (first_filled 4) (shown (sample_picture 170) 5) unstale)
    × (¬ Demand3 (second_filled 4) (shown (sample_picture 170) 5) unstale)
    × (¬ Demand3 (last_filled 6) (shown (sample_picture 170) 5) at_five)
    × (¬ Demand3 (last_filled 4) (shown (sample_picture 170) 5) unstale)
unfolding computing
current_bites = (
  λ d. let e : 5 < 5 = (d.current 0 0 (omega arith) refl).0 in omega arith,
  λ d. let e : 5 < 5 = (d.current 1 1 (omega arith) refl).0 in omega arith,
  λ d. let e : 5 ≤ 4 = (d.current 0 0 (omega arith) refl).1 in omega arith,
  λ d. let e : 5 ≤ 4 = (d.current 1 1 (omega arith) refl).1 in omega arith,
  λ d. let e : 5 < 5 = (d.current 2 1 (omega arith) refl).0 in omega arith,
  λ d. let e : 5 ≤ 4 = (d.current 2 1 (omega arith) refl).1 in omega arith,
)

-- levels of 4 and 3 of the smallest record count since fresh, 2, and a total of 6: at the first places, and at the last
abbrev chosen_of : ℕ → ℕ → ℕ → Bool
chosen_of a b i = eqb i a || eqb i b

pub levels_bite :
    (¬ Demand3 (three_records (numbers 7 4 0 2 5) (numbers 8 3 0 1 0) (numbers 0 0 0 0 0) (gauge_of 6 0 5) 1) (truth_since 2 6) unstale)
    × (¬ Demand3 (three_records (numbers 0 0 0 0 0) (numbers 7 4 0 2 5) (numbers 8 3 0 1 0) (gauge_of 6 0 5) 1) (truth_since 2 6) unstale)
    × (¬ Demand3 (three_records (numbers 7 4 0 2 5) (numbers 0 0 0 0 0) (numbers 0 0 0 0 0) (gauge_of 6 3 5) 1) (truth_since 2 6) unstale)
unfolding computing
levels_bite = (
  λ d. let e : 7 ≤ 6 = d.levelled (chosen_of 0 1) refl in omega arith,
  λ d. let e : 7 ≤ 6 = d.levelled (chosen_of 1 2) refl in omega arith,
  λ d. let e : 7 ≤ 6 = d.levelled (chosen_of 0 2) refl in omega arith,
)

-- levels of 4, 3 and 1 of three records, as many as since fresh, and a total of 7
pub levelled_bites : ¬ LevelledBound (three_records (numbers 7 4 0 2 5) (numbers 8 3 0 1 0) (numbers 0 0 0 0 0) (gauge_of 7 1 5) 1) (truth 7 (heats 4 3 0)) unstale
unfolding computing
levelled_bites d = let e : 8 ≤ 7 = d refl in omega arith

-- three times 3, and a total of 8
pub heavy_bites : ¬ HeavyHittersTracked (three_records (numbers 7 4 0 2 5) (numbers 8 3 0 1 0) (numbers 0 0 0 0 0) (gauge_of 8 1 5) 1) (truth 8 (heats 4 3 3)) unstale
unfolding computing
heavy_bites d = d 9 (omega arith) refl

-- two times 3, and a total of 5: the fewest, and not the records that there are
pub heavy_since_bites : ¬ HeavyHittersTracked
    (three_records (numbers 7 4 0 2 5) (numbers 8 3 0 1 0) (numbers 0 0 0 0 0) (gauge_of 5 1 5) 1)
    (record { total = 5; heat = heats 4 3 3; picture = λ key. none; fewest = 2 }) unstale
unfolding computing
heavy_since_bites d = d 9 (omega arith) refl

-- a heat over the total; a ticket without a line
pub stays_bites :
    (¬ StaysInOrder (three_records (numbers 7 4 0 2 5) (numbers 8 3 0 1 0) (numbers 0 0 0 0 0) (gauge_of 3 0 5) 1) (truth 3 (heats 4 3 0)) unstale)
    × (¬ StaysInOrder (three_records (numbers 7 4 0 2 5) (numbers 8 3 0 1 1) (numbers 0 0 0 0 0) (gauge_of 7 0 5) 1) (truth 7 (heats 4 3 0)) unstale)
unfolding computing
stays_bites = (
  λ e. let z : ◌≡◌ {A = ℕ} 0 1 = cc in omega arith,
  λ e. let z : ◌≡◌ {A = ℕ} 0 1 = cc in omega arith,
)

-- ---- the premise
-- any call on what it is lent, by anybody; and any refused one besides
pub any_call : {end : Memory} {es : List Event} (c : Call) (l : Lent) → key_of c < 2 ^ 64 → Follows (memory_of (made c l).after) es end →
    Follows (memory_of l) (event c (was_refused (made c l).answer) (memory_of l) ∷ es) end
any_call c l fits rest = own c l refl fits rest

pub any_into : {m end : Memory} {es : List Event} (target : HostMemory) (l : Lent) → held target ≡ m →
    was_refused (made (resize target) l).answer ≡ true → Follows (target_left target l) es end →
    Follows m (event (resize target) true m ∷ es) end
any_into target l same e rest = into target l same e rest

pub any_refused : {m end : Memory} {es : List Event} (c : Call) (l : Lent) → was_refused (made c l).answer ≡ true → Follows m es end →
    Follows m (event c true m ∷ es) end
any_refused c l e rest = elsewhere c l e rest

-- a look, by anybody, refused or not: all that it may write is the ticket of a wanted
pub any_look : (t : Truth) (key : ℕ) (m : Memory) (h : HostRead) → IsBytes h.memory.gauge →
    ((made (read key 0) (rattle m)).after ≡ rattle m)
    × ((made (read key 0) (host h)).after ≡ host (read_lent h.memory (put_ticket h.ticket (hosted_read (λ m. read_outcome m key 0) h).answer)))
    × (heard_truth t (heard (read key 0) true) ≡ t)
    × (heard_truth t (heard (read key 0) false) ≡ t)
unfolding ticket_put made host_made
any_look t key m h bytes = (
  peek_leaves_lent key (rattle m) tt,
  peek_leaves_lent key (host h) bytes,
  peek_counts_nothing t key true,
  peek_counts_nothing t key false,
)

-- any refused call, by anybody, leaves all that it was lent, a ticket's bytes too
pub any_refused_leaves : (c : Call) (m : Memory) (h : HostRead) → IsBytes h.memory.gauge →
    (was_refused (made c (rattle m)).answer ≡ true → (made c (rattle m)).after ≡ rattle m)
    × (was_refused (made c (host h)).answer ≡ true → (made c (host h)).after ≡ host h)
any_refused_leaves c m h bytes = (refused_leaves_lent c (rattle m) tt, refused_leaves_lent c (host h) bytes)

-- Memory that is not clear, with two lines; a look that other memory refuses, for its sizes; a host's read of the largest key and
-- weight; a fill that the list's own memory refuses, one that it accepts, a host's look that finds it, and an update.
abbrev dirty : ℕ → Memory
dirty lines = three_records (numbers 1 2 3 9 4) (numbers 1 2 3 9 4) (numbers 1 2 3 9 4) (gauge_of 9 99 999) lines

abbrev largest : ℕ
largest = 18446744073709551615

abbrev cleared : Memory
cleared = (fresh_outcome (dirty 2)).after

abbrev wide_events : List Event
wide_events =
    happened (read 5 0) true 0
    ∷ happened (read largest 65535) false 0
    ∷ happened (fill 5 (sample_picture 1) 1) true 1
    ∷ happened (fill largest (sample_picture 1) 1) false 1
    ∷ happened (read largest 0) false 1
    ∷ happened (update largest 65535) false 1
    ∷ []

abbrev wide_filled : Memory
wide_filled = (call_outcome (fill largest (sample_picture 1) 1) (call_outcome (read largest 65535) cleared).after).after

abbrev wide_end : Memory
wide_end = (call_outcome (update largest 65535) wide_filled).after

wide_list : Follows cleared wide_events wide_end
unfolding computing
wide_list =
    elsewhere (read 5 0) (rattle (dirty 3)) refl
    (own (read largest 65535) (host (read_lent (host_lent cleared.table (replicate 24 0) cleared.lines) eight_bytes)) refl (omega arith)
    (own (fill 5 (sample_picture 1) 1) (rattle _) refl (omega arith)
    (own (fill largest (sample_picture 1) 1) (rattle _) refl (omega arith)
    (own (read largest 0)
    (host (read_lent (host_lent wide_filled.table (255 ∷ 255 ∷ replicate 14 0 ++ (1 ∷ replicate 7 0)) wide_filled.lines) eight_bytes))
    refl (omega arith)
    (own (update largest 65535) (rattle _) refl (omega arith)
    nothing)))))

pub wide_demand3 : Demand3 wide_end (replay (unheard 3) (told wide_events)) wide_events
unfolding computing
wide_demand3 = demand3 (dirty 2) wide_end wide_events refl wide_list

-- the same from what an exported fresh leaves of a host's bytes that are not clear
pub wide_host_demand3 : Demand3 wide_end (replay (unheard 3) (told wide_events)) wide_events
unfolding computing exported_fresh completion_number
wide_host_demand3 =
    from_host_fresh Demand3 demand3 (host_lent (dirty 2).table (replicate 24 255) (dirty 2).lines) wide_end wide_events refl wide_list

-- ---- a fetch that an update overtakes
-- Class 5 is wanted with ticket 1, and updated; the fill with that ticket is refused. It is wanted with ticket 2, and filled. An update of
-- a class that is not tracked comes before and after.
abbrev late_events : List Event
late_events =
    happened (update 9 1) false 0
    ∷ happened (read 5 3) false 0
    ∷ happened (update 5 1) false 1
    ∷ happened (fill 5 (sample_picture 1) 1) true 2
    ∷ happened (read 5 1) false 2
    ∷ happened (fill 5 (sample_picture 2) 2) false 2
    ∷ happened (update 9 1) false 2
    ∷ []

abbrev late_end : Memory
late_end =
    with_lines (sample_picture 2 ++ sample_picture 170)
    (three_records (numbers 5 3 0 3 2) (numbers 0 0 0 0 0) (numbers 0 0 0 0 0) (gauge_of 4 0 2) 2)

late_list : Follows cleared late_events late_end
unfolding computing
late_list =
    own (update 9 1) (rattle _) refl (omega arith)
    (own (read 5 3) (rattle _) refl (omega arith)
    (own (update 5 1) (rattle _) refl (omega arith)
    (own (fill 5 (sample_picture 1) 1) (rattle _) refl (omega arith)
    (own (read 5 1) (rattle _) refl (omega arith)
    (own (fill 5 (sample_picture 2) 2) (rattle _) refl (omega arith)
    (own (update 9 1) (rattle _) refl (omega arith)
    nothing))))))

-- its stale tickets, of the class, of the untracked one and of any other
pub late_stale : (stale_up_to late_events 5 ≡ 1) × (stale_up_to late_events 9 ≡ 2) × (stale_up_to late_events 7 ≡ 0)
unfolding computing
late_stale = (refl, refl, refl)

-- by the theorems: the line shows the second picture, whose ticket is 2, and the call that gave it is the update or after it
pub late_current :
    ((replay (unheard 3) (told late_events)).picture 5 ≡ some (filled_with (sample_picture 2) 2))
    × (stale_up_to late_events 5 < 2)
    × (2 ≤ late_end.gauge.serial)
unfolding computing
late_current =
    let d = demand3 (dirty 2) late_end late_events refl late_list in
    (d.latest 0 0 (omega arith) refl, (d.current 0 0 (omega arith) refl).0, (d.current 0 0 (omega arith) refl).1)

pub late_given : GivenSince late_events late_end 5 2
unfolding computing
late_given = given_since (dirty 2) late_end late_events refl late_list 0 0 (omega arith) refl

-- all that it says
pub any_giver : (es : List Event) (end : Memory) (key ticket : ℕ) (g : GivenSince es end key ticket) →
    (es ≡ g.before ++ (g.giver ∷ g.later))
    × (g.giver.heard.refused ≡ false)
    × (g.giver.serial < ticket)
    × (ticket ≤ next_serial g.later end)
    × (voided key g.later ≡ false)
any_giver es end key ticket g = (g.whole, g.accepted, g.given.0, g.given.1, g.none_later)

-- the ticket of the first wanted is refused from any call on: that is what the update's class, and its alone, has of stale ones
pub late_refused : (picture : List ℕ) → is_refused (fill_outcome late_end 5 picture 1).answer ≡ true
unfolding computing
late_refused picture = late_fills_refused (dirty 2) late_end late_events refl late_list 5 picture 1 (omega arith)

-- the same in the words of the host: told wanted with ticket 1, then the update, then whatever else
pub late_overtaken : (picture : List ℕ) → is_refused (fill_outcome late_end 5 picture 1).answer ≡ true
unfolding computing
late_overtaken picture =
    overtaken_refused (dirty 2) cleared (happened (update 9 1) false 0 ∷ []) refl (own (update 9 1) (rattle _) refl (omega arith) nothing)
    (rattle _) late_end
    (happened (update 5 1) false 1
    ∷ happened (fill 5 (sample_picture 1) 1) true 2
    ∷ happened (read 5 1) false 2
    ∷ happened (fill 5 (sample_picture 2) 2) false 2
    ∷ happened (update 9 1) false 2
    ∷ [])
    5 3 0 1 picture refl (omega arith) refl
    (own (update 5 1) (rattle _) refl (omega arith)
    (own (fill 5 (sample_picture 1) 1) (rattle _) refl (omega arith)
    (own (read 5 1) (rattle _) refl (omega arith)
    (own (fill 5 (sample_picture 2) 2) (rattle _) refl (omega arith)
    (own (update 9 1) (rattle _) refl (omega arith)
    nothing)))))
    refl

-- Told by a look of a host, at the largest key, on line 1, with a ticket that an earlier read gave; then an update that is refused, one of
-- another class, and only then the class's.
abbrev look_start : Memory
look_start = (call_outcome (read largest 65535) (call_outcome (read 5 3) cleared).after).after

abbrev look_end : Memory
look_end = (call_outcome (update largest 65535) (call_outcome (update 5 1) look_start).after).after

pub look_overtaken : (picture : List ℕ) → is_refused (fill_outcome look_end largest picture 2).answer ≡ true
unfolding computing
look_overtaken picture =
    overtaken_refused (dirty 2) look_start (happened (read 5 3) false 0 ∷ happened (read largest 65535) false 1 ∷ []) refl
    (own (read 5 3) (rattle _) refl (omega arith) (own (read largest 65535) (rattle _) refl (omega arith) nothing))
    (host (read_lent (host_lent look_start.table (2 ∷ 0 ∷ 1 ∷ replicate 13 0 ++ (2 ∷ replicate 7 0)) look_start.lines) eight_bytes))
    look_end
    (happened (update largest 0) true 2 ∷ happened (update 5 1) false 2 ∷ happened (update largest 65535) false 3 ∷ [])
    largest 0 1 2 picture refl (omega arith) refl
    (own (update largest 0) (rattle _) refl (omega arith)
    (own (update 5 1) (rattle _) refl (omega arith)
    (own (update largest 65535) (rattle _) refl (omega arith)
    nothing)))
    refl

-- ---- withdrawals (document 02)
-- Classes 5 and 7 get the two lines, 5 its picture; 9 leaves for 11, so that the ceiling is 1. 5 is withdrawn by a host, and 11 gets its
-- line. 13 is not tracked. 5 is read again: it begins at the ceiling, and takes 7's line with ticket 4. The fill of a fetch from before
-- the withdrawal is refused with 5, and then with 9; that of the new ticket is stored.
abbrev struck_before : List Event
struck_before =
    happened (read 5 3) false 0
    ∷ happened (fill 5 (sample_picture 1) 1) false 1
    ∷ happened (read 7 2) false 1
    ∷ happened (read 9 1) false 2
    ∷ happened (read 11 1) false 2
    ∷ []

abbrev struck_after : List Event
struck_after =
    happened (withdraw 5) false 2
    ∷ happened (withdraw 13) false 3
    ∷ happened (fill 5 (sample_picture 1) 1) true 3
    ∷ happened (read 5 4) false 3
    ∷ happened (fill 5 (sample_picture 1) 1) true 4
    ∷ happened (fill 5 (sample_picture 2) 4) false 4
    ∷ []

abbrev struck_events : List Event
struck_events = struck_before ++ struck_after

abbrev struck_start : Memory
struck_start =
    with_lines (sample_picture 1 ++ sample_picture 170)
    (three_records (numbers 5 3 0 3 1) (numbers 7 2 0 4 2) (numbers 11 2 1 1 0) (gauge_of 7 1 2) 2)

abbrev struck_end : Memory
struck_end =
    with_lines (sample_picture 1 ++ sample_picture 2)
    (three_records (numbers 5 5 1 5 4) (numbers 7 2 0 1 0) (numbers 11 2 1 2 3) (gauge_of 11 1 4) 2)

struck_lead : Follows cleared struck_before struck_start
unfolding computing
struck_lead =
    own (read 5 3) (rattle _) refl (omega arith)
    (own (fill 5 (sample_picture 1) 1) (rattle _) refl (omega arith)
    (own (read 7 2) (rattle _) refl (omega arith)
    (own (read 9 1) (rattle _) refl (omega arith)
    (own (read 11 1) (rattle _) refl (omega arith)
    nothing))))

abbrev struck_by_host : Lent
struck_by_host =
    host
    (read_lent (host_lent struck_start.table ((7 ∷ replicate 7 0) ++ (1 ∷ replicate 7 0) ++ (2 ∷ replicate 7 0)) struck_start.lines)
    eight_bytes)

struck_list : Follows cleared struck_events struck_end
unfolding computing
struck_list =
    own (read 5 3) (rattle _) refl (omega arith)
    (own (fill 5 (sample_picture 1) 1) (rattle _) refl (omega arith)
    (own (read 7 2) (rattle _) refl (omega arith)
    (own (read 9 1) (rattle _) refl (omega arith)
    (own (read 11 1) (rattle _) refl (omega arith)
    (own (withdraw 5) struck_by_host refl (omega arith)
    (own (withdraw 13) (rattle _) refl (omega arith)
    (own (fill 5 (sample_picture 1) 1) (rattle _) refl (omega arith)
    (own (read 5 4) (rattle _) refl (omega arith)
    (own (fill 5 (sample_picture 1) 1) (rattle _) refl (omega arith)
    (own (fill 5 (sample_picture 2) 4) (rattle _) refl (omega arith)
    nothing))))))))))

pub struck_demand3 : Demand3 struck_end (replay (unheard 3) (told struck_events)) struck_events
unfolding computing
struck_demand3 = demand3 (dirty 2) struck_end struck_events refl struck_list

-- what the replay then has: | In the replay the class's true heat becomes 0
-- of the one withdrawn, whose picture stays, and no other's; so with one that is not tracked, where it is not refused
abbrev struck_truth : Truth
struck_truth = replay (unheard 3) (told (struck_before ++ (happened (withdraw 5) false 2 ∷ [])))

pub struck_replayed :
    (struck_truth.heat 5 ≡ 0)
    × (struck_truth.heat 7 ≡ 2)
    × (struck_truth.heat 9 ≡ 1)
    × (struck_truth.total ≡ 7)
    × (struck_truth.picture 5 ≡ some (filled_with (sample_picture 1) 1))
    × ((heard_truth struck_truth (heard (withdraw 9) false)).heat 9 ≡ 0)
    × ((heard_truth struck_truth (heard (withdraw 9) true)).heat 9 ≡ 1)
unfolding computing
struck_replayed = (refl, refl, refl, refl, refl, refl, refl)

-- the tickets that it makes stale, of a tracked class and of an untracked one
pub struck_stale : (stale_up_to struck_events 5 ≡ 2) × (stale_up_to struck_events 13 ≡ 3) × (stale_up_to struck_events 7 ≡ 0)
unfolding computing
struck_stale = (refl, refl, refl)

-- the fetch with ticket 1 was overtaken: by the serials, and in the words of a host
pub struck_refused : (picture : List ℕ) → is_refused (fill_outcome struck_end 5 picture 1).answer ≡ true
unfolding computing
struck_refused picture = late_fills_refused (dirty 2) struck_end struck_events refl struck_list 5 picture 1 (omega arith)

-- of the untracked class, with the last of its stale tickets
pub struck_untracked : (picture : List ℕ) → is_refused (fill_outcome struck_end 13 picture 3).answer ≡ true
unfolding computing
struck_untracked picture = late_fills_refused (dirty 2) struck_end struck_events refl struck_list 13 picture 3 (omega arith)

pub struck_overtaken : (picture : List ℕ) → is_refused (fill_outcome struck_end 5 picture 1).answer ≡ true
unfolding computing
struck_overtaken picture =
    overtaken_refused (dirty 2) cleared [] refl nothing (rattle _) struck_end
    (happened (fill 5 (sample_picture 1) 1) false 1
    ∷ happened (read 7 2) false 1
    ∷ happened (read 9 1) false 2
    ∷ happened (read 11 1) false 2
    ∷ struck_after)
    5 3 0 1 picture refl (omega arith) refl
    (own (fill 5 (sample_picture 1) 1) (rattle _) refl (omega arith)
    (own (read 7 2) (rattle _) refl (omega arith)
    (own (read 9 1) (rattle _) refl (omega arith)
    (own (read 11 1) (rattle _) refl (omega arith)
    (own (withdraw 5) struck_by_host refl (omega arith)
    (own (withdraw 13) (rattle _) refl (omega arith)
    (own (fill 5 (sample_picture 1) 1) (rattle _) refl (omega arith)
    (own (read 5 4) (rattle _) refl (omega arith)
    (own (fill 5 (sample_picture 1) 1) (rattle _) refl (omega arith)
    (own (fill 5 (sample_picture 2) 4) (rattle _) refl (omega arith)
    nothing))))))))))
    refl

-- by the theorem: ceiling and total stay, and the class has no record
pub struck_leaves : Removed struck_start (memory_of (made (withdraw 5) struck_by_host).after) 5 false
unfolding computing
struck_leaves = withdrawals_leave (dirty 2) struck_start struck_before refl struck_lead 5 struck_by_host refl (omega arith)

-- of a Rattle caller's withdrawal of the largest key, and of a host's that is refused: it lends a byte too many for a gauge
struck_wide : Follows cleared
    (happened (read largest 65535) false 0 ∷ happened (fill largest (sample_picture 1) 1) false 1 ∷ []) wide_filled
unfolding computing
struck_wide =
    own (read largest 65535) (rattle _) refl (omega arith)
    (own (fill largest (sample_picture 1) 1) (rattle _) refl (omega arith) nothing)

abbrev long_gauge : Lent
long_gauge =
    host
    (read_lent (host_lent struck_start.table ((7 ∷ replicate 7 0) ++ (1 ∷ replicate 7 0) ++ (2 ∷ replicate 8 0)) struck_start.lines)
    eight_bytes)

pub wide_leaves :
    Removed wide_filled (memory_of (made (withdraw largest) (rattle wide_filled)).after) largest false
    × Removed struck_start (memory_of (made (withdraw 5) long_gauge).after) 5 true
unfolding computing
wide_leaves = (
  withdrawals_leave (dirty 2) wide_filled _ refl struck_wide largest (rattle wide_filled) refl (omega arith),
  withdrawals_leave (dirty 2) struck_start struck_before refl struck_lead 5 long_gauge refl (omega arith),
)

-- in a list, of the largest key, by a host that lends no bytes for a ticket
pub wide_struck : Follows wide_filled (happened (withdraw largest) false 1 ∷ []) (call_outcome (withdraw largest) wide_filled).after
unfolding computing
wide_struck =
    own (withdraw largest)
    (host (read_lent (host_lent wide_filled.table (255 ∷ 255 ∷ replicate 14 0 ++ (1 ∷ replicate 7 0)) wide_filled.lines) []))
    refl (omega arith) nothing

-- all that it says, each missed by one, either way, refused or not
abbrev class_of : Found → ℕ
class_of None = 0
class_of (Some (i, r)) = r.key

pub withdrawn_bites :
    (¬ Removed (two (numbers 7 4 0 2 5) (numbers 8 3 0 1 0) 2) (two (numbers 0 0 0 0 0) (numbers 8 3 0 2 6) 1) 7 false)
    × (¬ Removed (three_records (numbers 7 4 0 2 5) (numbers 8 3 0 1 0) (numbers 0 0 0 0 0) (gauge_of 20 2 5) 1)
    (three_records (numbers 0 0 0 0 0) (numbers 8 3 0 2 6) (numbers 0 0 0 0 0) (gauge_of 19 2 6) 1) 7 false)
    × (¬ Removed (two (numbers 7 4 0 2 5) (numbers 8 3 0 1 0) 2) (two (numbers 7 0 0 1 0) (numbers 8 3 0 2 5) 2) 7 false)
    × (¬ Removed (two (numbers 7 4 0 2 5) (numbers 8 3 0 1 0) 2) (two (numbers 7 4 0 2 5) (numbers 8 3 0 1 0) 3) 7 true)
    × (¬ Removed (three_records (numbers 7 4 0 2 5) (numbers 8 3 0 1 0) (numbers 0 0 0 0 0) (gauge_of 20 2 5) 1)
    (three_records (numbers 7 4 0 2 5) (numbers 8 3 0 1 0) (numbers 0 0 0 0 0) (gauge_of 21 2 5) 1) 7 true)
    × (¬ Removed (last (numbers 8 3 0 1 0) (numbers 7 4 0 2 5)) (last (numbers 8 3 0 1 0) (numbers 7 4 0 2 5)) 7 false)
unfolding computing
withdrawn_bites = (
  λ d. let e : ◌≡◌ {A = ℕ} 1 2 = d.ceiling in omega arith,
  λ d. let e : ◌≡◌ {A = ℕ} 19 20 = d.total in omega arith,
  λ d. let e : ◌≡◌ {A = ℕ} 7 0 = ap class_of (d.gone refl) in omega arith,
  λ d. let e : ◌≡◌ {A = ℕ} 3 2 = d.ceiling in omega arith,
  λ d. let e : ◌≡◌ {A = ℕ} 21 20 = d.total in omega arith,
  λ d. let e : ◌≡◌ {A = ℕ} 7 0 = ap class_of (d.gone refl) in omega arith,
)

-- ---- resizes (document 02)
-- From what `struck_start` is: 5 on a filled line, 7 on an empty one, 11 on none, a ceiling of 1. A host resizes it into two records and
-- one line: 7 loses its line, 11 is dropped (as cold as 7, with more slack), and the ceiling rises to 2. A resize into one record and one
-- line is refused, and so is one of other memory into the list's own. 13 is read, for 7. Then into three records and two lines: 13 gets
-- the second one.
abbrev narrow : HostMemory
narrow = host_lent (replicate 80 170) (replicate 24 170) (replicate 64 170)

abbrev wrong : HostMemory
wrong = host_lent (replicate 40 170) (replicate 24 170) (replicate 64 170)

abbrev wide : HostMemory
wide = host_lent (replicate 120 170) [] (replicate 128 170)

abbrev resized_before : List Event
resized_before = struck_before ++ (happened (resize 2) false 2 ∷ happened (resize 1) true 2 ∷ happened (resize 2) true 2 ∷ happened (read 13 1) false 2 ∷ [])

abbrev resized_events : List Event
resized_events = resized_before ++ (happened (resize 3) false 2 ∷ happened (fill 13 (sample_picture 3) 3) false 3 ∷ [])

abbrev gauge_bytes : ℕ → ℕ → ℕ → List ℕ
gauge_bytes total ceiling serial = total ∷ replicate 7 0 ++ (ceiling ∷ replicate 7 0 ++ (serial ∷ replicate 7 0))

abbrev narrowed : Memory
narrowed = (call_outcome (resize narrow) struck_start).after

abbrev resized_end : Memory
resized_end =
    with_lines (sample_picture 1 ++ sample_picture 3)
    (three_records (numbers 5 3 0 3 1) (numbers 13 3 2 5 3) (numbers 0 0 0 0 0) (gauge_of 8 2 3) 2)

resized_list : Follows struck_start
    (happened (resize 2) false 2 ∷ happened (resize 1) true 2 ∷ happened (resize 2) true 2 ∷ happened (read 13 1) false 2 ∷ happened (resize 3) false 2
    ∷ happened (fill 13 (sample_picture 3) 3) false 3 ∷ [])
    resized_end
unfolding computing
resized_list =
    own (resize narrow) (host (read_lent (host_lent struck_start.table (gauge_bytes 7 1 2) struck_start.lines) [])) refl (omega arith)
    (own (resize wrong) (rattle _) refl (omega arith)
    (into (host_lent narrowed.table (gauge_bytes 7 2 2) narrowed.lines) (rattle (dirty 3)) refl refl
    (own (read 13 1) (rattle _) refl (omega arith)
    (own (resize wide) (rattle _) refl (omega arith)
    (own (fill 13 (sample_picture 3) 3) (rattle _) refl (omega arith)
    nothing)))))

resized_whole : Follows cleared resized_events resized_end
unfolding computing
resized_whole =
    own (read 5 3) (rattle _) refl (omega arith)
    (own (fill 5 (sample_picture 1) 1) (rattle _) refl (omega arith)
    (own (read 7 2) (rattle _) refl (omega arith)
    (own (read 9 1) (rattle _) refl (omega arith)
    (own (read 11 1) (rattle _) refl (omega arith)
    resized_list))))

-- by the theorem: 2 is the smallest record count, two times 2 is no more than 8, and no two of the three levels are more; the lines show
-- what was filled before the resizes, and between
pub resized_demand3 :
    ((replay (unheard 3) (told resized_events)).fewest ≡ 2)
    × (2 * resized_end.gauge.ceiling ≤ resized_end.gauge.total)
    × (sum_where (chosen_of 0 2) (level 2) (places resized_end) 3 ≤ 8)
    × ((replay (unheard 3) (told resized_events)).picture 5 ≡ some (filled_with (sample_picture 1) 1))
    × ((replay (unheard 3) (told resized_events)).picture 13 ≡ some (filled_with (sample_picture 3) 3))
unfolding computing
resized_demand3 =
    let d = demand3 (dirty 2) resized_end resized_events refl resized_whole in
    (refl, d.product, d.levelled (chosen_of 0 2) refl, d.latest 0 0 (omega arith) refl, d.latest 1 1 (omega arith) refl)

-- what the first resize leaves, whole: with its line's bytes and its ticket; a line that is given keeps the target's bytes
pub narrowed_is :
    (call_outcome (resize narrow) struck_start
    ≡ outcome (completed (Ok tt))
    (with_lines (sample_picture 1)
    (record { table = put_record (put_record (replicate 80 0) 0 (numbers 5 3 0 3 1)) 1 (numbers 7 2 0 1 0); gauge = gauge_of 7 2 2; lines = [] })))
    × ((call_outcome (resize wide) narrowed).after.lines ≡ sample_picture 1 ++ sample_picture 170)
unfolding computing
narrowed_is = (refl, refl)

-- into five records: their levels, 3, 3, 2, 2 and 2, are more than the total together, and so is five times the ceiling
abbrev wider : HostMemory
wider = host_lent (replicate 200 170) [] (replicate 128 170)

pub grown_over :
    (levelled_sum (call_outcome (resize wider) resized_end).after ≡ 12)
    × ((call_outcome (resize wider) resized_end).after.gauge.total ≡ 8)
    × (8 < 5 * (call_outcome (resize wider) resized_end).after.gauge.ceiling)
unfolding computing
grown_over = (refl, refl, omega arith)

-- after the first resize there are as many records as the fewest, so that all levels are within the total
pub narrowed_levels : levelled_sum narrowed ≤ 7
unfolding computing
narrowed_levels =
    levelled_bound (dirty 2) narrowed (struck_before ++ (happened (resize 2) false 2 ∷ [])) refl
    (own (read 5 3) (rattle _) refl (omega arith)
    (own (fill 5 (sample_picture 1) 1) (rattle _) refl (omega arith)
    (own (read 7 2) (rattle _) refl (omega arith)
    (own (read 9 1) (rattle _) refl (omega arith)
    (own (read 11 1) (rattle _) refl (omega arith)
    (own (resize narrow) (rattle _) refl (omega arith)
    nothing))))))
    refl

-- by the theorems, of lists with resizes in them: all else in demand 3
pub resized_else :
    (2 ≤ 2)
    × (1 ≤ 3)
    × (3 ≤ 1 + 2)
    × (◌≡◌ {A = ℕ} 8 8)
    × (2 ≤ 3)
    × (0 < 3)
    × (3 ≤ 3)
    × GivenSince resized_events resized_end 5 1
    × GivenSince resized_events resized_end 13 3
unfolding computing
resized_else =
    let d = demand3 (dirty 2) resized_end resized_events refl resized_whole in (
      d.untracked 7 refl,
      d.not_below 1 (omega arith) refl,
      d.not_above 1 (omega arith) refl,
      d.total,
      d.few,
      (d.current 1 1 (omega arith) refl).0,
      (d.current 1 1 (omega arith) refl).1,
      given_since (dirty 2) resized_end resized_events refl resized_whole 0 0 (omega arith) refl,
      given_since (dirty 2) resized_end resized_events refl resized_whole 1 1 (omega arith) refl,
    )

-- 5 is wanted with ticket 1, and resized; an update overtakes the fetch, and there is another resize
abbrev moved_events : List Event
moved_events = happened (resize 2) false 1 ∷ happened (update 5 1) false 1 ∷ happened (resize 3) false 2 ∷ []

abbrev moved_before : Memory
moved_before = (call_outcome (resize narrow) (call_outcome (read 5 3) cleared).after).after

abbrev moved_end : Memory
moved_end = (call_outcome (resize wide) (call_outcome (update 5 1) moved_before).after).after

moved_list : Follows (call_outcome (read 5 3) cleared).after moved_events moved_end
unfolding computing
moved_list =
    own (resize narrow) (rattle _) refl (omega arith)
    (own (update 5 1) (rattle _) refl (omega arith)
    (own (resize wide) (rattle _) refl (omega arith)
    nothing))

moved_whole : Follows cleared (happened (read 5 3) false 0 ∷ moved_events) moved_end
unfolding computing
moved_whole = own (read 5 3) (rattle _) refl (omega arith) moved_list

pub moved_refused : (picture : List ℕ) →
    (is_refused (fill_outcome moved_end 5 picture 1).answer ≡ true) × (is_refused (fill_outcome moved_end 5 picture 1).answer ≡ true)
unfolding computing
moved_refused picture = (
  late_fills_refused (dirty 2) moved_end (happened (read 5 3) false 0 ∷ moved_events) refl moved_whole 5 picture 1 (omega arith),
  overtaken_refused (dirty 2) cleared [] refl nothing (rattle _) moved_end moved_events 5 3 0 1 picture refl (omega arith) refl
      moved_list refl,
)

-- two times 2 are more than the total of 3, so that 5 is in the table; which is in order; and a withdrawal leaves the ceiling
pub moved_else :
    (key_record 5 (places moved_end) (size moved_end) ≢ None)
    × (plain_verdict moved_end ≡ Ok tt)
    × Removed moved_end (memory_of (made (withdraw 5) (rattle moved_end)).after) 5 false
unfolding computing
moved_else =
    let es = happened (read 5 3) false 0 ∷ moved_events in (
      heavy_hitters_tracked (dirty 2) moved_end es refl moved_whole 5 (omega arith),
      stays_in_order (dirty 2) moved_end es refl moved_whole,
      withdrawals_leave (dirty 2) moved_end es refl moved_whole 5 (rattle moved_end) refl (omega arith),
    )

-- a list's resize is the call that a host makes: what it is told, and what it finds where it was accepted; a ticket's bytes stay
pub any_resize_told : (target : HostMemory) (h : HostRead) →
    (number_told (host_made (resize target) h).answer ≡ (exported_resize h.memory target).answer)
    × ((host_made (resize target) h).after.ticket ≡ h.ticket)
    × (was_refused (host_made (resize target) h).answer ≡ false →
    (host_made (resize target) h).after.memory ≡ (exported_resize h.memory target).after)
unfolding host_made number_told exported_resize
any_resize_told target h = (refl, refl, λ e. (moving_accepted h.memory (hosted_resize h.memory target) e).1)

-- what the replay makes of a resize, of any truth, refused or not
pub any_resize_heard : (t : Truth) (records : ℕ) →
    (heard_truth t (heard (resize records) false)
    ≡ record { total = t.total; heat = t.heat; picture = t.picture; fewest = min t.fewest records })
    × (heard_truth t (heard (resize records) true) ≡ t)
unfolding computing
any_resize_heard t records = (refl, refl)

-- and puts nothing into a ticket's bytes
pub done_puts_nothing : (c : Completion) (h : HostRead) → ticket_put (completed c) (host h) ≡ host h
unfolding ticket_put
done_puts_nothing c h = refl

-- it makes no ticket stale
pub any_resize_stales : (records serial : ℕ) (stale : ℕ → ℕ) (key : ℕ) (es : List Event) →
    (event_stale stale (happened (resize records) false serial) ≡ stale)
    × (voided key (happened (resize records) false serial ∷ es) ≡ voided key es)
unfolding computing
any_resize_stales records serial stale key es = (refl, refl)

-- class 7, never updated, filled at the last place on the second line
abbrev last_events : List Event
last_events =
    happened (read 5 3) false 0
    ∷ happened (read 6 1) false 1
    ∷ happened (update 6 1) false 2
    ∷ happened (read 7 2) false 3
    ∷ happened (fill 7 (sample_picture 1) 4) false 4
    ∷ []

abbrev last_end : Memory
last_end =
    with_lines (sample_picture 170 ++ sample_picture 1)
    (three_records (numbers 5 3 0 2 1) (numbers 6 0 0 1 0) (numbers 7 2 0 5 4) (gauge_of 6 0 4) 2)

last_list : Follows cleared last_events last_end
unfolding computing
last_list =
    own (read 5 3) (rattle _) refl (omega arith)
    (own (read 6 1) (rattle _) refl (omega arith)
    (own (update 6 1) (rattle _) refl (omega arith)
    (own (read 7 2) (rattle _) refl (omega arith)
    (own (fill 7 (sample_picture 1) 4) (rattle _) refl (omega arith)
    nothing))))

pub last_given : GivenSince last_events last_end 7 4
unfolding computing
last_given = given_since (dirty 2) last_end last_events refl last_list 2 1 (omega arith) refl

-- the same from what an exported fresh leaves
pub host_given_lem : GivenSince last_events last_end 7 4
unfolding computing exported_fresh completion_number
host_given_lem =
    from_host_fresh TicketsGivenSince given_since (host_lent (dirty 2).table (replicate 24 255) (dirty 2).lines) last_end last_events refl
    last_list 2 1 (omega arith) refl

-- told 10, a host finds all as it was
pub spent_leaves : (h : HostRead) → IsBytes h.memory.gauge → number_told (host_made (update 5 1) h).answer ≡ 10 →
    (host_made (update 5 1) h).after ≡ h
spent_leaves h bytes told = small_number_leaves (update 5 1) h bytes (omega arith) (omega arith)

pub spent_withdrawal_leaves : (h : HostRead) → IsBytes h.memory.gauge → number_told (host_made (withdraw 5) h).answer ≡ 10 →
    (host_made (withdraw 5) h).after ≡ h
spent_withdrawal_leaves h bytes told = small_number_leaves (withdraw 5) h bytes (omega arith) (omega arith)

-- a number of 1 to 99 is a refusal's, and no other
pub any_told_apart : (c : Call) (lent : Lent) →
    (was_refused (made c lent).answer ≡ true → (1 ≤ number_told (made c lent).answer) × (number_told (made c lent).answer < 100))
    × (was_refused (made c lent).answer ≡ false → number_told (made c lent).answer < 100 → number_told (made c lent).answer ≡ 0)
any_told_apart c lent =
    let told = told_by_number c lent in (
      λ e.
          let (first, second) = both (leb 1 (number_told (made c lent).answer)) (ltb (number_told (made c lent).answer) 100) (rw e at told) in
          (leb-true _ _ first, ltb-true _ _ second),
      λ e few. elim (dec_lt 0 (number_told (made c lent).answer)) [
        | yes l ↦ absurd (true≢false (sym (rw (le-leb 1 (number_told (made c lent).answer) l, lt-ltb (number_told (made c lent).answer) 100 few) at (sym (rw e at told)))))
        | no l ↦ omega arith
      ],
    )

-- told 1 or 99, of a resize too
pub small_leaves : (target : HostMemory) (h : HostRead) → IsBytes h.memory.gauge →
    (number_told (host_made (resize target) h).answer ≡ 1 → (host_made (resize target) h).after ≡ h)
    × (number_told (host_made (resize target) h).answer ≡ 99 → (host_made (resize target) h).after ≡ h)
small_leaves target h bytes = (
  λ told. small_number_leaves (resize target) h bytes (omega arith) (omega arith),
  λ told. small_number_leaves (resize target) h bytes (omega arith) (omega arith),
)

-- any accepted update of a class is seen, whatever comes after it, and makes the tickets up to the serial that it found stale
pub any_update_seen : (key w serial : ℕ) (es : List Event) → voided key (happened (update key w) false serial ∷ es) ≡ true
unfolding computing
any_update_seen key w serial es = rw (eq-eqb key key refl)

pub any_update_stales : (key w serial : ℕ) (stale : ℕ → ℕ) → event_stale stale (happened (update key w) false serial) key ≡ serial
unfolding event_stale accepted_stale make_stale
any_update_stales key w serial stale = at_same key serial stale

-- and so is any accepted withdrawal
pub any_withdrawal_seen : (key serial : ℕ) (es : List Event) → voided key (happened (withdraw key) false serial ∷ es) ≡ true
unfolding computing
any_withdrawal_seen key serial es = rw (eq-eqb key key refl)

pub any_withdrawal_stales : (key serial : ℕ) (stale : ℕ → ℕ) → event_stale stale (happened (withdraw key) false serial) key ≡ serial
unfolding event_stale accepted_stale make_stale
any_withdrawal_stales key serial stale = at_same key serial stale

-- what the next call finds, and what the list leaves
pub next_found : (m : Memory) → (next_serial (happened age false 3 ∷ happened age false 4 ∷ []) m ≡ 3) × (next_serial [] m ≡ m.gauge.serial)
unfolding computing
next_found m = (refl, refl)

-- an accepted update of the class is seen; refused ones and those of other classes are not, nor such withdrawals
pub updates_seen :
    (voided 7 (happened (update 7 1) false 0 ∷ []) ≡ true)
    × (voided 7 (happened (read 7 1) false 0 ∷ happened (update 7 1) false 0 ∷ []) ≡ true)
    × (voided 7 (happened (update 7 1) true 0 ∷ happened (update 8 1) false 0 ∷ []) ≡ false)
    × (voided 7 (happened (withdraw 7) true 0 ∷ happened (withdraw 8) false 0 ∷ []) ≡ false)
unfolding computing
updates_seen = (refl, refl, refl, refl)

-- ---- the sample, as a host is told of it, and what it finds in a ticket's bytes
abbrev told_host : List Call → HostRead → List ℕ
told_host [] h = []
told_host (c ∷ cs) h = number_told (host_made c h).answer ∷ get64 (host_made c h).after.ticket 0 ∷ told_host cs (host_made c h).after

pub thirteen_numbers : told_host sample_calls (read_lent (host_start 24) (replicate 8 0))
    ≡ 4000 ∷ 1 ∷ 103 ∷ 1 ∷ 2000 ∷ 1 ∷ 104 ∷ 1 ∷ 4000 ∷ 2 ∷ 104 ∷ 2 ∷ 104 ∷ 2 ∷ 101 ∷ 2 ∷ 102 ∷ 2 ∷ 5 ∷ 2 ∷ 100 ∷ 2 ∷ 104 ∷ 2 ∷ 4000 ∷ 4 ∷ []
unfolding computing
thirteen_numbers = refl

-- ---- the line that a host computes, of the largest key and any weight, 0 too
pub largest_line : (h : HostRead) (w : ℕ) → IsBytes h.memory.table →
    TellsLine (line_count h.memory.lines) (hosted_read (λ m. read_outcome m largest w) h).answer
    (exported_read (λ m. read_outcome m largest w) h).answer (exported_read (λ m. read_outcome m largest w) h).after.ticket
largest_line h w bytes = host_answered_line h largest w bytes (omega arith)
