-- What is promised of a resize holds of every accepted one, and the table that it leaves is in order. Assumes nothing.
use Prim.Native.Nat.{ℕ, ◌+◌, ◌*◌, ◌-◌, ◌%◌, ◌≤◌, ◌<◌}
use mathlib.Core.Path.{◌≡◌, refl, ◌∙◌, ap}
use mathlib.Core.Bool.{Bool, true, false, not, ◌&&◌}
use mathlib.Core.List.{List}
use mathlib.Core.Logic.{⊎_elim}
use native.Mathlib.Decide.{dec_lt}
use native.Mathlib.Omega.{arith}
use borrow.Author.Tests.{ltb-true, ltb-false, lt-ltb, le-ltb, not-true}
use Rattle.std.specs.Prelude.{Ok}
use Rattle.rules.specs.declared.Record.{Record}
use Rattle.rules.specs.declared.Gauge.{Gauge}
use Rattle.rules.specs.Bytes.{IsBytes, line_at, line_count}
use Rattle.rules.specs.Pass.{count_where}
use Rattle.rules.specs.Table.{Memory, is_zero, is_tracked, is_lined, is_filled, line_of, empty_state, unlined, freed, on_empty_line, places, size, line_total}
use Rattle.rules.specs.Calls.{order_good, verdict, sizes_test, order_test, unless, plain_verdict}
use Rattle.rules.proofs.Searches.{both, count_within}
use Rattle.rules.proofs.Memories.{sizes_say}
use Rattle.rules.proofs.InOrder.{Ordered, in_order_says, ordered_in_order}
use Rattle.resizing.specs.Resize.{tracked_count, lined_count, kept, place_of, line_for, moved, packed, filled_up, resize_steps, resize_outcome}
use Rattle.resizing.specs.Kept.{Stands, Resized, NobodyLoses}
use Rattle.resizing.proofs.Packing.{moves, moves_line, place_inside, place_reached, line_inside, Packs, packs}
use Rattle.resizing.proofs.PackSums.{packed_lined}
use Rattle.resizing.proofs.Goes.{count_is_where, none_counted}
use Rattle.resizing.proofs.KeptCounts.{same_lines}
use Rattle.resizing.proofs.KeptRecords.{Alike, alike_then, alike_itself, Keeping, keeping, kept_all, kept_tracks, kept_has_line, kept_alike, kept_whole}
use Rattle.resizing.proofs.Spares.{Promoted, filled_up_is}
use Rattle.resizing.proofs.Accepting.{Accepted, resize_accepted}

-- ---- a record that has moved, and one that gets a spare line
tracked_state : (r : Record) → is_tracked r ≡ true → 0 < r.state
unfolding is_tracked
tracked_state r e = ltb-true 0 r.state e

state_tracked : (r : Record) → 0 < r.state → is_tracked r ≡ true
unfolding is_tracked
state_tracked r e = lt-ltb 0 r.state e

state_lined : (r : Record) → 1 < r.state → is_lined r ≡ true
unfolding is_lined
state_lined r e = lt-ltb 1 r.state e

lineless_state : (r : Record) → is_lined r ≡ false → r.state ≤ 1
unfolding is_lined
lineless_state r e = ltb-false 1 r.state e

lined_state : (r : Record) → is_lined r ≡ true → 1 < r.state
unfolding is_lined
lined_state r e = ltb-true 1 r.state e

alike_moved : (n : ℕ) (r : Record) → Alike r (moved n r)
alike_moved n r = let e = moves n r in record { key = e.key; heat = e.heat; slack = e.slack }

moved_filled : (n : ℕ) (r : Record) → 1 < r.state → is_filled (moved n r) ≡ is_filled r
unfolding is_filled is_lined
moved_filled n r lined =
    let e : (moved n r).state ≡ 2 + 2 * n + r.state % 2 = (moves n r).lined lined in
    let on : 1 < (moved n r).state = omega (arith, e) in
    let same : (moved n r).state % 2 ≡ r.state % 2 = omega (arith, e) in
    rw (lt-ltb 1 r.state lined, lt-ltb 1 (moved n r).state on, same)

off_unfilled : (r : Record) → r.state ≤ 1 → is_filled r ≡ false
unfolding is_filled is_lined
off_unfilled r off = rw (le-ltb 1 r.state off)

-- what stays where a spare line is given or not
record Spared (r q : Record) : Type 0 where
  alike : Alike r q
  tracked : 0 < r.state → 0 < q.state
  unfilled : is_filled r ≡ false → is_filled q ≡ false
  on_line : 1 < r.state → q ≡ r
  free : r.state ≡ 0 → q ≡ r

spared_itself : (r : Record) → Spared r r
spared_itself r = record { alike = alike_itself r; tracked = λ e. e; unfilled = λ e. e; on_line = λ e. refl; free = λ e. refl }

spared_given : (n ticket : ℕ) (r : Record) → r.state ≡ 1 → Spared r (on_empty_line n ticket r)
unfolding on_empty_line empty_state is_filled is_lined
spared_given n ticket r off =
    let even : (2 + 2 * n) % 2 ≡ 0 = omega arith in
    record {
      alike = record { key = refl; heat = refl; slack = refl };
      tracked = λ e. omega arith;
      unfilled = λ e. rw (even, lt-ltb 1 (2 + 2 * n) (omega arith)) refl;
      on_line = λ lined. absurd (omega arith);
      free = λ free. absurd (omega arith);
    }

-- ---- what order asks of a record
record Sound (total lines : ℕ) (r : Record) : Type 0 where
  heat : r.heat ≤ total
  state : r.state ≤ 1 + 2 * lines
  free : r.state ≡ 0 → is_zero r ≡ true
  ticket : r.state ≤ 1 → r.ticket ≡ 0

freed_sound : (total lines : ℕ) → Sound total lines freed
unfolding freed is_zero
freed_sound total lines = record { heat = omega arith; state = omega arith; free = λ _. refl; ticket = λ _. refl }

unlined_sound : (total lines : ℕ) (r : Record) → Sound total lines r → Sound total lines (unlined r)
unfolding unlined
unlined_sound total lines r s =
    record { heat = s.heat; state = omega arith; free = λ e. absurd (omega arith); ticket = λ _. refl }

given_sound : (total lines n ticket : ℕ) (r : Record) → n < lines → Sound total lines r → Sound total lines (on_empty_line n ticket r)
unfolding on_empty_line empty_state
given_sound total lines n ticket r below s =
    record { heat = s.heat; state = omega arith; free = λ e. absurd (omega arith); ticket = λ off. absurd (omega arith) }

moved_sound : (total lines lines' n : ℕ) (r : Record) → 0 < r.state → (1 < r.state → n < lines') → Sound total lines r →
    Sound total lines' (moved n r)
moved_sound total lines lines' n r tracked below s =
    let e = moves n r in
    record {
      heat = rw e.heat s.heat;
      state =
          elim (dec_lt 1 r.state) [
            | yes l ↦ omega (arith, e.lined l, below l)
            | no l ↦ omega (arith, e.stage)
          ];
      free = λ free. absurd (omega (arith, e.stage));
      ticket = λ off. rw e.ticket (s.ticket (omega (arith, e.stage)));
    }

-- ---- an accepted resize
module _ (source target : Memory) (bytes : IsBytes source.table) (a : Accepted source target) where
  abbrev still : Memory
  still = kept (size target) (line_total target) source

  abbrev over : Memory
  over = packed still target

  abbrev after : Memory
  after = filled_up over

  few : line_total target ≤ 1024
  unfolding line_total
  few = let s = sizes_say target.table target.lines a.target_sizes in omega (arith, s.records_few, s.lines_fewer)

  k : Keeping source still (size target) (line_total target)
  unfolding size line_total
  k = keeping (size target) (line_total target) source bytes (sizes_say target.table target.lines a.target_sizes).lines_fewer

  -- ---- what order asks of each record that is kept
  order : Ordered (places source) (size source) (line_total source) source.gauge
  unfolding order_good
  order = in_order_says (places source) (size source) (line_total source) source.gauge a.order

  still_sound : (i : ℕ) → i < size source → Sound source.gauge.total (line_total source) (places still i)
  still_sound i inside =
      let was : Sound source.gauge.total (line_total source) (places source i) =
      record {
        heat = order.heat_most i inside;
        state = order.state_most i inside;
        free = order.free_zero i inside;
        ticket = order.unlined_ticket i inside;
      } in
      kept_all source still _ _ k (Sound source.gauge.total (line_total source)) i
      (λ d. freed_sound source.gauge.total (line_total source))
      (λ d l. unlined_sound source.gauge.total (line_total source) (places source i) was) (λ d l. was)

  -- ---- the tables on the way
  p : Packs still target
  p =
      packs still target k.same.bytes (k.same.sizes ∙ a.source_sizes) a.target_sizes
      (λ i below.
      rw (same_lines source still k.same) (still_sound i (rw k.same.records at below)).state)
      k.tracked_most k.lined_most

  over_lined : lined_count over ≤ line_total over
  over_lined = omega (arith, packed_lined still target p k.tracked_most, k.lined_most, p.lines)

  s : Promoted over after (line_total over - lined_count over)
  s =
      filled_up_is over p.bytes (rw p.lines few) over_lined
      (omega (arith, p.lines, few, ap (λ (g : Gauge). g.serial) p.gauge, k.same.serial, a.serial))

  after_size : size after ≡ size target
  after_size = s.records ∙ p.size

  after_lines : line_total after ≡ line_total target
  unfolding line_total
  after_lines = ap line_count s.lines ∙ p.lines

  after_ceiling : after.gauge.ceiling ≡ still.gauge.ceiling
  after_ceiling = s.ceiling ∙ ap (λ (g : Gauge). g.ceiling) p.gauge

  after_total : after.gauge.total ≡ source.gauge.total
  after_total = s.total ∙ ap (λ (g : Gauge). g.total) p.gauge ∙ k.same.total

  spared : (j : ℕ) → Spared (places over j) (places after j)
  spared j =
      ⊎_elim (λ e. rw e (spared_itself (places over j)))
      (λ t. rw t.is (spared_given t.line t.ticket (places over j) t.off)) (s.each j)

  -- ---- a record that stays
  abbrev stays : ℕ → Bool
  stays i = is_tracked (places source i) && not (k.dropped i)

  abbrev keeps_line : ℕ → Bool
  keeps_line i = is_lined (places source i) && not (k.loses i)

  place_is : (i : ℕ) → i ≤ size source → place_of (places still) i ≡ count_where stays i
  unfolding place_of
  place_is i within =
      count_is_where is_tracked (places still) stays i (λ j below. kept_tracks source still _ _ k j (omega arith))

  line_is : (i : ℕ) → i ≤ size source → line_for (places still) i ≡ count_where keeps_line i
  unfolding line_for
  line_is i within =
      count_is_where is_lined (places still) keeps_line i (λ j below. kept_has_line source still _ _ k j (omega arith))

  module _ (i : ℕ) (inside : i < size source) (tracked : is_tracked (places source i) ≡ true) (stay : k.dropped i ≡ false) where
    abbrev place : ℕ
    place = place_of (places still) i

    abbrev line : ℕ
    line = line_for (places still) i

    still_inside : i < size still
    still_inside = rw k.same.records inside

    on_table : 0 < (places still i).state
    on_table = tracked_state (places still i) (kept_tracks source still _ _ k i inside ∙ rw (tracked, stay))

    here : places over place ≡ moved line (places still i)
    here = p.at i still_inside on_table

    here_spared : Spared (moved line (places still i)) (places after place)
    here_spared = rw here at (spared place)

    same_numbers : Alike (places source i) (places after place)
    same_numbers =
        alike_then (places source i) (places still i) (places after place) (kept_alike source still _ _ k i stay)
        (alike_then (places still i) (moved line (places still i)) (places after place) (alike_moved line (places still i))
        here_spared.alike)

    -- with its line
    record Own : Type 0 where
      lined : 1 < (places source i).state
      as_was : places still i ≡ places source i
      on_line : 1 < (moved line (places source i)).state
      now : places after place ≡ moved line (places source i)

    own : keeps_line i ≡ true → Own
    own e =
        let (lined, keeps) = both _ _ e in
        let on : 1 < (places source i).state = lined_state (places source i) lined in
        let whole : places still i ≡ places source i = kept_whole source still _ _ k i (not-true (k.loses i) keeps) stay in
        let still_on : 1 < (moved line (places source i)).state = omega (arith, (moves line (places source i)).stage) in
        record {
          lined = on;
          as_was = whole;
          on_line = still_on;
          now = (rw whole at here_spared).on_line still_on;
        }

    shows : Own → line_at after.lines (line_of (places after place)) ≡ line_at source.lines (line_of (places source i))
    shows o =
        rw (o.now, moves_line (moves line (places source i)) o.lined, s.lines)
        (p.picture i still_inside (rw o.as_was o.lined)
        ∙ ap (λ (lines : List ℕ). line_at lines (line_of (places still i))) k.same.lines
        ∙ ap (λ (r : Record). line_at source.lines (line_of r)) o.as_was)

    stands : Stands source after i place line (keeps_line i)
    stands =
        record {
          inside = omega (arith, place_inside still i still_inside on_table, k.tracked_most, after_size);
          tracked = state_tracked (places after place) (here_spared.tracked (omega (arith, (moves line (places still i)).stage, on_table)));
          key = same_numbers.key;
          heat = same_numbers.heat;
          slack = same_numbers.slack;
          lined = λ e. rw (own e).now (state_lined (moved line (places source i)) (own e).on_line);
          line = λ e. rw (own e).now (moves_line (moves line (places source i)) (own e).lined);
          filled = λ e. rw (own e).now (moved_filled line (places source i) (own e).lined);
          ticket = λ e. rw (own e).now (moves line (places source i)).ticket;
          picture = λ e. shows (own e);
          empty = λ e.
              let off : (places still i).state ≤ 1 = lineless_state (places still i) (kept_has_line source still _ _ k i inside ∙ e) in
              here_spared.unfilled
              (off_unfilled (moved line (places still i)) (omega (arith, (moves line (places still i)).stage)));
        }

  -- ---- the other places
  after_free : (j : ℕ) → j < size after → count_where stays (size source) ≤ j → places after j ≡ freed
  unfolding tracked_count place_of freed
  after_free j below past =
      let tracked_is : tracked_count still ≡ count_where stays (size source) =
      rw k.same.records (place_is (size source) (omega arith)) in
      let free : places over j ≡ freed = p.free j (omega (arith, tracked_is, past)) (omega (arith, after_size, below)) in
      (spared j).free (rw free) ∙ free

  keeps : Resized source after
  keeps =
      record {
        loses = k.loses;
        dropped = k.dropped;
        coldest = rw after_lines k.coldest;
        victims = rw after_size k.victims;
        not_below = rw after_ceiling k.not_below;
        hottest_dropped = rw after_ceiling k.covers;
        no_higher = rw after_ceiling k.no_higher;
        total = after_total;
        stands = λ i inside tracked stay.
            rw (place_is i (omega arith), line_is i (omega arith)) at (stands i inside tracked stay);
        rest = after_free;
      }

  -- ---- in order
  over_sound : (j : ℕ) → j < size target → Sound source.gauge.total (line_total target) (places over j)
  over_sound j below =
      elim (dec_lt j (tracked_count still)) [
        | yes l ↦
            let (i, inside, tracked, is) = place_reached still j l in
            rw (is, p.at i inside tracked)
            (moved_sound source.gauge.total (line_total source) (line_total target) (line_for (places still) i) (places still i) tracked
            (λ lined. omega (arith, line_inside still i inside lined, k.lined_most))
            (still_sound i (rw k.same.records at inside)))
        | no past ↦ rw (p.free j (omega arith) below) (freed_sound source.gauge.total (line_total target))
      ]

  after_sound : (j : ℕ) → j < size after → Sound source.gauge.total (line_total target) (places after j)
  after_sound j below =
      let was : Sound source.gauge.total (line_total target) (places over j) = over_sound j (rw after_size at below) in
      ⊎_elim (λ e. rw e was)
      (λ t.
      rw t.is (given_sound source.gauge.total (line_total target) t.line t.ticket (places over j) (rw p.lines at t.below) was))
      (s.each j)

  after_lined : lined_count after ≤ line_total after
  after_lined = omega (arith, s.lined, over_lined, after_lines, p.lines)

  after_ordered : Ordered (places after) (size after) (line_total after) after.gauge
  unfolding lined_count
  after_ordered =
      record {
        total_most = rw after_total order.total_most;
        ceiling_most =
            rw (after_ceiling, after_total)
            (k.no_higher source.gauge.total order.ceiling_most (λ i inside went. order.heat_most i inside));
        heat_most = λ j below. omega (arith, after_total, (after_sound j below).heat);
        state_most = λ j below. rw after_lines (after_sound j below).state;
        free_zero = λ j below. (after_sound j below).free;
        unlined_ticket = λ j below. (after_sound j below).ticket;
        lined_most = after_lined;
      }

  after_accepted : plain_verdict after ≡ Ok tt
  unfolding plain_verdict verdict sizes_test order_test order_good
  after_accepted =
      rw (
        s.sizes ∙ p.sizes ∙ a.target_sizes,
        ordered_in_order (places after) (size after) (line_total after) after.gauge after_ordered,
      )

  after_serial : (source.gauge.serial ≤ after.gauge.serial) × (after.gauge.serial ≤ source.gauge.serial + line_total target)
  after_serial =
      let packed_serial = ap (λ (g : Gauge). g.serial) p.gauge in
      (omega (arith, s.grows, packed_serial, k.same.serial), omega (arith, s.serial, packed_serial, k.same.serial, p.lines))

  -- what an accepted resize leaves
  left : (resize_outcome source target).after ≡ after
  unfolding resize_outcome resize_steps unless
  left = rw a.verdict

pub resize_keeps : (source target : Memory) → IsBytes source.table → (resize_outcome source target).answer ≡ Ok tt →
    Resized source (resize_outcome source target).after
resize_keeps source target bytes done =
    let a = resize_accepted source target done in
    rw (left source target bytes a) (keeps source target bytes a)

pub resize_in_order : (source target : Memory) → IsBytes source.table → (resize_outcome source target).answer ≡ Ok tt →
    plain_verdict (resize_outcome source target).after ≡ Ok tt
resize_in_order source target bytes done =
    let a = resize_accepted source target done in
    rw (left source target bytes a) (after_accepted source target bytes a)

-- no ticket is taken back, and at most one given for each line
pub resize_gives : (source target : Memory) → IsBytes source.table → (resize_outcome source target).answer ≡ Ok tt →
    (source.gauge.serial ≤ (resize_outcome source target).after.gauge.serial)
    × ((resize_outcome source target).after.gauge.serial ≤ source.gauge.serial + line_total target)
resize_gives source target bytes done =
    let a = resize_accepted source target done in
    rw (left source target bytes a) (after_serial source target bytes a)

-- ---- where there is room for all
pub resize_loses_nobody : (source target : Memory) → (resize_outcome source target).answer ≡ Ok tt → IsBytes source.table →
    lined_count source ≤ line_total target → tracked_count source ≤ size target → (r : Resized source (resize_outcome source target).after) →
    NobodyLoses source (resize_outcome source target).after r
unfolding count_where
resize_loses_nobody source target done bytes lines records r =
    let a = resize_accepted source target done in
    let same_lines : line_total (resize_outcome source target).after ≡ line_total target =
    rw (left source target bytes a) (after_lines source target bytes a) in
    let same_size : size (resize_outcome source target).after ≡ size target =
    rw (left source target bytes a) (after_size source target bytes a) in
    record {
      lines = none_counted r.loses (λ i. i) (size source) (omega (arith, r.coldest.many, same_lines));
      records = none_counted r.dropped (λ i. i) (size source) (omega (arith, r.victims.many, same_size));
    }

-- | into others of another K and C
-- and into others of the same
pub resize_same : (source target : Memory) → (resize_outcome source target).answer ≡ Ok tt → IsBytes source.table →
    size target ≡ size source → line_total target ≡ line_total source → (r : Resized source (resize_outcome source target).after) →
    NobodyLoses source (resize_outcome source target).after r
unfolding lined_count tracked_count
resize_same source target done bytes records lines =
    let a = resize_accepted source target done in
    resize_loses_nobody source target done bytes (rw lines (order source target bytes a).lined_most)
    (rw records (count_within is_tracked (places source) (size source)))
