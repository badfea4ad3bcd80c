-- A table that holds what lists keep is in order, so no later good call is refused with 3: its lines are apart, so at most as many records are on lines as
-- there are lines. And in such a table with fewer lines than records, a read that finds no free record finds a victim.
-- Assumes nothing.
use Prim.Native.Nat.{ℕ, zero, suc, ◌+◌, ◌*◌, ◌-◌, ◌≤◌, ◌<◌, min}
use mathlib.Core.Path.{◌≡◌}
use mathlib.Core.Bool.{true, ◌||◌, or-true}
use mathlib.Core.Logic.{◌≢◌}
use native.Mathlib.Nat.{le_trans}
use native.Mathlib.Decide.{dec_lt, ℕ_discrete}
use native.Mathlib.Omega.{arith}
use borrow.Author.Tests.{lt-ltb, le-ltb, le-leb, eq-eqb, ltb-false, leb-true, eqb-true}
use lib.Dec.{ltb, eqb}
use Rattle.rules.specs.declared.Record.{Record}
use Rattle.rules.specs.declared.Gauge.{Gauge}
use Rattle.std.specs.Prelude.{None}
use Rattle.std.specs.Prelude.{if◌then◌else◌}
use Rattle.rules.specs.Pass.{pass, sum_of, count_of}
use Rattle.rules.specs.Table.{is_tracked, is_lined, is_zero, line_of, record_in_order, in_order, free_record, victim, most_total}
use Rattle.rules.specs.Replay.{Truth}
use Rattle.rules.proofs.Searches.{both, all_at, all_of_lem, sum_most, sum_le, count_below}
use Rattle.rules.proofs.Finds.{free_missing, victim_missing}
use Rattle.rules.proofs.Invariant.{Tracks}

-- a sum that has one more than another at no two places is at most one more
one_more : (a b : Record → ℕ) (f : ℕ → Record) (n : ℕ) → ((i : ℕ) → i < n → a (f i) ≤ b (f i) + 1) →
    ((i j : ℕ) → i < n → j < n → b (f i) < a (f i) → b (f j) < a (f j) → i ≡ j) → sum_of a f n ≤ sum_of b f n + 1
unfolding sum_of pass
one_more a b f zero each apart = omega arith
one_more a b f (suc n) each apart =
    elim (dec_lt (b (f n)) (a (f n))) [
      | yes more ↦
          let others : (i : ℕ) → i < n → a (f i) ≤ b (f i) =
          λ i below. elim (dec_lt (b (f i)) (a (f i))) [
            | yes also ↦ absurd (omega (arith, apart i n (omega arith) (omega arith) also more))
            | no not_more ↦ omega arith
          ] in
          omega (arith, each n (omega arith), sum_le a b f f n others)
      | no not_more ↦ omega (
        arith,
        one_more a b f n (λ i below. each i (omega arith)) (λ i j i-below j-below. apart i j (omega arith) (omega arith)),
      )
    ]

-- 1 for a record on a line below k, whose state is 2 to 1 + 2 × k, and 0 for any other
is_on_below : ℕ → Record → ℕ
is_on_below k r = min 1 (r.state - 1) - (r.state - (1 + 2 * k))

below_none : (r : Record) → is_on_below 0 r ≤ 0
unfolding is_on_below
below_none r = omega arith

below_next : (k : ℕ) (r : Record) → is_on_below (suc k) r ≤ is_on_below k r + 1
unfolding is_on_below
below_next k r = omega arith

below_next_only : (k : ℕ) (r : Record) → is_on_below k r < is_on_below (suc k) r → (2 + 2 * k ≤ r.state) × (r.state ≤ 3 + 2 * k)
unfolding is_on_below
below_next_only k r more = omega arith

lined_below : (c : ℕ) (r : Record) → r.state ≤ 1 + 2 * c → (if is_lined r then 1 else 0) ≤ is_on_below c r
unfolding is_on_below is_lined
lined_below c r most =
    elim (dec_lt 1 r.state) [
      | yes lined ↦ rw (lt-ltb 1 r.state lined) (omega arith)
      | no not-lined ↦ rw (le-ltb 1 r.state (omega arith)) (omega arith)
    ]

-- records on lines that are apart and below c are at most c
pub lined_most : (f : ℕ → Record) (n c : ℕ) → ((i : ℕ) → i < n → (f i).state ≤ 1 + 2 * c) →
    ((i j : ℕ) → i < n → j < n → 1 < (f i).state → 1 < (f j).state → line_of (f i) ≡ line_of (f j) → i ≡ j) →
    count_of is_lined f n ≤ c
unfolding count_of line_of
lined_most f n c below apart =
    le_trans (sum_le _ (is_on_below c) f f n (λ i inside. lined_below c (f i) (below i inside))) (on_below c)
  where
    on_below : (k : ℕ) → sum_of (is_on_below k) f n ≤ k
    on_below zero = omega (arith, sum_most (is_on_below 0) f n 0 (λ i inside. below_none (f i)))
    on_below (suc k) =
        omega (
          arith,
          on_below k,
          one_more (is_on_below (suc k)) (is_on_below k) f n (λ i inside. below_next k (f i))
              (λ i j i-inside j-inside i-on j-on.
              let at_i = below_next_only k (f i) i-on in
              let at_j = below_next_only k (f j) j-on in
              apart i j i-inside j-inside (omega arith) (omega arith) (omega arith)),
        )

tracked_or_zero : (r : Record) → (r.state ≡ 0 → is_zero r ≡ true) → (is_tracked r || is_zero r) ≡ true
unfolding is_tracked
tracked_or_zero r blank =
    elim (ℕ_discrete r.state 0) [
      | yes free ↦ rw (blank free) (or-true (ltb 0 r.state))
      | no tracked ↦ rw (lt-ltb 0 r.state (omega arith))
    ]

lined_or_unticketed : (r : Record) → (r.state ≤ 1 → r.ticket ≡ 0) → (is_lined r || eqb r.ticket 0) ≡ true
unfolding is_lined
lined_or_unticketed r none =
    elim (dec_lt 1 r.state) [
      | yes lined ↦ rw (lt-ltb 1 r.state lined)
      | no off ↦ rw (eq-eqb r.ticket 0 (none (omega arith))) (or-true (ltb 1 r.state))
    ]

-- what a table in order has, by place
pub record Ordered (f : ℕ → Record) (n c : ℕ) (g : Gauge) : Type 0 where
  pub total_most : g.total ≤ most_total
  pub ceiling_most : g.ceiling ≤ g.total
  pub heat_most : (i : ℕ) → i < n → (f i).heat ≤ g.total
  pub state_most : (i : ℕ) → i < n → (f i).state ≤ 1 + 2 * c
  pub free_zero : (i : ℕ) → i < n → (f i).state ≡ 0 → is_zero (f i) ≡ true
  pub unlined_ticket : (i : ℕ) → i < n → (f i).state ≤ 1 → (f i).ticket ≡ 0
  pub lined_most : count_of is_lined f n ≤ c

pub ordered_in_order : (f : ℕ → Record) (n c : ℕ) (g : Gauge) → Ordered f n c g → in_order f n c g ≡ true
unfolding in_order record_in_order
ordered_in_order f n c g o =
    rw (
      le-leb g.total most_total o.total_most,
      le-leb g.ceiling g.total o.ceiling_most,
      all_of_lem (record_in_order g.total c) f n each,
    )
    (le-leb (count_of is_lined f n) c o.lined_most)
  where
    each : (i : ℕ) → i < n → record_in_order g.total c (f i) ≡ true
    each i inside =
        rw (
          le-leb (f i).heat g.total (o.heat_most i inside),
          le-leb (f i).state (1 + 2 * c) (o.state_most i inside),
          tracked_or_zero (f i) (o.free_zero i inside),
        )
        (lined_or_unticketed (f i) (o.unlined_ticket i inside))

pub tracks_in_order : (f : ℕ → Record) (n c : ℕ) (g : Gauge) (t : Truth) → Tracks f n c g t → in_order f n c g ≡ true
tracks_in_order f n c g t s =
    ordered_in_order f n c g
    record {
      total_most = s.total_most;
      ceiling_most = s.ceiling_most;
      heat_most = s.heat_most;
      state_most = s.state_most;
      free_zero = s.free_zero;
      unlined_ticket = s.unlined_ticket;
      lined_most = lined_most f n c s.state_most s.lines_apart;
    }

-- a record that is free, and one that has no line
zero_if_free : (r : Record) → (is_tracked r || is_zero r) ≡ true → r.state ≡ 0 → is_zero r ≡ true
unfolding is_tracked
zero_if_free r e free = rw (le-ltb 0 r.state (omega arith)) at e

unticketed : (r : Record) → (is_lined r || eqb r.ticket 0) ≡ true → r.state ≤ 1 → r.ticket ≡ 0
unfolding is_lined
unticketed r e off = eqb-true r.ticket 0 (rw (le-ltb 1 r.state off) at e)

pub in_order_says : (f : ℕ → Record) (n c : ℕ) (g : Gauge) → in_order f n c g ≡ true → Ordered f n c g
unfolding in_order record_in_order
in_order_says f n c g e =
    let (rest, lined) = both _ _ e in
    let (gauge, records) = both _ _ rest in
    let (total, ceiling) = both _ _ gauge in
    let at_place : (i : ℕ) → i < n → ((f i).heat ≤ g.total) × ((f i).state ≤ 1 + 2 * c)
    × ((f i).state ≡ 0 → is_zero (f i) ≡ true) × ((f i).state ≤ 1 → (f i).ticket ≡ 0) =
    λ i inside.
    let (rest, ticket) = both _ _ (all_at (record_in_order g.total c) f n records i inside) in
    let (sizes, blank) = both _ _ rest in
    let (heat, state) = both _ _ sizes in
    (leb-true _ _ heat, leb-true _ _ state, zero_if_free (f i) blank, unticketed (f i) ticket) in
    record {
      total_most = leb-true _ _ total;
      ceiling_most = leb-true _ _ ceiling;
      heat_most = λ i inside. (at_place i inside).0;
      state_most = λ i inside. (at_place i inside).1;
      free_zero = λ i inside. (at_place i inside).2;
      unlined_ticket = λ i inside. (at_place i inside).3;
      lined_most = leb-true _ _ lined;
    }

-- the order by which a victim is chosen
pub has_victim : (f : ℕ → Record) (n c : ℕ) → count_of is_lined f n ≤ c → c < n → free_record f n ≡ None → victim f n ≢ None
unfolding is_lined
has_victim f n c most fewer no-free no-victim =
    let (i, inside, not-lined) = count_below is_lined f n (omega arith) in
    omega (arith, ltb-false 1 (f i).state not-lined, free_missing f n no-free i inside, victim_missing f n no-victim i inside)
