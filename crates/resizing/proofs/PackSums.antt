-- Sums and counts over a packed table are those over the tracked records that were moved there; and the lines that are used in it are the
-- first ones, as many as are on lines. Assumes nothing.
use Prim.Native.Nat.{ℕ, ◌≤◌, ◌<◌}
use mathlib.Core.Path.{◌≡◌, refl, ◌∙◌}
use mathlib.Core.Bool.{Bool, true, false}
use mathlib.Core.Logic.{◌≢◌}
use native.Mathlib.Decide.{dec_lt}
use native.Mathlib.Omega.{arith}
use borrow.Author.Tests.{lt-ltb, le-ltb, ltb-true, ne_eqb}
use lib.Dec.{ltb}
use Rattle.std.specs.Prelude.{◌&&◌, if◌then◌else◌}
use Rattle.rules.specs.declared.Record.{Record}
use Rattle.rules.specs.Pass.{sum_of, count_of, sum_where, count_where}
use Rattle.rules.specs.Table.{Memory, is_tracked, is_lined, line_of, is_on, is_used, places, size}
use Rattle.rules.proofs.Chosen.{sum_same}
use Rattle.rules.proofs.LineKeeps.{used_at}
use Rattle.rules.proofs.Searches.{clash, any_none}
use Rattle.resizing.specs.Resize.{tracked_count, lined_count, place_of, line_for, moved, packed}
use Rattle.resizing.proofs.Ranks.{sum_ranks, sum_padded}
use Rattle.resizing.proofs.Packing.{Moves, moves, moves_line, freed_state, Packs, place_inside, line_inside, line_reached}

-- the tests of a record's state
moved_over : (least n : ℕ) (r : Record) → least ≤ 1 → ltb least (moved n r).state ≡ ltb least r.state
moved_over least n r small =
    elim (dec_lt least r.state) [
      | yes l ↦ rw (lt-ltb least r.state l, lt-ltb least (moved n r).state (omega (arith, (moves n r).stage))) refl
      | no l ↦ rw (le-ltb least r.state (omega arith), le-ltb least (moved n r).state (omega (arith, (moves n r).stage))) refl
    ]

pub lined_tracked : (r : Record) → is_lined r ≡ true → is_tracked r ≡ true
unfolding is_lined is_tracked
lined_tracked r e = lt-ltb 0 r.state (omega (arith, ltb-true 1 r.state e))

module _ (m target : Memory) (p : Packs m target) where
  -- where a record of the packed table comes from
  pub record Came (j : ℕ) : Type 0 where
    pub from : ℕ
    pub inside : from < size m
    pub tracked : 0 < (places m from).state
    pub place : j ≡ place_of (places m) from
    pub moves : Moves (line_for (places m) from) (places m from) (places (packed m target) j)

  pub comes : (i j : ℕ) → i < size m → 0 < (places m i).state → j ≡ place_of (places m) i → Came j
  comes i j inside tracked is =
      record { from = i; inside = inside; tracked = tracked; place = is; moves = rw (is, p.at i inside tracked) (moves _ _) }

  pub came : (j : ℕ) → 0 < (places (packed m target) j).state → Came j
  came j on = let (i, inside, tracked, is) = p.from j on in comes i j inside tracked is

  -- ---- lines in use
  another : (line : ℕ) → lined_count m ≤ line → (j : ℕ) → 1 < (places (packed m target) j).state →
      line_of (places (packed m target) j) ≢ line
  another line above j on =
      let c = came j (omega arith) in
      let lined : 1 < (places m c.from).state = omega (arith, c.moves.stage) in
      omega (arith, line_inside m c.from c.inside lined, moves_line c.moves lined)

  pub packed_unused : (line : ℕ) → lined_count m ≤ line → is_used (places (packed m target)) (size (packed m target)) line ≡ false
  unfolding is_used is_on is_lined
  packed_unused line above = any_none (is_on line) (places (packed m target)) (size (packed m target)) (λ j below.
      elim (dec_lt 1 (places (packed m target) j).state) [
        | yes on ↦ rw (lt-ltb 1 (places (packed m target) j).state on) (ne_eqb _ line (another line above j on))
        | no off ↦ rw (le-ltb 1 (places (packed m target) j).state (omega arith)) refl
      ])

module _ (m target : Memory) (p : Packs m target) (records_fit : tracked_count m ≤ size target) where
  -- an amount for each place, and none for those that are free
  packed_sum : (amount : ℕ → ℕ) → ((j : ℕ) → tracked_count m ≤ j → j < size target → amount j ≡ 0) →
      sum_of amount (λ j. j) (size target)
      ≡ sum_of (λ i. if is_tracked (places m i) then amount (place_of (places m) i) else 0) (λ i. i) (size m)
  unfolding tracked_count place_of
  packed_sum amount none =
      sum_padded amount (tracked_count m) (size target) records_fit none ∙ sum_ranks is_tracked (places m) amount (size m)

  -- a choice of places, as one of those before the packing
  abbrev pub before : (ℕ → Bool) → ℕ → Bool
  before chosen i = is_tracked (places m i) && chosen (place_of (places m) i)

  stands : (i : ℕ) → i < size m → is_tracked (places m i) ≡ true →
      places (packed m target) (place_of (places m) i) ≡ moved (line_for (places m) i) (places m i)
  unfolding is_tracked
  stands i inside e = p.at i inside (ltb-true _ _ e)

  freed_untracked : (j : ℕ) → tracked_count m ≤ j → j < size target → is_tracked (places (packed m target) j) ≡ false
  unfolding is_tracked
  freed_untracked j after inside = le-ltb 0 _ (omega (arith, freed_state (p.free j after inside)))

  module _ (a : Record → ℕ) (same : (n : ℕ) (r : Record) → is_tracked r ≡ true → a (moved n r) ≡ a r) (chosen : ℕ → Bool)
      (tracked : (j : ℕ) → chosen j ≡ true → is_tracked (places (packed m target) j) ≡ true) where
    none_free : (j : ℕ) → tracked_count m ≤ j → j < size target → (if chosen j then a (places (packed m target) j) else 0) ≡ 0
    none_free j after inside = go (chosen j) refl
      where
        go : (b : Bool) → chosen j ≡ b → (if b then a (places (packed m target) j) else 0) ≡ 0
        go true e = clash (tracked j e) (freed_untracked j after inside)
        go false e = refl

    each : (i : ℕ) → i < size m → (b c : Bool) → is_tracked (places m i) ≡ b →
        (if b then if c then a (places (packed m target) (place_of (places m) i)) else 0 else 0)
        ≡ (if b && c then a (places m i) else 0)
    each i inside true true e = rw (stands i inside e) (same _ _ e)
    each i inside true false e = refl
    each i inside false c e = refl

    pub where_packed : sum_where chosen a (places (packed m target)) (size target) ≡ sum_where (before chosen) a (places m) (size m)
    unfolding sum_where
    where_packed =
        packed_sum (λ j. if chosen j then a (places (packed m target) j) else 0) none_free
        ∙ sum_same _ _ (λ i. i) (λ i. i) (size m)
        (λ i inside. each i inside (is_tracked (places m i)) (chosen (place_of (places m) i)) refl)

  pub count_packed : (chosen : ℕ → Bool) → ((j : ℕ) → chosen j ≡ true → is_tracked (places (packed m target) j) ≡ true) →
      count_where chosen (size target) ≡ count_where (before chosen) (size m)
  unfolding count_where count_of sum_where
  count_packed chosen tracked = where_packed (λ r. 1) (λ n r e. refl) chosen tracked

  -- as many pass a test of a tracked record's state as did
  module _ (test : Record → Bool) (same : (n : ℕ) (r : Record) → test (moved n r) ≡ test r)
      (tracked : (r : Record) → test r ≡ true → is_tracked r ≡ true) where
    alike : (i : ℕ) → i < size m → (b c : Bool) → is_tracked (places m i) ≡ b → test (places m i) ≡ c →
        (b && test (places (packed m target) (place_of (places m) i))) ≡ c
    alike i inside true c e t = rw (stands i inside e) (same _ _ ∙ t)
    alike i inside false true e t = clash (tracked _ t) e
    alike i inside false false e t = refl

    counted : count_of test (places (packed m target)) (size target) ≡ count_of test (places m) (size m)
    unfolding count_of count_where
    counted =
        sum_same _ (λ j. if test (places (packed m target) j) then 1 else 0) (places (packed m target)) (λ j. j) (size target)
        (λ j below. refl)
        ∙ count_packed (λ j. test (places (packed m target) j)) (λ j. tracked (places (packed m target) j))
        ∙ sum_same _ _ (λ i. i) (places m) (size m)
        (λ i inside. rw (alike i inside (is_tracked (places m i)) (test (places m i)) refl refl) refl)

  pub packed_lined : lined_count (packed m target) ≡ lined_count m
  unfolding lined_count is_lined
  packed_lined = rw p.size (counted is_lined (λ n r. moved_over 1 n r (omega arith)) lined_tracked)

  pub packed_used : (line : ℕ) → line < lined_count m → is_used (places (packed m target)) (size (packed m target)) line ≡ true
  packed_used line below =
      let (i, inside, lined, is) = line_reached m line below in
      let r = moved (line_for (places m) i) (places m i) in
      let place : place_of (places m) i < size (packed m target) =
      omega (arith, place_inside m i inside (omega arith), p.size) in
      let on : is_used (places (packed m target)) (size (packed m target)) (line_of r) ≡ true =
      used_at (places (packed m target)) (size (packed m target)) (place_of (places m) i) r place (p.at i inside (omega arith))
      (omega (arith, (moves (line_for (places m) i) (places m i)).lined lined)) in
      rw is (rw (moves_line (moves (line_for (places m) i) (places m i)) lined) at on)
