-- What packing does to a memory: each tracked record stands at its place, on the line that is its own there, which has the bytes of the
-- line that it had; every other place is free. Assumes nothing.
use Prim.Native.Nat.{ℕ, zero, suc, ◌+◌, ◌*◌, ◌-◌, ◌%◌, ◌≤◌, ◌<◌, ◌^◌}
use mathlib.Core.Path.{◌≡◌, refl, ◌∙◌, ap}
use mathlib.Core.Bool.{Bool, true, false}
use native.Mathlib.Decide.{dec_lt, ℕ_discrete}
use native.Mathlib.Omega.{arith}
use borrow.Author.Tests.{lt-ltb, le-ltb, ltb-true, eqb-true, eqb-false}
use lib.Dec.{eqb}
use lib.ListN.{length, drop, length-drop, length-replicate}
use lib.Seq.{length-take-le}
use Rattle.std.specs.Prelude.{if◌then◌else◌}
use Rattle.rules.specs.declared.Record.{Record}
use Rattle.rules.specs.Bytes.{IsBytes, record_count, line_size, line_count, line_at, put_line}
use Rattle.rules.specs.Table.{Memory, is_tracked, is_lined, is_filled, line_of, filled_state, empty_state, with_state, freed, places, size, line_total, with_table, with_gauge, with_lines, write, fresh_memory}
use Rattle.rules.specs.Calls.{most_records, sizes_good}
use Rattle.rules.specs.Replay.{at}
use Rattle.rules.proofs.Changes.{at_same, at_other}
use Rattle.rules.proofs.Places.{IsRecord, record_at_is, record_zero, zero_bytes, length-put_line, line_same, line_other}
use Rattle.rules.proofs.Memories.{sizes_say, places_write, size_write, sizes_write, bytes_write}
use Rattle.resizing.specs.Resize.{tracked_count, lined_count, place_of, line_for, moved, carried, packed_one, packed_first, packed}
use Rattle.resizing.proofs.Counts.{count_next, count_before, count_apart}
use Rattle.resizing.proofs.Ranks.{count_reached}

-- ---- a record that is moved
-- the same but for its line
pub record Moves (n : ℕ) (r q : Record) : Type 0 where
  pub key : q.key ≡ r.key
  pub heat : q.heat ≡ r.heat
  pub slack : q.slack ≡ r.slack
  pub ticket : q.ticket ≡ r.ticket
  -- free, without a line or on one as before
  pub stage : 2 - q.state ≡ 2 - r.state
  -- and filled or empty as before
  pub lined : 1 < r.state → q.state ≡ 2 + 2 * n + r.state % 2

pub moves : (n : ℕ) (r : Record) → Moves n r (moved n r)
unfolding moved is_filled is_lined filled_state empty_state
moves n r =
    elim (dec_lt 1 r.state) [
      | yes l ↦ rw (lt-ltb 1 r.state l) (go (eqb (r.state % 2) 1) refl l)
      | no l ↦
          rw (le-ltb 1 r.state (omega arith))
          record { key = refl; heat = refl; slack = refl; ticket = refl; stage = refl; lined = λ e. absurd (l e) }
    ]
  where
    go : (b : Bool) → eqb (r.state % 2) 1 ≡ b → 1 < r.state → Moves n r (with_state (if b then 3 + 2 * n else 2 + 2 * n) r)
    go true e l =
        record {
          key = refl;
          heat = refl;
          slack = refl;
          ticket = refl;
          stage = omega arith;
          lined = λ on. omega (arith, eqb-true _ _ e);
        }
    go false e l =
        record {
          key = refl;
          heat = refl;
          slack = refl;
          ticket = refl;
          stage = omega arith;
          lined = λ on. omega (arith, eqb-false _ _ e);
        }

pub moves_line : {n : ℕ} {r q : Record} → Moves n r q → 1 < r.state → line_of q ≡ n
unfolding line_of
moves_line s lined = omega (arith, s.lined lined)

moved_is : (n : ℕ) (r : Record) → IsRecord r → (1 < r.state → n < 2 ^ 62) → IsRecord (moved n r)
moved_is n r is small =
    let q = moves n r in
    record {
      key = rw q.key is.key;
      heat = rw q.heat is.heat;
      slack = rw q.slack is.slack;
      state = elim (dec_lt 1 r.state) [
        | yes l ↦ omega (arith, q.lined l, small l)
        | no l ↦ omega (arith, q.stage, is.state)
      ];
      ticket = rw q.ticket is.ticket;
    }

-- ---- the table that the first records are moved to
module _ (f : ℕ → Record) where
  record Placed (n : ℕ) (p : ℕ → Record) : Type 0 where
    stands : (i : ℕ) → i < n → 0 < (f i).state → p (place_of f i) ≡ moved (line_for f i) (f i)
    free : (j : ℕ) → place_of f n ≤ j → p j ≡ freed

  pub place_before : (i n : ℕ) → i < n → 0 < (f i).state → place_of f i < place_of f n
  unfolding place_of is_tracked
  place_before i n inside tracked = count_before is_tracked f i n inside (lt-ltb 0 (f i).state tracked)

  pub line_before : (i n : ℕ) → i < n → 1 < (f i).state → line_for f i < line_for f n
  unfolding line_for is_lined
  line_before i n inside lined = count_before is_lined f i n inside (lt-ltb 1 (f i).state lined)

  placed_more : (n : ℕ) (p : ℕ → Record) → Placed n p → 0 < (f n).state →
      Placed (suc n) (at (place_of f n) (moved (line_for f n) (f n)) p)
  placed_more n p s tracked =
      record {
        stands = λ i inside on.
            elim (ℕ_discrete i n) [
              | yes e ↦ rw (e, at_same (place_of f n) (moved (line_for f n) (f n)) p) refl
              | no e ↦
                  let earlier = place_before i n (omega arith) on in
                  rw (at_other (place_of f n) (place_of f i) (moved (line_for f n) (f n)) p (omega arith)) (s.stands i (omega arith) on)
            ];
        free = λ j after.
            let less = place_before n (suc n) (omega arith) tracked in
            rw (at_other (place_of f n) j (moved (line_for f n) (f n)) p (omega arith)) (s.free j (omega arith));
      }

  placed_less : (n : ℕ) (p : ℕ → Record) → Placed n p → (f n).state ≡ 0 → Placed (suc n) p
  unfolding place_of is_tracked
  placed_less n p s untracked =
      record {
        stands = λ i inside on.
            elim (ℕ_discrete i n) [ yes e ↦ absurd (omega (arith, rw e at on)) | no e ↦ s.stands i (omega arith) on ];
        free = λ j after. s.free j (omega (arith, count_next is_tracked f n false (le-ltb 0 (f n).state (omega arith))));
      }

-- ---- places and lines of a memory's records
module _ (m : Memory) where
  pub place_inside : (i : ℕ) → i < size m → 0 < (places m i).state → place_of (places m) i < tracked_count m
  unfolding tracked_count place_of
  place_inside i inside tracked = place_before (places m) i (size m) inside tracked

  pub line_inside : (i : ℕ) → i < size m → 1 < (places m i).state → line_for (places m) i < lined_count m
  unfolding lined_count line_for
  line_inside i inside lined = line_before (places m) i (size m) inside lined

  pub lines_differ : (i j : ℕ) → 1 < (places m i).state → 1 < (places m j).state → line_for (places m) i ≡ line_for (places m) j → i ≡ j
  unfolding line_for is_lined
  lines_differ i j i-lined j-lined e = count_apart is_lined (places m) i j (lt-ltb 1 _ i-lined) (lt-ltb 1 _ j-lined) e

  place_total : place_of (places m) (size m) ≡ tracked_count m
  unfolding tracked_count place_of
  place_total = refl

  pub place_reached : (j : ℕ) → j < tracked_count m → (i : ℕ) × (i < size m) × (0 < (places m i).state) × (j ≡ place_of (places m) i)
  unfolding tracked_count place_of is_tracked
  place_reached j below =
      let (i, inside, passes, is) = count_reached is_tracked (places m) (size m) j below in (i, inside, ltb-true _ _ passes, is)

  pub line_reached : (j : ℕ) → j < lined_count m → (i : ℕ) × (i < size m) × (1 < (places m i).state) × (j ≡ line_for (places m) i)
  unfolding lined_count line_for is_lined
  line_reached j below =
      let (i, inside, passes, is) = count_reached is_lined (places m) (size m) j below in (i, inside, ltb-true _ _ passes, is)

-- ---- the packed memory
pub freed_state : {r : Record} → r ≡ freed → r.state ≡ 0
unfolding freed
freed_state e = ap (λ (r : Record). r.state) e

module _ (m target : Memory) where
  -- what becomes of m's records and lines in the target
  pub record Packs : Type 0 where
    pub lines : line_total (packed m target) ≡ line_total target
    pub sizes : sizes_good (packed m target).table (packed m target).lines ≡ sizes_good target.table target.lines
    pub bytes : IsBytes (packed m target).table
    pub gauge : (packed m target).gauge ≡ m.gauge
    -- each tracked record stands at its place, and every other place is free
    pub at : (i : ℕ) → i < size m → 0 < (places m i).state →
        places (packed m target) (place_of (places m) i) ≡ moved (line_for (places m) i) (places m i)
    pub from : (j : ℕ) → 0 < (places (packed m target) j).state →
        (i : ℕ) × (i < size m) × (0 < (places m i).state) × (j ≡ place_of (places m) i)
    pub free : (j : ℕ) → tracked_count m ≤ j → j < size target → places (packed m target) j ≡ freed
    -- its line has the bytes of the line that it had
    pub picture : (i : ℕ) → i < size m → 1 < (places m i).state →
        line_at (packed m target).lines (line_for (places m) i) ≡ line_at m.lines (line_of (places m i))
    pub size : size (packed m target) ≡ size target

  -- what stays as it was
  record Alike (now : Memory) : Type 0 where
    many : size now ≡ size target
    line_many : line_total now ≡ line_total target
    good : sizes_good now.table now.lines ≡ sizes_good target.table target.lines
    table : IsBytes now.table
    gauge : now.gauge ≡ m.gauge

  -- the first so many records are in the table, and so many on the lines
  record Packed (records lines : ℕ) (now : Memory) : Type 0 where
    placed : Placed (places m) records (places now)
    pictures : (i : ℕ) → i < lines → 1 < (places m i).state →
        line_at now.lines (line_for (places m) i) ≡ line_at m.lines (line_of (places m i))
    alike : Alike now

  packed_none : Packed 0 0 (with_gauge m.gauge (fresh_memory target))
  unfolding with_gauge fresh_memory places size line_total sizes_good record_count freed
  packed_none =
      record {
        placed = record { stands = λ i inside. absurd (omega arith); free = λ j after. record_zero (length target.table) j };
        pictures = λ i inside. absurd (omega arith);
        alike = record {
          many = rw (length-replicate {A = ℕ} (length target.table) 0);
          line_many = refl;
          good = rw (length-replicate {A = ℕ} (length target.table) 0);
          table = zero_bytes (length target.table);
          gauge = refl;
        };
      }

  module _ (bytes : IsBytes m.table) (good : sizes_good m.table m.lines ≡ true) (target_good : sizes_good target.table target.lines ≡ true)
      (states : (i : ℕ) → i < size m → (places m i).state ≤ 1 + 2 * line_total m) (records_fit : tracked_count m ≤ size target)
      (lines_fit : lined_count m ≤ line_total target) where
    lines_few : line_total target < most_records
    unfolding line_total
    lines_few = let s = sizes_say target.table target.lines target_good in omega (arith, s.records_few, s.lines_fewer)

    moved_fits : (n : ℕ) → n < size m → IsRecord (moved (line_for (places m) n) (places m n))
    unfolding places
    moved_fits n inside =
        moved_is _ _ (record_at_is m.table n bytes)
        (λ lined. omega (arith, line_inside m n inside lined, lines_few))

    -- a record is put into the table
    put_next : (n : ℕ) (now : Memory) → n < size m → 0 < (places m n).state → Packed n n now →
        Packed (suc n) n (write now (place_of (places m) n) (moved (line_for (places m) n) (places m n)))
    unfolding write with_table line_total
    put_next n now inside tracked s =
        let i = place_of (places m) n in
        let r = moved (line_for (places m) n) (places m n) in
        let fits : i < size now = omega (arith, place_inside m n inside tracked, s.alike.many) in
        record {
          placed = rw (places_write now i r fits (moved_fits n inside)) (placed_more (places m) n (places now) s.placed tracked);
          pictures = s.pictures;
          alike = record {
            many = size_write now i r ∙ s.alike.many;
            line_many = s.alike.line_many;
            good = sizes_write now i r ∙ s.alike.good;
            table = bytes_write now i r s.alike.table;
            gauge = s.alike.gauge;
          };
        }

    whole : (n : ℕ) → n < size m → 1 < (places m n).state → length (line_at m.lines (line_of (places m n))) ≡ line_size
    unfolding line_at line_of line_total
    whole n inside lined =
        let k = line_of (places m n) in
        let room : line_size * k + line_size ≤ length m.lines =
        omega (arith, states n inside, (sizes_say m.table m.lines good).lines_whole) in
        length-take-le line_size (drop (line_size * k) m.lines) (simp length-drop (omega (arith, room)))

    -- a free record is passed over
    skip_next : (n : ℕ) (now : Memory) → (places m n).state ≡ 0 → Packed n n now → Packed (suc n) n now
    skip_next n now untracked s =
        record {
          placed = placed_less (places m) n (places now) s.placed untracked;
          pictures = s.pictures;
          alike = s.alike;
        }

    -- and its line, if it has one, to the lines
    line_next : (n : ℕ) (now : Memory) → n < size m → 1 < (places m n).state → Packed (suc n) n now →
        Packed (suc n) (suc n) (with_lines (put_line now.lines (line_for (places m) n) (line_at m.lines (line_of (places m n)))) now)
    unfolding with_lines places sizes_good line_total line_count size
    line_next n now inside lined s =
        let k = line_for (places m) n in
        let picture = line_at m.lines (line_of (places m n)) in
        let fits : k < line_count now.lines = omega (arith, line_inside m n inside lined, s.alike.line_many) in
        record {
          placed = s.placed;
          pictures = λ i below on.
              elim (ℕ_discrete i n) [
                | yes e ↦ rw (e, line_same now.lines k picture fits (whole n inside lined))
                | no e ↦
                    line_other now.lines k picture fits (whole n inside lined) (line_for (places m) i)
                    (omega (arith, line_before (places m) i n (omega arith) on))
                    ∙ s.pictures i (omega arith) on
              ];
          alike = record {
            many = s.alike.many;
            line_many = rw (length-put_line now.lines k picture fits (whole n inside lined)) s.alike.line_many;
            good = rw (length-put_line now.lines k picture fits (whole n inside lined)) s.alike.good;
            table = s.alike.table;
            gauge = s.alike.gauge;
          };
        }

    no_line_next : (n : ℕ) (now : Memory) → (places m n).state ≤ 1 → Packed (suc n) n now → Packed (suc n) (suc n) now
    no_line_next n now off s =
        record {
          placed = s.placed;
          pictures = λ i below on.
              elim (ℕ_discrete i n) [ yes e ↦ absurd (omega (arith, rw e at on)) | no e ↦ s.pictures i (omega arith) on ];
          alike = s.alike;
        }

    packed_next : (n : ℕ) (now : Memory) → n < size m → Packed n n now → Packed (suc n) (suc n) (packed_one m n now)
    unfolding packed_one carried is_tracked is_lined
    packed_next n now inside s =
        elim (dec_lt 0 (places m n).state) [
          | yes tracked ↦
              rw (lt-ltb 0 (places m n).state tracked)
              elim (dec_lt 1 (places m n).state) [
                | yes lined ↦ rw (lt-ltb 1 (places m n).state lined) (line_next n _ inside lined (put_next n now inside tracked s))
                | no off ↦
                    rw (le-ltb 1 (places m n).state (omega arith)) (no_line_next n _ (omega arith) (put_next n now inside tracked s))
              ]
          | no untracked ↦
              rw (le-ltb 0 (places m n).state (omega arith)) (no_line_next n now (omega arith) (skip_next n now (omega arith) s))
        ]

    first_packed : (n : ℕ) → n ≤ size m → Packed n n (packed_first m n (with_gauge m.gauge (fresh_memory target)))
    unfolding packed_first
    first_packed zero most = packed_none
    first_packed (suc n) most = packed_next n _ (omega arith) (first_packed n (omega arith))

    pub packs : Packs
    unfolding packed
    packs =
        let s = first_packed (size m) (omega arith) in
        record {
          lines = s.alike.line_many;
          sizes = s.alike.good;
          bytes = s.alike.table;
          gauge = s.alike.gauge;
          at = s.placed.stands;
          from = λ j on.
              elim (dec_lt j (tracked_count m)) [
                | yes l ↦ place_reached m j l
                | no l ↦ absurd (omega (arith, freed_state (s.placed.free j (omega (arith, place_total m))), on))
              ];
          free = λ j after inside. s.placed.free j (omega (arith, place_total m));
          picture = s.pictures;
          size = s.alike.many;
        }
