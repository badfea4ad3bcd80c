-- What a read answers: number and ticket are those of the key's record in the table that it leaves, and a hit's or a wanted's line is
-- one of the lines, for a Rattle caller and a C host. A read writes one record at one place and step 5 changes states over 0 into
-- states over 0, and tickets, alone, so that the written record is the first with its key afterwards. Assumes nothing.
use Prim.Native.Nat.{ℕ, ◌+◌, ◌*◌, ◌-◌, ◌≤◌, ◌<◌, ◌%◌, ◌^◌}
use mathlib.Core.Path.{◌≡◌, refl, sym, ◌∙◌, ap}
use mathlib.Core.Bool.{Bool, true, false, ◌&&◌}
use mathlib.Core.List.{List, [], ◌∷◌}
use mathlib.Core.Option.{some}
use native.Mathlib.Omega.{arith}
use borrow.Author.Tests.{ltb-true, lt-ltb, eqb-true, eq-eqb}
use lib.ListN.{length}
use lib.Dec.{ltb, eqb}
use Rattle.rules.specs.declared.Record.{Record}
use Rattle.rules.specs.declared.Gauge.{Gauge}
use Rattle.rules.specs.Answers.{Completion}
use Rattle.std.specs.Prelude.{Ok, Err}
use Rattle.rules.specs.Pass.{Found}
use Rattle.std.specs.Prelude.{Some, None}
use Rattle.rules.specs.declared.Answer.TheVariants.{Aged, Changed, Unknown, Stored, Passed, Withdrawn, Hit, Wanted}
use Rattle.rules.specs.Bytes.{IsBytes, number_size, get64, line_count}
use Rattle.std.specs.Prelude.{if◌then◌else◌}
use Rattle.rules.specs.Table.{Memory, is_tracked, is_lined, is_filled, line_of, empty_state, with_state, with_ticket, heated, aged_record, half_down, new_record, unlined, on_empty_line, has_key, key_record, free_record, victim, hotter, coldest_lined, lowest_unused, most_total, places, size, line_total, with_table, with_gauge, write}
use Rattle.rules.specs.Answers.{Reply, answer_number, number_of, is_refused, Told, Said, said, values_of, answer_said}
use Rattle.rules.specs.Refusals.{number}
use Rattle.rules.specs.Steps.{Outcome, aged_gauge, aged, next_ticket, ticketed, give_line, hand_on, hand_over, decay_for, grown, track, raised, evict, replace_coldest, promote, admit, read_answer, admission, place, read_counted, warm_steps, peek_answer, peek_steps, read_steps}
use Rattle.rules.specs.Calls.{most_weight, serial_limit, order_good, verdict, unless, leaving, read_verdict, read_outcome, held, gauge_test, hosted, HostRead, number_test, put_ticket, hosted_read, exported_read}
use Rattle.rules.specs.Numbers.{refusal, standing, read_said, NamesLine, TellsLine}
use Rattle.rules.specs.Replay.{at}
use Rattle.rules.proofs.Words.{get-put64_same}
use Rattle.rules.proofs.Places.{IsRecord}
use Rattle.rules.proofs.Searches.{first_at, first_nowhere, first_found}
use Rattle.rules.proofs.Finds.{key_found, free_found, victim_found, coldest_found}
use Rattle.rules.proofs.Changes.{at_same, at_other, at_all}
use Rattle.rules.proofs.Memories.{places_write, size_write, bytes_write, places_aged, size_aged, bytes_aged}
use Rattle.rules.proofs.InOrder.{in_order_says}
use Rattle.rules.proofs.CallsHold.{at_is, on_line_is, unlined_is, lines_few}
use Rattle.rules.proofs.ReadHolds.{heated_is, new_is}
use Rattle.rules.proofs.Verdicts.{first_passes, read_accepted}
use Rattle.rules.proofs.Peek.{read_either}
use Rattle.rules.proofs.Refusals.{every_told, read_given}

-- ---- what a memory must have
-- bytes, few lines, and no state over the last line's
record Lines (m : Memory) : Type 0 where
  bytes : IsBytes m.table
  few : line_total m < 1024
  state_most : (i : ℕ) → i < size m → (places m i).state ≤ 1 + 2 * line_total m

-- and heats that a weight can be added to, and a serial that can grow
record Fit (m : Memory) : Type 0 where
  lines : Lines m
  ceiling_most : m.gauge.ceiling ≤ most_total
  heat_most : (i : ℕ) → i < size m → (places m i).heat ≤ most_total
  serial_most : m.gauge.serial < serial_limit

accepted_lines : (m : Memory) (w : ℕ) → IsBytes m.table → read_verdict m w ≡ Ok tt → Lines m
unfolding order_good
accepted_lines m w bytes e =
    let a = read_accepted m w e in
    let o = in_order_says (places m) (size m) (line_total m) m.gauge a.order in
    record { bytes = bytes; few = lines_few m a.sizes; state_most = o.state_most }

accepted_fit : (m : Memory) (w : ℕ) → IsBytes m.table → read_verdict m w ≡ Ok tt → 0 < w → Fit m
unfolding order_good
accepted_fit m w bytes e weighs =
    let a = read_accepted m w e in
    let o = in_order_says (places m) (size m) (line_total m) m.gauge a.order in
    record {
      lines = accepted_lines m w bytes e;
      ceiling_most = omega (arith, o.total_most, o.ceiling_most);
      heat_most = λ i inside. omega (arith, o.total_most, o.heat_most i inside);
      serial_most = a.serial weighs;
    }

aged_fit : (m : Memory) → Fit m → Fit (aged m)
unfolding aged aged_gauge with_gauge with_table line_total aged_record half_down
aged_fit m h =
    let was : (i : ℕ) → i < size (aged m) → i < size m = λ i inside. rw (size_aged m) at inside in
    let is : (i : ℕ) → i < size (aged m) → places (aged m) i ≡ aged_record (places m i) =
    λ i inside. places_aged m h.lines.bytes i (was i inside) in
    record {
      lines =
          record {
            bytes = bytes_aged m h.lines.bytes;
            few = h.lines.few;
            state_most = λ i inside. rw (is i inside) (h.lines.state_most i (was i inside));
          };
      ceiling_most = omega (arith, h.ceiling_most);
      heat_most = λ i inside. rw (is i inside) (omega (arith, h.heat_most i (was i inside)));
      serial_most = h.serial_most;
    }

gauged_fit : (g : Gauge) (m : Memory) → g.ceiling ≤ most_total → g.serial < serial_limit → Fit m → Fit (with_gauge g m)
unfolding with_gauge places size line_total
gauged_fit g m most serial_most h =
    record {
      lines = record { bytes = h.lines.bytes; few = h.lines.few; state_most = h.lines.state_most };
      ceiling_most = most;
      heat_most = h.heat_most;
      serial_most = serial_most;
    }

lines_write : (m : Memory) (i : ℕ) (r : Record) → Lines m → i < size m → IsRecord r → r.state ≤ 1 + 2 * line_total m →
    Lines (write m i r)
unfolding write with_table line_total
lines_write m i r h inside is most =
    record {
      bytes = bytes_write m i r h.bytes;
      few = h.few;
      state_most =
          rw (places_write m i r inside is, size_write m i r)
          (λ j below. at_all (λ j s. s.state ≤ 1 + 2 * line_total m) i r (places m) most j (λ other. h.state_most j below));
    }

-- ---- step 5 leaves every key where it is
has_key_lem : (key : ℕ) (r : Record) → 0 < r.state → r.key ≡ key → has_key key r ≡ true
unfolding has_key is_tracked
has_key_lem key r tracked e = rw (lt-ltb 0 r.state tracked) (eq-eqb r.key key e)

stated_key : (key state ticket : ℕ) (r : Record) → 0 < state → 0 < r.state →
    has_key key (with_ticket ticket (with_state state r)) ≡ has_key key r
unfolding has_key is_tracked
stated_key key state ticket r becomes was = rw (lt-ltb 0 state becomes, lt-ltb 0 r.state was)

stated_keys : (f : ℕ → Record) (i state ticket key : ℕ) → 0 < state → 0 < (f i).state →
    (k : ℕ) → has_key key (at i (with_ticket ticket (with_state state (f i))) f k) ≡ has_key key (f k)
stated_keys f i state ticket key becomes was k =
    at_all (λ k r. has_key key r ≡ has_key key (f k)) i (with_ticket ticket (with_state state (f i))) f
    (stated_key key state ticket (f i) becomes was) k (λ other. refl)

-- as many records, the same keys tracked at the same places, and at i no state over the last line's
record Admits (m after : Memory) (i : ℕ) : Type 0 where
  same_size : size after ≡ size m
  same_key : (k key : ℕ) → has_key key (places after k) ≡ has_key key (places m k)
  most : (places after i).state ≤ 1 + 2 * line_total m
  fits : (places after i).ticket < 2 ^ 64

admits_give : (m : Memory) (i n : ℕ) → Lines m → m.gauge.serial < serial_limit → i < size m → 0 < (places m i).state →
    n < line_total m → Admits m (give_line m i n) i
unfolding give_line ticketed next_ticket on_empty_line empty_state with_gauge places size
admits_give m i n h room inside tracked there =
    let r : Record = on_empty_line n (next_ticket m) (places m i) in
    let is : IsRecord r = on_line_is (places m i) n (next_ticket m) (at_is m i h.bytes) (omega (arith, h.few)) (omega arith) in
    let f : places (give_line m i n) ≡ at i r (places m) = places_write (ticketed m) i r inside is in
    record {
      same_size = size_write (ticketed m) i r;
      same_key = λ k key. rw f (stated_keys (places m) i (empty_state n) (next_ticket m) key (omega arith) tracked k);
      most = rw (f, at_same i r (places m)) (omega arith);
      fits = rw (f, at_same i r (places m)) (omega arith);
    }

module _ (m : Memory) (i : ℕ) (h : Lines m) (room : m.gauge.serial < serial_limit) (inside : i < size m)
    (tracked : 0 < (places m i).state) where
  admits_same : Admits m m i
  admits_same =
      record { same_size = refl; same_key = λ k key. refl; most = h.state_most i inside; fits = (at_is m i h.bytes).ticket }

  -- the other record gives its line up first
  admits_hand : (j : ℕ) → j < size m → 1 < (places m j).state → Admits m (hand_over m j i) i
  unfolding hand_over hand_on unlined line_of write with_table line_total
  admits_hand j j-inside lined =
      let r : Record = unlined (places m j) in
      let is : IsRecord r = unlined_is (places m j) (at_is m j h.bytes) in
      let f : places (write m j r) ≡ at j r (places m) = places_write m j r j-inside is in
      let still : 0 < (places (write m j r) i).state = rw f (at_all (λ k s. 0 < s.state) j r (places m) (omega arith) i (λ other. tracked)) in
      let given =
      admits_give (write m j r) i (line_of (places m j)) (lines_write m j r h j-inside is (omega arith)) room
      (rw (size_write m j r) inside) still (omega (arith, h.state_most j j-inside)) in
      record {
        same_size = given.same_size ∙ size_write m j r;
        same_key = λ k key. given.same_key k key ∙ rw f (stated_keys (places m) j 1 0 key (omega arith) (omega arith) k);
        most = given.most;
        fits = given.fits;
      }

  admits_replace : (x : Found) → coldest_lined (places m) (size m) ≡ x → Admits m (replace_coldest m i x) i
  unfolding replace_coldest
  admits_replace None e = admits_same
  admits_replace (Some (j, r)) e = go (hotter (places m i) r)
    where
      go : (b : Bool) → Admits m (if b then hand_over m j i else m) i
      go true = let found = coldest_found (places m) (size m) j r e in admits_hand j found.inside found.has.0
      go false = admits_same

  admits : Admits m (admit m i) i
  unfolding admit promote
  admits = go (is_lined (places m i))
    where
      line : ℕ
      line = lowest_unused (places m) (size m) (line_total m)

      waiting : (b : Bool) → ltb line (line_total m) ≡ b →
          Admits m (if b then give_line m i line else replace_coldest m i (coldest_lined (places m) (size m))) i
      waiting true e = admits_give m i line h room inside tracked (ltb-true line (line_total m) e)
      waiting false e = admits_replace (coldest_lined (places m) (size m)) refl

      go : (b : Bool) → Admits m (if b then m else promote m i line) i
      go true = admits_same
      go false = waiting (ltb line (line_total m)) refl

-- ---- an answer, by the record that it is read off
stands : (i : ℕ) (r : Record) → answer_said (Ok (read_answer r)) ≡ standing (Some (i, r))
unfolding read_answer standing answer_said number_of answer_number values_of
stands i r = go (is_filled r) (is_lined r)
  where
    go : (b c : Bool) →
        answer_said (Ok (if b then Hit (line_of r) else if c then Wanted (line_of r) r.ticket else Passed))
        ≡ (if b
        then said (some (2000 + line_of r)) []
        else if c then said (some (4000 + line_of r)) (r.ticket ∷ []) else said (some 104) [])
    go true c = refl
    go false true = refl
    go false false = refl

passed_names : (c : ℕ) → NamesLine c (Ok Passed)
passed_names c =
    record {
      hit = λ n e. let z : ◌≡◌ {A = ℕ} 0 1 = cc in absurd (omega arith);
      wanted = λ n ticket e. let z : ◌≡◌ {A = ℕ} 0 1 = cc in absurd (omega arith);
    }

answer_names : (c : ℕ) (r : Record) → c < 1024 → r.state ≤ 1 + 2 * c → r.ticket < 2 ^ 64 → NamesLine c (Ok (read_answer r))
unfolding read_answer is_filled is_lined line_of
answer_names c r few most fits = go (ltb 1 r.state) (eqb (r.state % 2) 1) refl
  where
    below : ltb 1 r.state ≡ true → line_of r < c
    below e = omega (arith, ltb-true 1 r.state e)

    go : (l f : Bool) → ltb 1 r.state ≡ l →
        NamesLine c (Ok (if l && f then Hit (line_of r) else if l then Wanted (line_of r) r.ticket else Passed))
    go true true e =
        record {
          hit = λ n same. let is : line_of r ≡ n = cc in let b = below e in (omega arith, omega arith);
          wanted = λ n ticket same. let z : ◌≡◌ {A = ℕ} 0 1 = cc in absurd (omega arith);
        }
    go true false e =
        record {
          hit = λ n same. let z : ◌≡◌ {A = ℕ} 0 1 = cc in absurd (omega arith);
          wanted = λ n ticket same.
              let is : line_of r ≡ n = cc in
              let its : r.ticket ≡ ticket = cc in
              let b = below e in
              (omega arith, omega arith, omega arith);
        }
    go false f e = passed_names c

-- ---- the steps of a read
record Answers (c key : ℕ) (o : Outcome Reply Memory) : Type 0 where
  says : answer_said o.answer ≡ standing (key_record key (places o.after) (size o.after))
  names : NamesLine c o.answer

-- a record of the key is written where no earlier place has the key
admission_answers : (m : Memory) (key i : ℕ) (r : Record) → Fit m → i < size m → IsRecord r → 0 < r.state →
    r.state ≤ 1 + 2 * line_total m → r.key ≡ key → ((j : ℕ) → j < i → has_key key (places m j) ≡ false) →
    Answers (line_total m) key (admission i (write m i r))
unfolding admission key_record write with_table line_total
admission_answers m key i r h inside is tracked most named earlier =
    let m' = write m i r in
    let f : places m' ≡ at i r (places m) = places_write m i r inside is in
    let here : places m' i ≡ r = ap (λ (f : ℕ → Record). f i) f ∙ at_same i r (places m) in
    let a : Admits m' (admit m' i) i =
    admits m' i (lines_write m i r h.lines inside is most) h.serial_most (rw (size_write m i r) inside) (rw here tracked) in
    let g = places (admit m' i) in
    let found : has_key key (g i) ≡ true = a.same_key i key ∙ ap (has_key key) here ∙ has_key_lem key r tracked named in
    let before : (j : ℕ) → j < i → has_key key (g j) ≡ false =
    λ j below.
    a.same_key j key
    ∙ ap (λ (f : ℕ → Record). has_key key (f j)) f
    ∙ ap (has_key key) (at_other i j r (places m) (omega arith))
    ∙ earlier j below in
    let e = first_found (has_key key) g (size (admit m' i)) i (rw (a.same_size, size_write m i r) inside) found before in
    record { says = stands i (g i) ∙ ap standing (sym e); names = answer_names (line_total m) (g i) h.lines.few a.most a.fits }

module _ (key w : ℕ) (light : w ≤ most_weight) (fits : key < 2 ^ 64) where
  -- step 2
  heat_answers : (m : Memory) (i : ℕ) (r : Record) → Fit m → key_record key (places m) (size m) ≡ Some (i, r) →
      Answers (line_total m) key (admission i (write m i (heated w r)))
  unfolding heated key_record
  heat_answers m i r h e =
      let found = key_found (places m) (size m) key i r e in
      let first = first_at (has_key key) (places m) (size m) i r e in
      let inside = found.inside in
      rw found.is
      (admission_answers m key i (heated w (places m i)) h inside
      (heated_is w (places m i) (at_is m i h.lines.bytes) (omega (arith, h.heat_most i inside)))
      found.has.0 (h.lines.state_most i inside) found.has.1 first.before)

  -- steps 3 and 4
  track_answers : (m : Memory) (i : ℕ) → Fit m → i < size m → key_record key (places m) (size m) ≡ None →
      Answers (line_total m) key (admission i (track m key w i))
  unfolding track new_record key_record
  track_answers m i h inside missing =
      let ceiling = m.gauge.ceiling in
      admission_answers m key i (new_record key ceiling w) h inside
      (new_is key ceiling w fits (omega (arith, h.ceiling_most))) (omega arith) (omega arith) refl
      (λ j below. first_nowhere (has_key key) (places m) (size m) missing j (omega arith))

  placed_answers : (m : Memory) → Fit m → (x y z : Found) → key_record key (places m) (size m) ≡ x → free_record (places m) (size m) ≡ y →
      victim (places m) (size m) ≡ z → Answers (line_total m) key (place m key w x y z)
  unfolding place evict raised with_gauge places size line_total answer_said number_of answer_number values_of standing
  placed_answers m h (Some (i, r)) y z ex ey ez = heat_answers m i r h ex
  placed_answers m h None (Some (i, r)) z ex ey ez = track_answers m i h (free_found (places m) (size m) i r ey).inside ex
  placed_answers m h None None (Some (i, r)) ex ey ez =
      let found = victim_found (places m) (size m) i r ez in
      let heat : r.heat ≡ (places m i).heat = ap (λ (s : Record). s.heat) found.is in
      track_answers (raised r.heat m) i
      (gauged_fit _ m (omega (arith, h.ceiling_most, h.heat_most i found.inside)) h.serial_most h)
      found.inside ex
  placed_answers m h None None None ex ey ez = record { says = rw ex; names = passed_names (line_total m) }

  counted_answers : (m : Memory) → Fit m → Answers (line_total m) key (read_counted (grown w m) key w)
  unfolding read_counted grown with_gauge line_total
  counted_answers m h = placed_answers (grown w m) (gauged_fit _ m h.ceiling_most h.serial_most h) _ _ _ refl refl refl

  warm_answers : (m : Memory) → Fit m → Answers (line_total m) key (warm_steps m key w)
  unfolding warm_steps decay_for aged with_gauge with_table line_total
  warm_answers m h = go (ltb most_total (m.gauge.total + w))
    where
      go : (b : Bool) → Answers (line_total m) key (read_counted (grown w (if b then aged m else m)) key w)
      go true = counted_answers (aged m) (aged_fit m h)
      go false = counted_answers m h

  -- a look
  peeked_answers : (m : Memory) → Lines m → Answers (line_total m) key (peek_steps m key)
  unfolding peek_steps peek_answer answer_said number_of answer_number values_of standing
  peeked_answers m h =
      let told = go (key_record key (places m) (size m)) refl in
      record { says = told.0; names = told.1 }
    where
      go : (x : Found) → key_record key (places m) (size m) ≡ x →
          (answer_said (Ok (peek_answer x)) ≡ standing x) × NamesLine (line_total m) (Ok (peek_answer x))
      go None e = (refl, passed_names (line_total m))
      go (Some (i, r)) e =
          let found = key_found (places m) (size m) key i r e in
          (stands i r, answer_names (line_total m) r h.few (rw found.is (h.state_most i found.inside)) (rw found.is (at_is m i h.bytes).ticket))

  steps_answers : (m : Memory) → Lines m → (0 < w → Fit m) → Answers (line_total m) key (read_steps m key w)
  steps_answers m lines fit =
      read_either m key w (Answers (line_total m) key) (λ _. peeked_answers m lines) (λ weighs. warm_answers m (fit weighs))

accepted_answers : (m : Memory) (key w : ℕ) → IsBytes m.table → key < 2 ^ 64 → read_verdict m w ≡ Ok tt →
    Answers (line_total m) key (read_steps m key w)
accepted_answers m key w bytes fits e =
    steps_answers key w (read_accepted m w e).good fits m (accepted_lines m w bytes e) (accepted_fit m w bytes e)

-- ---- a read
pub read_said_lem : (m : Memory) (key w : ℕ) → IsBytes m.table → key < 2 ^ 64 →
    answer_said (read_outcome m key w).answer ≡ read_said m key w
unfolding read_outcome read_said unless answer_said number_of values_of
read_said_lem m key w bytes fits = go (read_verdict m w) refl
  where
    there : Said
    there = standing (key_record key (places (read_steps m key w).after) (size (read_steps m key w).after))

    go : (v : Completion) → read_verdict m w ≡ v →
        answer_said (unless v (leaving m) (read_steps m key w)).answer ≡ unless v (λ cause. refusal (number cause)) there
    go (Ok u) e = (accepted_answers m key w bytes fits e).says
    go (Err n) e = refl

unless_names : {Lent : Type 0} (c : ℕ) (v : Completion) (lent : Lent) (given : Outcome Reply Lent) →
    (v ≡ Ok tt → NamesLine c given.answer) → NamesLine c (unless v (leaving lent) given).answer
unfolding unless
unless_names c (Ok u) lent given names = names refl
unless_names c (Err n) lent given names =
    record {
      hit = λ k e. let z : ◌≡◌ {A = ℕ} 0 1 = cc in absurd (omega arith);
      wanted = λ k ticket e. let z : ◌≡◌ {A = ℕ} 0 1 = cc in absurd (omega arith);
    }

pub answered_line : (m : Memory) (key w : ℕ) → IsBytes m.table → key < 2 ^ 64 →
    NamesLine (line_total m) (read_outcome m key w).answer
unfolding read_outcome
answered_line m key w bytes fits =
    unless_names (line_total m) (read_verdict m w) m (read_steps m key w) (λ e. (accepted_answers m key w bytes fits e).names)

-- ---- by a C host
small_tells : (c : ℕ) (a : Reply) (n : ℕ) (bytes : List ℕ) → n < 2000 → TellsLine c a n bytes
small_tells c a n bytes small = record { hit = λ over under. absurd (omega arith); wanted = λ over. absurd (omega arith) }

number_tells : (c : ℕ) (a : Reply) (bytes : List ℕ) → NamesLine c a → Told a → ((n ticket : ℕ) → a ≡ Ok (Wanted n ticket) → get64 bytes 0 ≡ ticket) →
    TellsLine c a (number_of a) bytes
unfolding number_of answer_number is_refused
number_tells c (Ok Aged) bytes names told holds = small_tells c (Ok Aged) 100 bytes (omega arith)
number_tells c (Ok Changed) bytes names told holds = small_tells c (Ok Changed) 101 bytes (omega arith)
number_tells c (Ok Unknown) bytes names told holds = small_tells c (Ok Unknown) 102 bytes (omega arith)
number_tells c (Ok Stored) bytes names told holds = small_tells c (Ok Stored) 103 bytes (omega arith)
number_tells c (Ok Passed) bytes names told holds = small_tells c (Ok Passed) 104 bytes (omega arith)
number_tells c (Ok Withdrawn) bytes names told holds = small_tells c (Ok Withdrawn) 105 bytes (omega arith)
number_tells c (Ok (Hit n)) bytes names told holds =
    let (below, few) = names.hit n refl in
    let same : 2000 + n - 2000 ≡ n = omega arith in
    record { hit = λ over under. (rw same, omega arith); wanted = λ over. absurd (omega arith) }
number_tells c (Ok (Wanted n ticket)) bytes names told holds =
    let (below, few, fits) = names.wanted n ticket refl in
    let same : 4000 + n - 4000 ≡ n = omega arith in
    record { hit = λ over under. absurd (omega arith); wanted = λ over. (rw (same, holds n ticket refl), omega arith) }
number_tells c (Err cause) bytes names told holds =
    small_tells c (Err cause) (number cause) bytes (omega (arith, ltb-true (number cause) 100 told))

host_names : (h : HostRead) (key w : ℕ) → IsBytes h.memory.table → key < 2 ^ 64 →
    NamesLine (line_count h.memory.lines) (hosted_read (λ m. read_outcome m key w) h).answer
unfolding hosted_read hosted held line_total
host_names h key w bytes fits =
    let c = line_count h.memory.lines in
    unless_names c (verdict (number_test h.ticket ∷ [])) h _
    (λ _. unless_names c (verdict (gauge_test h.memory ∷ [])) h.memory _ (λ _. answered_line (held h.memory) key w bytes fits))

-- the bytes that a host lent for a ticket hold that of a wanted
ticket_held : (call : Memory → Outcome Reply Memory) (h : HostRead) (n ticket : ℕ) → ticket < 2 ^ 64 →
    (hosted_read call h).answer ≡ Ok (Wanted n ticket) → get64 (hosted_read call h).after.ticket 0 ≡ ticket
unfolding hosted_read unless number_test put_ticket
ticket_held call h n ticket fits e = go (verdict (number_test h.ticket ∷ [])) refl e
  where
    go : (v : Completion) → verdict (number_test h.ticket ∷ []) ≡ v →
        (unless v (leaving h) (read_given call h)).answer ≡ Ok (Wanted n ticket) →
        get64 (unless v (leaving h) (read_given call h)).after.ticket 0 ≡ ticket
    go (Ok u) v told =
        let whole : length h.ticket ≡ number_size = eqb-true (length h.ticket) number_size (first_passes _ _ v).0 in
        rw told (get-put64_same h.ticket 0 ticket (omega arith) fits)
    go (Err k) v told = let z : ◌≡◌ {A = ℕ} 0 1 = cc in absurd (omega arith)

pub host_answered_line : (h : HostRead) (key w : ℕ) → IsBytes h.memory.table → key < 2 ^ 64 →
    TellsLine (line_count h.memory.lines) (hosted_read (λ m. read_outcome m key w) h).answer
    (exported_read (λ m. read_outcome m key w) h).answer (exported_read (λ m. read_outcome m key w) h).after.ticket
unfolding exported_read
host_answered_line h key w bytes fits =
    let names = host_names h key w bytes fits in
    number_tells (line_count h.memory.lines) _ _ names (every_told _)
    (λ n ticket e. ticket_held (λ m. read_outcome m key w) h n ticket (names.wanted n ticket e).2 e)
