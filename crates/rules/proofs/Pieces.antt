-- A journal run in pieces: where the first piece holds whole records, its run, and then the run of the rest from the memory that it
-- left and numbered on, are the run of the whole journal, in memory, count and rows. Each record does in its piece what it does in the
-- whole, and lies further on there by what stands before. Assumes nothing.
use Prim.Native.Nat.{ℕ, zero, suc, ◌+◌, ◌-◌, ◌*◌, ◌≤◌, ◌<◌}
use mathlib.Core.Bool.{Bool, true, false}
use mathlib.Core.List.{List, [], ◌++◌, append_assoc, append-nil}
use mathlib.Core.Path.{◌≡◌, refl, sym, ap, ◌∙◌}
use native.Mathlib.Decide.{dec_lt}
use native.Mathlib.Nat.{add-zero, add-suc, zero-add, add_assoc}
use native.Mathlib.Omega.{arith}
use borrow.Author.Tests.{lt-ltb, le-ltb, le-leb, lt-leb}
use lib.Dec.{eqb}
use lib.ListN.{length, get_or, take, drop, length-append, length-drop, get_or-append}
use lib.Seq.{get_or-append-add, take-append-le, drop-append-le, drop-append-add}
use Rattle.std.specs.Prelude.{Option, Some, None, Result, Ok, is_none}
use Rattle.rules.specs.declared.Decoded.{Decoded}
use Rattle.rules.specs.declared.Refusal.{Refusal}
use Rattle.rules.specs.declared.Answer.TheVariants.{Passed}
use Rattle.rules.specs.Answers.{Reply}
use Rattle.rules.specs.Steps.{Outcome, outcome}
use Rattle.rules.specs.declared.Entry.{Entry}
use Rattle.rules.specs.declared.Entry.TheVariants.{Read, Update, Fill, Age, Withdraw}
use Rattle.rules.specs.Answers.{read_kind, update_kind, fill_kind, age_kind}
use Rattle.rules.specs.Bytes.{get64, line_size}
use Rattle.std.specs.Prelude.{if◌then◌else◌}
use Rattle.rules.specs.Table.{Memory}
use Rattle.rules.specs.Journal.{Row, Run, entry_size, entry_count, kind_at, weight_at, key_at, ticket_at, zeros, gaps_zero, picture_zero, weight_zero, key_zero, ticket_zero, picture_place, picture_at, of_form, whole_entry, decoded, entry_at, row_of, printing, performed, carried, perform, run_for, going_on, Joined}

-- ---- one record, at p of a journal and at q of another
-- what is done with it, where there is one
done : List ℕ → Option (Result Entry Refusal) → Memory → Outcome Reply Memory
done j None m = outcome (Ok Passed) m
done j (Some entry) m = performed j entry m

carried_is : (j : List ℕ) (r : Run) (next : ℕ) (x : Option (Result Entry Refusal)) →
    carried j r next x ≡ (if is_none x then r else printing r next (done j x r.memory))
unfolding carried done
carried_is j r next None = refl
carried_is j r next (Some entry) = refl

-- both do the same, and the place after it differs by as much as the place before
record Alike (j : List ℕ) (p : ℕ) (k : List ℕ) (q shift : ℕ) : Type 0 where
  ends : is_none (entry_at j p).entry ≡ is_none (entry_at k q).entry
  next : (entry_at j p).next ≡ shift + (entry_at k q).next
  does : (m : Memory) → done j (entry_at j p).entry m ≡ done k (entry_at k q).entry m

whole : (j : List ℕ) (p : ℕ) → p + entry_size ≤ length j → entry_at j p ≡ decoded (Some (whole_entry j p)) (p + entry_size)
unfolding entry_at
whole j p room = rw (lt-leb (length j) p (omega arith), le-ltb (length j - p) entry_size (omega arith))

module _ (j : List ℕ) (p : ℕ) (k : List ℕ) (q : ℕ) (same : (i : ℕ) → i < entry_size → get_or j (p + i) 0 ≡ get_or k (q + i) 0)
    (picture : picture_at j (picture_place p) ≡ picture_at k (picture_place q)) where
  byte : (o i : ℕ) → o + i < entry_size → get_or j (p + o + i) 0 ≡ get_or k (q + o + i) 0
  byte o i below = rw (add_assoc p o i, add_assoc q o i) (same (o + i) below)

  kind_same : kind_at j p ≡ kind_at k q
  unfolding kind_at
  kind_same = rw (add-zero p, add-zero q) at (same 0 (omega arith))

  weight_same : weight_at j p ≡ weight_at k q
  unfolding weight_at
  weight_same = rw (same 2 (omega arith), same 3 (omega arith))

  number_same : (o : ℕ) → o + 8 ≤ entry_size → get64 j (p + o) ≡ get64 k (q + o)
  unfolding get64
  number_same o room =
      rw (
        same o (omega arith),
        byte o 1 (omega arith),
        byte o 2 (omega arith),
        byte o 3 (omega arith),
        byte o 4 (omega arith),
        byte o 5 (omega arith),
        byte o 6 (omega arith),
        byte o 7 (omega arith),
      )

  key_same : key_at j p ≡ key_at k q
  unfolding key_at
  key_same = number_same 8 (omega arith)

  ticket_same : ticket_at j p ≡ ticket_at k q
  unfolding ticket_at
  ticket_same = number_same 80 (omega arith)

  zeros_same : (o n : ℕ) → o + n ≤ entry_size → zeros j (p + o) n ≡ zeros k (q + o) n
  unfolding zeros
  zeros_same o zero room = refl
  zeros_same o (suc n) room = rw (zeros_same o n (omega arith), byte o n (omega arith))

  gaps_same : gaps_zero j p ≡ gaps_zero k q
  unfolding gaps_zero
  gaps_same = rw (zeros_same 1 1 (omega arith), zeros_same 4 4 (omega arith))

  blank_same : picture_zero j p ≡ picture_zero k q
  unfolding picture_zero picture_place
  blank_same = zeros_same 16 line_size (omega arith)

  abbrev Same : Result Entry Refusal → Result Entry Refusal → Type 0
  Same x y = (m : Memory) → performed j x m ≡ performed k y m

  same_form : (good : Bool) (x y : Entry) → Same (Ok x) (Ok y) → Same (of_form good x) (of_form good y)
  unfolding of_form performed
  same_form true x y s = s
  same_form false x y s = λ m. refl

  same_arm : (b : Bool) (x y x' y' : Result Entry Refusal) → Same x x' → Same y y' → Same (if b then x else y) (if b then x' else y')
  same_arm true x y x' y' first rest = first
  same_arm false x y x' y' first rest = rest

  whole_same : Same (whole_entry j p) (whole_entry k q)
  unfolding whole_entry weight_zero key_zero ticket_zero performed
  whole_same =
      rw (← kind_same, ← gaps_same, ← blank_same, ← weight_same, ← key_same, ← ticket_same)
      (same_arm (eqb (kind_at j p) read_kind) _ _ _ _ (same_form _ (Read _ _) (Read _ _) (λ m. refl))
      (same_arm (eqb (kind_at j p) update_kind) _ _ _ _ (same_form _ (Update _ _) (Update _ _) (λ m. refl))
      (same_arm (eqb (kind_at j p) fill_kind) _ _ _ _ (same_form _ (Fill _ _ _) (Fill _ _ _) (λ m. rw picture))
      (same_arm (eqb (kind_at j p) age_kind) _ _ _ _ (same_form _ Age Age (λ m. refl))
      (same_form _ (Withdraw _) (Withdraw _) (λ m. refl))))))

  whole_alike : (shift : ℕ) → p ≡ shift + q → p + entry_size ≤ length j → q + entry_size ≤ length k → Alike j p k q shift
  unfolding decoded done
  whole_alike shift further room room' =
      let here = whole j p room in
      let there = whole k q room' in
      record {
        ends = rw (here, there);
        next = rw (here, there) (omega arith);
        does = λ m. rw (here, there) (whole_same m);
      }

-- ---- a journal of two pieces
module _ (a b : List ℕ) where
  front_alike : (p : ℕ) → p + entry_size ≤ length a → Alike (a ++ b) p a p 0
  unfolding picture_at picture_place
  front_alike p room =
      let inside : p + entry_size ≤ length (a ++ b) = rw length-append (omega arith) in
      whole_alike (a ++ b) p a p (λ i below. get_or-append a b 0 (p + i) (omega arith))
      (rw (drop-append-le (p + 16) a b (omega arith)) (take-append-le line_size (drop (p + 16) a) b (rw length-drop (omega arith))))
      0 (omega arith) inside room

  rest_alike : (q : ℕ) → Alike (a ++ b) (length a + q) b q (length a)
  unfolding entry_at decoded done performed picture_at picture_place
  rest_alike q =
      elim (dec_lt q (length b)) [
        | no none ↦
            let there = le-leb (length b) q (omega arith) in
            let here = le-leb (length (a ++ b)) (length a + q) (rw length-append (omega arith)) in
            record { ends = rw (here, there); next = rw (here, there); does = λ m. rw (here, there) }
        | yes some ↦
            elim (dec_lt (length b - q) entry_size) [
              | yes short ↦
                  let more = lt-leb (length b) q (omega arith) in
                  let more-here = lt-leb (length (a ++ b)) (length a + q) (rw length-append (omega arith)) in
                  let there = lt-ltb (length b - q) entry_size short in
                  let here = lt-ltb (length (a ++ b) - (length a + q)) entry_size (rw length-append (omega arith)) in
                  record {
                    ends = rw (more-here, here, more, there);
                    next = rw (more-here, here, more, there);
                    does = λ m. rw (more-here, here, more, there);
                  }
              | no full ↦
                  whole_alike (a ++ b) (length a + q) b q
                  (λ i below. rw (add_assoc (length a) q i) (get_or-append-add a b (q + i) 0))
                  (rw (add_assoc (length a) q 16) (ap (λ (l : List ℕ). take line_size l) (drop-append-add a b (q + 16))))
                  (length a) refl (rw length-append (omega arith)) (omega arith)
            ]
      ]

-- ---- two runs, of which one has come further by shift and has printed more before
record Keeps (shift : ℕ) (before : List Row) (r s : Run) : Type 0 where
  memory : r.memory ≡ s.memory
  at : r.at ≡ shift + s.at
  numbered : r.numbered ≡ s.numbered
  rows : r.rows ≡ before ++ s.rows

module _ (j k : List ℕ) (shift : ℕ) (before : List Row) where
  step_keeps : (r s : Run) → Alike j r.at k s.at shift → Keeps shift before r s →
      Keeps shift before (perform j r (entry_at j r.at)) (perform k s (entry_at k s.at))
  unfolding perform printing row_of
  step_keeps r s alike keeps =
      rw (carried_is j r _ (entry_at j r.at).entry, carried_is k s _ (entry_at k s.at).entry) (go (is_none (entry_at k s.at).entry) refl)
    where
      did : done j (entry_at j r.at).entry r.memory ≡ done k (entry_at k s.at).entry s.memory
      did = rw keeps.memory (alike.does s.memory)

      step : List ℕ → Run → Decoded → Run
      step j r d = if is_none d.entry then r else printing r d.next (done j d.entry r.memory)

      go : (b : Bool) → is_none (entry_at k s.at).entry ≡ b →
          Keeps shift before (step j r (entry_at j r.at)) (step k s (entry_at k s.at))
      go true e = rw (alike.ends ∙ e, e) keeps
      go false e =
          rw (alike.ends ∙ e, e)
          record {
            memory = rw did;
            at = alike.next;
            numbered = rw keeps.numbered;
            rows = rw (did, keeps.numbered, keeps.rows) (append_assoc before s.rows _);
          }

  run_keeps : (r s : Run) (n : ℕ) → ((i : ℕ) → i < n → Keeps shift before (run_for j r i) (run_for k s i) →
      Alike j (run_for j r i).at k (run_for k s i).at shift) → Keeps shift before r s → Keeps shift before (run_for j r n) (run_for k s n)
  unfolding run_for
  run_keeps r s zero alike keeps = keeps
  run_keeps r s (suc n) alike keeps =
      let so_far = run_keeps r s n (λ i below. alike i (omega arith)) keeps in
      step_keeps (run_for j r n) (run_for k s n) (alike n (omega arith) so_far) so_far

run_on : (j : List ℕ) (r : Run) (n more : ℕ) → run_for j r (n + more) ≡ run_for j (run_for j r n) more
unfolding run_for
run_on j r n zero = rw add-zero
run_on j r n (suc more) = rw (add-suc, run_on j r n more)

-- ---- a piece of whole records is run to its end
piece_ends : (a : List ℕ) (r : Run) (n : ℕ) → r.at ≡ 0 → entry_size * n ≤ length a → (run_for a r n).at ≡ entry_size * n
unfolding run_for perform carried printing decoded
piece_ends a r zero start room = omega arith
piece_ends a r (suc n) start room =
    let at = piece_ends a r n start (omega arith) in
    rw (at, whole a (entry_size * n) (omega arith)) (omega arith)

-- ---- the run of a journal, by the run of its first piece and the run of the rest
module _ (m : Memory) (numbered : ℕ) (a b : List ℕ) (pieces : length a ≡ entry_size * entry_count a) where
  abbrev start : Run
  start = going_on m numbered

  abbrev first : Run
  first = run_for a start (entry_count a)

  abbrev rest : Run
  rest = run_for b (going_on first.memory first.numbered) (entry_count b)

  front_kept : Keeps 0 [] (run_for (a ++ b) start (entry_count a)) first
  front_kept =
      run_keeps (a ++ b) a 0 [] _ _ (entry_count a)
      (λ i below so_far.
      let at = piece_ends a start i refl (omega arith) in
      rw (so_far.at, zero-add, at) (front_alike a b (entry_size * i) (omega arith)))
      record { memory = refl; at = omega arith; numbered = refl; rows = refl }

  all_kept : Keeps (length a) first.rows (run_for (a ++ b) start (entry_count a + entry_count b)) rest
  all_kept =
      rw (run_on (a ++ b) start (entry_count a) (entry_count b))
      (run_keeps (a ++ b) b (length a) first.rows _ _ (entry_count b)
      (λ i below so_far. rw so_far.at (rest_alike a b _))
      record {
        memory = front_kept.memory;
        at = front_kept.at ∙ (rw (piece_ends a start (entry_count a) refl (omega arith)) (omega arith));
        numbered = front_kept.numbered;
        rows = front_kept.rows ∙ sym (append-nil first.rows);
      })

  counts : entry_count (a ++ b) ≡ entry_count a + entry_count b
  unfolding entry_count
  counts = rw length-append (omega arith)

  pub pieces_join : Joined first rest (run_for (a ++ b) start (entry_count (a ++ b)))
  pieces_join = rw counts record { memory = all_kept.memory; numbered = all_kept.numbered; rows = all_kept.rows }
