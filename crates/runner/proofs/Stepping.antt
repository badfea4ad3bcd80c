-- The laws of one step of a run: a fill's picture lies in the journal, the journal's end leaves a run as it was, and a record carries
-- it on by its row. Assumes nothing.
use Prim.Native.Nat.{ℕ, suc, ◌+◌, ◌-◌, ◌≤◌}
use mathlib.Core.Bool.{Bool, true, false}
use mathlib.Core.List.{List}
use mathlib.Core.Path.{◌≡◌, refl, sym, ap, subst}
use mathlib.Core.Logic.{◌≢◌}
use native.Mathlib.Omega.{arith}
use borrow.Author.Tests.{leb-false, ltb-false}
use denote.Enum.Declared.{tag_of}
use lib.Dec.{ltb, leb, eqb}
use lib.ListN.{length}
use Rattle.std.specs.Prelude.{Option, Some, None, Result, Ok, Err}
use Rattle.rules.specs.declared.Refusal.{Refusal}
use Rattle.rules.specs.declared.Refusal.TheVariants.{UnknownForm, ShortEnd}
use Rattle.rules.specs.declared.Entry.{Entry}
use Rattle.rules.specs.declared.Entry.TheVariants.{Read, Update, Fill, Age, Withdraw}
use Rattle.rules.specs.contracts.Entry.{the_type}
use Rattle.rules.specs.Answers.{Reply, read_kind, update_kind, fill_kind, age_kind}
use Rattle.std.specs.Prelude.{if◌then◌else◌}
use Rattle.rules.specs.Table.{Memory}
use Rattle.rules.specs.Steps.{Outcome}
use Rattle.rules.specs.Journal.{Run, entry_size, kind_at, key_at, weight_at, ticket_at, whole_entry, of_form, picture_place, decoded, entry_at, printed, row_of, printing, performed, carried, perform}
use Rattle.runner.specs.declared.Progress.{Progress}
use Rattle.rows.specs.Written.{row_size, written}
use Rattle.runner.specs.Progress.{PictureInside, Runs, Steps}
use Rattle.rows.proofs.Sizes.{row_short, joins}
use Rattle.rows.proofs.Written.{printed_last}

-- ---- pictures
module _ (journal : List ℕ) where
  -- a refused record has no picture
  refused : (cause : Refusal) → PictureInside journal (Err cause)
  refused cause = record { inside = λ key place ticket e. let z : ◌≡◌ {A = ℕ} 0 1 = cc in absurd (omega arith) }

  -- nor has an entry of another kind
  no_fill : (entry : Entry) → tag_of the_type entry ≢ 2 → PictureInside journal (Ok entry)
  no_fill entry other =
      record { inside = λ key place ticket e. let same : entry ≡ Fill key place ticket = cc in absurd (other (ap (λ (x : Entry). tag_of the_type x) same)) }

  either : (b : Bool) (x y : Result Entry Refusal) → PictureInside journal x → PictureInside journal y → PictureInside journal (if b then x else y)
  either true x y first rest = first
  either false x y first rest = rest

  formed : (good : Bool) (entry : Entry) → PictureInside journal (Ok entry) → PictureInside journal (of_form good entry)
  unfolding of_form
  formed true entry first = first
  formed false entry first = refused UnknownForm

  whole_inside : (at : ℕ) → at + entry_size ≤ length journal → PictureInside journal (whole_entry journal at)
  unfolding whole_entry picture_place
  whole_inside at room =
      let key = key_at journal at in
      let weight = weight_at journal at in
      either (eqb (kind_at journal at) read_kind) _ _ (formed _ _ (no_fill (Read key weight) (omega arith)))
      (either (eqb (kind_at journal at) update_kind) _ _ (formed _ _ (no_fill (Update key weight) (omega arith)))
      (either (eqb (kind_at journal at) fill_kind) _ _ (formed _ _ (fill key (ticket_at journal at)))
      (either (eqb (kind_at journal at) age_kind) _ _ (formed _ _ (no_fill Age (omega arith)))
      (formed _ _ (no_fill (Withdraw key) (omega arith))))))
    where
      fill : (key ticket : ℕ) → PictureInside journal (Ok (Fill key (at + 16) ticket))
      fill key ticket = record { inside = λ k place t e. let same : at + 16 ≡ place = cc in omega arith }

  pub picture_inside : (at : ℕ) (entry : Result Entry Refusal) → (entry_at journal at).entry ≡ Some entry → PictureInside journal entry
  unfolding entry_at decoded
  picture_inside at entry e = go (leb (length journal) at) (ltb (length journal - at) entry_size) refl refl e
    where
      there : Bool → Bool → Option (Result Entry Refusal)
      there none_left few =
          (if none_left
          then decoded None at
          else if few then decoded (Some (Err ShortEnd)) at else decoded (Some (whole_entry journal at)) (at + entry_size)).entry

      go : (none_left few : Bool) → leb (length journal) at ≡ none_left → ltb (length journal - at) entry_size ≡ few →
          there none_left few ≡ Some entry → PictureInside journal entry
      go true few more short e = let z : ◌≡◌ {A = ℕ} 0 1 = cc in absurd (omega arith)
      go false true more short e = let same : Err ShortEnd ≡ entry = cc in subst (PictureInside journal) same (refused ShortEnd)
      go false false more short e =
          let same : whole_entry journal at ≡ entry = cc in
          subst (PictureInside journal) same
          (whole_inside at (omega (arith, leb-false (length journal) at more, ltb-false (length journal - at) entry_size short)))

-- ---- steps
module _ (journal : List ℕ) (p : Progress) (m : Memory) (out : List ℕ) where
  pub ended : (entry_at journal p.at).entry ≡ None → Steps journal p m out p m out
  unfolding perform carried
  ended ends = record { runs = λ run out₀ same r. rw (rw r.at at ends) r }

  pub carried_on : (q : Progress) (out' : List ℕ) (o : Outcome Reply Memory) (entry : Result Entry Refusal) →
      (entry_at journal p.at).entry ≡ Some entry → o ≡ performed journal entry m → q.at ≡ (entry_at journal p.at).next → q.numbered ≡ p.numbered + 1 →
      q.end ≡ p.end + length (printed (row_of q.numbered o)) → out' ≡ written out p.end (printed (row_of q.numbered o)) →
      length out' ≡ length out → p.end + row_size ≤ length out → Steps journal p m out q o.after out'
  unfolding perform carried printing
  carried_on q out' o entry more does next counts end holds long room =
      record { runs = λ run out₀ same r. rw (goes run out₀ r) (rows run out₀ same r) }
    where
      goes : (run : Run) (out₀ : List ℕ) → Runs run out₀ p m out → perform journal run (entry_at journal run.at) ≡ printing run q.at o
      goes run out₀ r =
          let there : (entry_at journal run.at).entry ≡ Some entry = rw r.at at more in
          let did : o ≡ performed journal entry run.memory = rw r.memory at does in
          let follows : q.at ≡ (entry_at journal run.at).next = rw r.at at next in
          rw there (cc)

      rows : (run : Run) (out₀ : List ℕ) → length out₀ ≡ length out → Runs run out₀ p m out →
          Runs (printing run q.at o) out₀ q o.after out'
      rows run out₀ same r =
          let number : suc run.numbered ≡ q.numbered = omega arith in
          record {
            memory = refl;
            at = refl;
            numbered = sym number;
            within = omega (arith, row_short q.numbered o);
            end = rw (number, printed_last) (grind (arith, joins));
            rows = rw (number, printed_last) (grind (arith, joins));
          }
