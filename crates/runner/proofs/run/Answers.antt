-- A run stops at the first record whose row has no room, or after all of them. Assumes nothing.
use Rattle.std.proofs.Common.{◌≡◌, ℕ, ◌<◌, true, false, List, length, refl, sym, ◌∙◌, eq-eqb, ne_eqb, arith}
use Rattle.rules.specs.Table.{Memory}
use Rattle.rules.specs.Journal.{Run, run_for, entry_count}
use Rattle.rules.proofs.Searches.{lowest_found, lowest_none}
use Rattle.runner.specs.declared.Progress.{Progress}
use Rattle.runner.specs.Progress.{Runs, Ends, records_run}
use Rattle.runner.proofs.run.Invariants.{next_fits}
use Rattle.runner.proofs.run.Goals as goal

-- the two ways out
module _ (journal : List ℕ) {start : Run} {out₀ out : List ℕ} {p : Progress} {m : Memory} {i : ℕ} where
  stops : i < entry_count journal → next_fits (length out₀) (run_for journal start i) ≡ false →
      ((k : ℕ) → k < i → next_fits (length out₀) (run_for journal start k) ≡ true) → Runs (run_for journal start i) out₀ p m out →
      Ends journal start out₀ (record { progress = p; whole = false }) m out
  unfolding records_run
  stops more none before r =
      let e : records_run journal start (length out₀) ≡ i = lowest_found _ _ _ more none before in
      record { runs = rw e r; whole = rw e (sym (ne_eqb i (entry_count journal) (omega arith))) }

  ends : entry_count journal ≡ i → ((k : ℕ) → k < i → next_fits (length out₀) (run_for journal start k) ≡ true) →
      Runs (run_for journal start i) out₀ p m out → Ends journal start out₀ (record { progress = p; whole = true }) m out
  unfolding records_run
  ends all before r =
      let e : records_run journal start (length out₀) ≡ i = lowest_none _ _ (rw (← all) at before) ∙ all in
      record { runs = rw e r; whole = rw (e, all) (sym (eq-eqb i i refl)) }

pub returns-then-not-has_room : goal.returns-then-not-has_room
unfolding entry_count
returns-then-not-has_room c =
    let (r, before) = c.loop-i.invariant in
    stops c.args.journal.now (omega arith)
    (rw (← r.end, ← r.numbered, ← c.loop-i.auto.out) (sym c.has_room.ensures ∙ c.if-not-has_room.true)) before r

pub returns : goal.returns
unfolding entry_count
returns c = ends c.args.journal.now (omega arith) c.loop-i.invariant.1 c.loop-i.invariant.0
