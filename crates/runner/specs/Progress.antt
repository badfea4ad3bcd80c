-- What a step and a run of a journal give, in the words of their contracts.
use Rattle.std.specs.Prelude.{ℕ, ◌+◌, ◌≤◌, ◌^◌, ◌≡◌, List, Bool, ◌&&◌, length, ltb, leb, eqb, Result, Ok}
use Rattle.rules.specs.declared.Refusal.{Refusal}
use Rattle.rules.specs.declared.Entry.{Entry}
use Rattle.rules.specs.declared.Entry.TheVariants.{Fill}
use Rattle.rules.specs.Bytes.{line_size}
use Rattle.rules.specs.Pass.{lowest_not}
use Rattle.rules.specs.Table.{Memory}
use Rattle.rules.specs.Journal.{Run, printed_all, entry_at, perform, run_for, entry_count}
use Rattle.runner.specs.declared.Progress.{Progress}
use Rattle.runner.specs.declared.Ended.{Ended}
use Rattle.rows.specs.Written.{row_size, written}

-- a fill's picture lies in the journal
pub record PictureInside (journal : List ℕ) (entry : Result Entry Refusal) : Type 0 where
  pub inside : (key place ticket : ℕ) → entry ≡ Ok (Fill key place ticket) → place + line_size ≤ length journal

-- a run has come so far: memory and numbers are the run's, and its rows are written from the start of what the output was
pub record Runs (run : Run) (out₀ : List ℕ) (q : Progress) (m : Memory) (out : List ℕ) : Type 0 where
  pub memory : m ≡ run.memory
  pub at : q.at ≡ run.at
  pub numbered : q.numbered ≡ run.numbered
  pub within : q.end ≤ length out
  pub end : q.end ≡ length (printed_all run.rows)
  pub rows : out ≡ written out₀ 0 (printed_all run.rows)

-- one step carries a run on
pub record Steps (journal : List ℕ) (p : Progress) (m : Memory) (out : List ℕ) (q : Progress) (m' : Memory) (out' : List ℕ) : Type 0 where
  pub runs : (run : Run) (out₀ : List ℕ) → length out₀ ≡ length out → Runs run out₀ p m out →
      Runs (perform journal run (entry_at journal run.at)) out₀ q m' out'

-- one more row has room after end in an output of so many bytes, and a number that 64 bits hold
unfoldable pub room_for : ℕ → ℕ → ℕ → Bool
room_for most end numbered = leb (end + row_size) most && ltb (numbered + 1) (2 ^ 64)

-- how many records of a journal are run: all, or those before the first whose row has no room
unfoldable pub records_run : List ℕ → Run → ℕ → ℕ
records_run journal start most =
    lowest_not (λ i. room_for most (length (printed_all (run_for journal start i).rows)) (run_for journal start i).numbered) (entry_count journal)

-- a run has ended: so many records are run, and it says whether these are all
pub record Ends (journal : List ℕ) (start : Run) (out₀ : List ℕ) (q : Ended) (m : Memory) (out : List ℕ) : Type 0 where
  pub runs : Runs (run_for journal start (records_run journal start (length out₀))) out₀ q.progress m out
  pub whole : q.whole ≡ eqb (records_run journal start (length out₀)) (entry_count journal)
