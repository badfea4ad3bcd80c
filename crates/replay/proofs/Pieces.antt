-- The laws of runs by pieces: the first piece is a run of all that was read, and another after a full one carries it on, since the runs
-- of a journal's pieces are the run of the journal. Assumes nothing.
use Prim.Native.Nat.{ℕ, ◌+◌, ◌*◌, ◌≤◌, ◌^◌}
use mathlib.Core.List.{List, [], ◌++◌}
use mathlib.Core.Path.{◌≡◌, refl, sym, ◌∙◌}
use native.Mathlib.Omega.{arith}
use lib.ListN.{length, take, length-append, length-take}
use Rattle.rules.specs.Table.{Memory}
use Rattle.rules.specs.Journal.{Run, entry_size, entry_count, run_for, printed_all, going_on, start_run}
use Rattle.rules.proofs.Pieces.{pieces_join}
use Rattle.rows.proofs.Written.{written_front, printed_join}
use Rattle.runner.specs.declared.Progress.{Progress}
use Rattle.runner.specs.Progress.{Runs}
use Rattle.runner.proofs.Room.{numbered_most}
use Rattle.replay.specs.declared.Ran.{Ran}
use Rattle.replay.specs.Pieces.{piece_records, piece_size, most_pieces, read_into, RunsPiece, RunsAll}

-- so many bytes hold at most so many records
pub few_entries : (got : ℕ) (piece : List ℕ) → length piece ≤ piece_size → entry_count (take got piece) ≤ piece_records
unfolding entry_count
few_entries got piece short = simp length-take (omega arith)

-- the rows of a run are what the output begins with
rows_front : {run : Run} {out₀ out : List ℕ} {q : Progress} {m : Memory} → Runs run out₀ q m out → take q.end out ≡ printed_all run.rows
rows_front r = rw (r.end, r.rows) (written_front _ _)

module _ {m m' : Memory} {piece out₀ out : List ℕ} {t : Ran} where
  pub piece_numbers : {numbered : ℕ} → length piece ≤ piece_size → RunsPiece (going_on m numbered) piece out₀ t m' out →
      t.progress.numbered ≤ numbered + piece_records
  piece_numbers {numbered} short ran =
      omega (
        arith,
        ran.runs.numbered,
        numbered_most (read_into t piece) (going_on m numbered) (entry_count (read_into t piece)),
        few_entries t.got piece short,
      )

  pub first_piece : RunsPiece (going_on m 0) piece out₀ t m' out → RunsAll 0 (start_run m) piece t m' out
  unfolding start_run run_for entry_count printed_all
  first_piece ran =
      record {
        earlier = [];
        full = refl;
        memory = ran.runs.memory;
        numbered = ran.runs.numbered;
        rows = sym (rows_front ran.runs);
      }

-- full pieces are whole records
whole_records : (journal : List ℕ) (pieces : ℕ) → length journal ≡ piece_size * pieces → length journal ≡ entry_size * entry_count journal
unfolding entry_count
whole_records journal pieces full = omega arith

pub next_piece : (m : Memory) {m₁ m₂ : Memory} {piece next out₁ out₂ : List ℕ} {t u : Ran} {pieces : ℕ} → length piece ≡ piece_size → t.got ≡ piece_size →
    RunsAll pieces (start_run m) piece t m₁ out₁ → RunsPiece (going_on m₁ t.progress.numbered) next out₁ u m₂ out₂ →
    RunsAll (pieces + 1) (start_run m) next u m₂ out₂
unfolding start_run
next_piece m {piece = piece} {next = next} {t = t} {u = u} {pieces = pieces} whole full before ran =
    let earlier = before.earlier ++ read_into t piece in
    let long : length earlier ≡ piece_size * (pieces + 1) = simp (length-append, length-take) (omega (arith, before.full)) in
    let all = pieces_join m 0 earlier (read_into u next) (whole_records earlier _ long) in
    let last = rw (before.memory, before.numbered) at ran.runs in
    record {
      earlier = earlier;
      full = long;
      memory = last.memory ∙ sym all.memory;
      numbered = last.numbered ∙ sym all.numbered;
      rows = rw (all.rows, printed_join, rows_front last);
    }

-- no input has so many bytes
pub pieces_beyond : 2 ^ 64 ≤ piece_size * most_pieces
pieces_beyond = omega arith
