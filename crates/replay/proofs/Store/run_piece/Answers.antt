-- What was read is at most so many records as the output and the numbers have room for, so the run is whole. Assumes nothing.
use Rattle.std.proofs.Common.{◌≡◌, ℕ, ◌+◌, ◌≤◌, ◌<◌, ◌^◌, List, length, refl, arith}
use Rattle.rules.specs.Table.{Memory}
use Rattle.rules.specs.Journal.{entry_count, going_on}
use Rattle.runner.specs.declared.Ended.{Ended}
use Rattle.runner.specs.Progress.{Runs, Ends}
use Rattle.runner.proofs.Room.{room_enough}
use Rattle.replay.specs.Pieces.{piece_records, rows_size, whole_run}
use Rattle.replay.proofs.Pieces.{few_entries}
use Rattle.replay.proofs.Store.run_piece.Goals as goal

runs_whole : {m m' : Memory} {numbered : ℕ} {journal out₀ out : List ℕ} {q : Ended} → entry_count journal ≤ piece_records →
    length out₀ ≡ rows_size → numbered + piece_records < 2 ^ 64 → Ends journal (going_on m numbered) out₀ q m' out →
    Runs (whole_run journal (going_on m numbered)) out₀ q.progress m' out
runs_whole {m} {numbered = numbered} {journal} {out₀} few room numbers ended =
    rw (room_enough journal (going_on m numbered) (length out₀) refl (omega arith) (omega arith)) at ended.runs

pub returns-clause-runs : goal.returns-clause-runs
returns-clause-runs c =
    let few = few_entries c.read_full-got.result c.read_full-got.new.buf (omega arith) in
    record {
      within = omega arith;
      runs = runs_whole few (omega arith) c.requires c.run-ended.ensures;
    }
