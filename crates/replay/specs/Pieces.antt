-- What the program makes of the bytes that it reads: the run of a piece, and the run of all pieces. What it reads is a fact of the
-- call to C: it is what lies in the piece's buffer afterwards, up to the count that the call gave.
use Rattle.std.specs.Prelude.{ℕ, ◌*◌, ◌≤◌, ◌<◌, ◌≡◌, List, ◌++◌, true, length, take}
use Rattle.rules.specs.Table.{Memory}
use Rattle.rules.specs.Journal.{Run, entry_size, entry_count, run_for, printed_all}
use Rattle.rows.specs.Written.{row_size}
use Rattle.runner.specs.Progress.{Runs}
use Rattle.replay.specs.declared.Ran.{Ran}

-- the records of a full piece, its bytes, and the room for its rows
abbrev pub piece_records : ℕ
piece_records = 744

abbrev pub piece_size : ℕ
piece_size = entry_size * piece_records

abbrev pub rows_size : ℕ
rows_size = row_size * piece_records

-- a journal, run whole
abbrev pub whole_run : List ℕ → Run → Run
whole_run journal start = run_for journal start (entry_count journal)

-- what was read into a piece's buffer
abbrev pub read_into : Ran → List ℕ → List ℕ
read_into t piece = take t.got piece

-- the bytes that were read are run, and their rows are what the output begins with
pub record RunsPiece (start : Run) (piece out₀ : List ℕ) (t : Ran) (m : Memory) (out : List ℕ) : Type 0 where
  pub within : t.got ≤ length piece
  pub runs : Runs (whole_run (read_into t piece) start) out₀ t.progress m out

-- There are bytes of so many full pieces that memory and count are those of one run of them and the last piece. Its rows are theirs,
-- and then those that the output begins with. (The buffer has been used again, so that nothing more can be said of them here.)
pub record RunsAll (pieces : ℕ) (start : Run) (piece : List ℕ) (t : Ran) (m : Memory) (out : List ℕ) : Type 0 where
  pub earlier : List ℕ
  pub full : length earlier ≡ piece_size * pieces
  pub memory : m ≡ (whole_run (earlier ++ read_into t piece) start).memory
  pub numbered : t.progress.numbered ≡ (whole_run (earlier ++ read_into t piece) start).numbered
  pub rows : printed_all (whole_run (earlier ++ read_into t piece) start).rows
      ≡ printed_all (whole_run earlier start).rows ++ take t.progress.end out

-- a number of pieces that no run reaches
abbrev pub most_pieces : ℕ
most_pieces = 4503599627370496

-- and it ends at a piece that is not full, unless its rows could not be written
pub record Replays (start : Run) (piece : List ℕ) (t : Ran) (m : Memory) (out : List ℕ) : Type 0 where
  pub pieces : ℕ
  pub runs : RunsAll pieces start piece t m out
  pub last : t.wrote ≡ true → pieces < most_pieces → t.got < piece_size
