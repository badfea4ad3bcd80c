use Rattle.std.proofs.Common.{◌≡◌, ◌+◌, ◌*◌, ◌≤◌, length}
use Rattle.rules.specs.Calls.{lent}
use Rattle.rules.specs.Table.{Memory}
use Rattle.rules.specs.Journal.{start_run}
use Rattle.replay.specs.Pieces.{piece_records, piece_size, RunsAll}
use Rattle.replay.proofs.Store.run_all.Given as goal

abbrev pub invariant-loop-pieces : goal.invariant-loop-pieces
invariant-loop-pieces l =
    (l.t.progress.numbered ≤ piece_records * (l.pieces + 1))
    × (l.t.got ≤ piece_size)
    × (length l.self.piece ≡ piece_size)
    × ((m : Memory) → RunsAll 0 (start_run m) l.initial.self.piece l.initial.t (lent l.initial.self.table l.initial.t.progress.gauge l.initial.self.lines) l.initial.self.out →
    RunsAll l.pieces (start_run m) l.self.piece l.t (lent l.self.table l.t.progress.gauge l.self.lines) l.self.out)
