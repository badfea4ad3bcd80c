use Rattle.std.proofs.Common.{◌≡◌, ℕ, ◌<◌, Bool, true, length}
use Rattle.rules.specs.Calls.{lent}
use Rattle.rules.specs.Journal.{Run, run_for, printed_all, going_on}
use Rattle.runner.specs.Progress.{Runs, room_for}
use Rattle.runner.proofs.run.Given as goal

-- the row that a run prints next has room
abbrev pub next_fits : ℕ → Run → Bool
next_fits most run = room_for most (length (printed_all run.rows)) run.numbered

abbrev pub invariant-loop-i : goal.invariant-loop-i
invariant-loop-i l =
    let start = going_on (lent l.initial.table l.fn.gauge l.initial.lines) l.numbered in
    Runs (run_for l.journal start l.i) l.initial.out l.progress (lent l.table l.progress.gauge l.lines) l.out
    × ((k : ℕ) → k < l.i → next_fits (length l.initial.out) (run_for l.journal start k) ≡ true)
