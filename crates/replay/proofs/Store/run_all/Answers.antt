-- What the loop begins with is a run of the first piece, and each turn follows a full piece and carries the run on. Assumes nothing.
use Rattle.std.proofs.Common.{arith}
use Rattle.rules.proofs.Searches.{clash}
use Rattle.replay.proofs.Pieces.{piece_numbers, first_piece, next_piece}
use Rattle.replay.proofs.Store.run_all.Goals as goal
use Rattle.replay.proofs.Store.run_all.Goals.{then-not-t-via-then-not-t, then-not-t-via-else-not-t+then-t-lt-PIECE_SIZE}

pub loop-pieces-init : goal.loop-pieces-init
loop-pieces-init c =
    let runs = c.run_piece-t.ensures.runs in
    let whole = c.run_piece-t.ensures.whole in
    (piece_numbers (omega (arith, whole)) runs, omega (arith, whole, runs.within), whole, λ m all. all)

pub loop-pieces-preserved : goal.loop-pieces-preserved
loop-pieces-preserved c =
    let runs = c.run_piece-t-in-loop-pieces.ensures.runs in
    let whole = c.run_piece-t-in-loop-pieces.ensures.whole in
    let (_, _, before, all-before) = c.loop-pieces.invariant in (
      omega (arith, piece_numbers (omega (arith, whole)) runs),
      omega (arith, whole, runs.within),
      whole,
      λ m all. next_piece m before (omega arith) (all-before m all) runs,
    )

pub returns-then-not-t : goal.returns-then-not-t
returns-then-not-t c =
    record {
      pieces = c.loop-pieces.pieces;
      runs = c.loop-pieces.invariant.3 _ (first_piece c.run_piece-t.ensures.runs);
      last = λ wrote few.
          elim c.then-not-t.branch [
            | then-not-t-via-then-not-t w ↦ clash w.if-not-t.true (rw wrote)
            | then-not-t-via-else-not-t+then-t-lt-PIECE_SIZE w ↦ omega (arith, w.if-t-lt-PIECE_SIZE.true)
          ];
    }

pub returns : goal.returns
returns c =
    record {
      pieces = c.loop-pieces.pieces;
      runs = c.loop-pieces.invariant.3 _ (first_piece c.run_piece-t.ensures.runs);
      last = λ wrote few. absurd (omega arith);
    }
