-- An accepted resize keeps what lists keep: its truth is weakened first, then each step keeps it in turn, and the last one lets no record
-- wait where a line is unused. Assumes nothing.
use Prim.Native.Nat.{ℕ, ◌≤◌, ◌<◌}
use mathlib.Core.Path.{◌≡◌}
use native.Mathlib.Omega.{arith}
use Rattle.std.specs.Prelude.{Ok}
use Rattle.rules.specs.Table.{Memory, size, line_total}
use Rattle.rules.specs.Calls.{unless}
use Rattle.rules.specs.Replay.{Truth}
use Rattle.rules.proofs.Invariant.{Full, Hottest, Holds}
use Rattle.rules.proofs.Memories.{sizes_say}
use Rattle.resizing.specs.Resize.{resize_truth, kept, packed, resize_steps, resize_outcome}
use Rattle.resizing.proofs.KeptCounts.{kept_tracked, kept_lined, kept_serial}
use Rattle.resizing.proofs.Packing.{packs}
use Rattle.resizing.proofs.PackSums.{packed_lined, packed_used, packed_unused}
use Rattle.resizing.proofs.PackHolds.{pack_holds}
use Rattle.resizing.proofs.Shrinking.{weaken, kept_holds}
use Rattle.resizing.proofs.Accepting.{Accepted, resize_accepted}
use Rattle.resizing.proofs.Filling.{filled_up_holds}

steps_hold : (source target : Memory) (t : Truth) (stale : ℕ → ℕ) → Holds source t stale → Accepted source target →
    Holds (resize_steps source target) (resize_truth t (size target)) stale
unfolding resize_steps line_total size resize_truth
steps_hold source target t stale h a =
    let records = size target in
    let lines = line_total target in
    let t' = resize_truth t records in
    let sized = sizes_say target.table target.lines a.target_sizes in
    let fewer : lines < records = sized.lines_fewer in
    let few : t'.fewest ≤ records = omega arith in
    let m = kept records lines source in
    let k = kept_holds records lines source t' stale (weaken Full Hottest source t stale records h) few fewer in
    let tracked = kept_tracked records lines source h.bytes fewer in
    let lined = kept_lined records lines source h.bytes fewer in
    let serial = kept_serial records lines source h.bytes fewer in
    let p = packs m target k.bytes k.sizes a.target_sizes k.tracks.state_most tracked lined in
    let same = packed_lined m target p tracked in
    filled_up_holds (packed m target) t' stale (pack_holds m target t' stale k a.target_sizes tracked lined few)
    (rw (p.gauge, p.lines) (omega (arith, serial, a.serial, fewer, sized.records_few)))
    (λ line below. packed_used m target p tracked line (rw same at below))
    (λ line above. packed_unused m target p line (rw same at above))

pub resize_holds : (source target : Memory) (t : Truth) (stale : ℕ → ℕ) → Holds source t stale →
    (resize_outcome source target).answer ≡ Ok tt →
    Holds (resize_outcome source target).after (resize_truth t (size target)) stale
unfolding resize_outcome unless
resize_holds source target t stale h e =
    let a = resize_accepted source target e in
    rw a.verdict (steps_hold source target t stale h a)
