-- An accepted resize has room. Assumes nothing.
use Rattle.std.proofs.Common.{sym, rules}
use Rattle.rules.specs.Bytes.{IsBytes}
use Rattle.resizing.proofs.Accepting.{verdict_says}
use Rattle.resizing.proofs.Fits.{resize_fits}
use Rattle.resizing.proofs.resize.Goals as goal

pub resize_steps-requires : goal.resize_steps-requires
resize_steps-requires c =
    let bytes : IsBytes c.args.table.now = record { below = λ i. search rules } in
    resize_fits _ _ bytes (verdict_says _ _ (sym (c.in_ok-resize_verdict.ensures c.args.to_gauge.now)))
