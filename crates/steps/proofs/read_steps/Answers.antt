-- An aging gives no ticket. Assumes nothing.
use Rattle.std.proofs.Common.{◌≡◌, ℕ, ◌+◌, Bool, true, false, refl, ap, ◌∙◌, arith}
use Rattle.std.proofs.Math.Dec.{ltb}
use Rattle.std.specs.Prelude.{if◌then◌else◌}
use Rattle.rules.specs.Table.{Memory, most_total, with_gauge}
use Rattle.rules.specs.Steps.{aged, aged_gauge, decay_for}
use Rattle.steps.proofs.Rooms.{lines_gauge, heats_gauge}
use Rattle.steps.proofs.read_steps.Goals as goal

gives_none : (w : ℕ) (m : Memory) → (decay_for w m).gauge.serial ≡ m.gauge.serial
unfolding decay_for aged aged_gauge with_gauge
gives_none w m = go (ltb most_total (m.gauge.total + w))
  where
    go : (b : Bool) → (if b then aged m else m).gauge.serial ≡ m.gauge.serial
    go true = refl
    go false = refl

pub read_counted-requires : goal.read_counted-requires
unfolding with_gauge
read_counted-requires c =
    let (_, _, _, serial) = c.requires in
    let (heats, lines) = c.decay_for.ensures.room in
    let same = ap (λ (m : Memory). m.gauge.serial) c.decay_for.ensures.memory ∙ gives_none _ _ in
    (heats_gauge _ _ heats heats.ceiling, lines_gauge _ _ lines, rw same (serial (omega arith)))
