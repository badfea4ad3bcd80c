use Rattle.std.proofs.Common.{◌≡◌, ◌≤◌, ◌+◌, ◌-◌}
use Rattle.rules.specs.Calls.{memory, SameLent}
use Rattle.resizing.specs.Resize.{promoted}
use Rattle.resizing.proofs.fill_up.Given as goal

abbrev pub invariant-loop-line : goal.invariant-loop-line
invariant-loop-line l =
    SameLent l.initial.hub l.hub
    × (l.initial.line ≤ l.line)
    × (l.line - l.initial.line ≤ l.line-end - l.initial.line)
    × (memory l.hub ≡ promoted l.initial.line (l.line - l.initial.line) (memory l.initial.hub))
    × (l.hub.gauge.now.serial + l.initial.line ≤ l.initial.hub.gauge.now.serial + l.line)
