use Rattle.std.proofs.Common.{◌≡◌}
use Rattle.rules.specs.Calls.{memory, SameLent}
use Rattle.resizing.specs.Resize.{times, drop_victim}
use Rattle.resizing.proofs.evict.Given as goal

abbrev pub invariant-loop : goal.invariant-loop
invariant-loop l = SameLent l.initial.hub l.hub × (memory l.hub ≡ times l.counter drop_victim (memory l.initial.hub))
