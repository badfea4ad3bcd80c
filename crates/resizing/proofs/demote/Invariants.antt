use Rattle.std.proofs.Common.{◌≡◌}
use Rattle.rules.specs.Calls.{memory, SameLent}
use Rattle.resizing.specs.Resize.{times, unline_coldest}
use Rattle.resizing.proofs.demote.Given as goal

abbrev pub invariant-loop : goal.invariant-loop
invariant-loop l = SameLent l.initial.hub l.hub × (memory l.hub ≡ times l.counter unline_coldest (memory l.initial.hub))
