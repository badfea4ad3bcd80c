use Rattle.std.proofs.Common.{◌≡◌}
use Rattle.rules.specs.Table.{aged_record, change_all}
use Rattle.steps.proofs.age_records.Given as goal

abbrev pub invariant-loop-i : goal.invariant-loop-i
invariant-loop-i l = l.table ≡ change_all aged_record l.initial.table l.i
