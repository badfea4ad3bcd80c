use Rattle.std.proofs.Common.{◌<◌}
use Rattle.rules.specs.Bytes.{record_at, record_count}
use Rattle.tracker.proofs.Hottest.{Hottest}
use Rattle.tracker.proofs.hottest_unlined.Given as goal

abbrev pub invariant-loop-i : goal.invariant-loop-i
invariant-loop-i l = Hottest (record_at l.table) l.i l.best l.most × (l.best < record_count l.table)
