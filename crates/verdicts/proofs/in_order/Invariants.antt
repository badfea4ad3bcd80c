-- After i records the first i are in order, and those of them that are on lines are counted.
use Rattle.std.proofs.Common.{◌≡◌, true}
use Rattle.rules.specs.Bytes.{record_at}
use Rattle.rules.specs.Pass.{all_of, count_of}
use Rattle.rules.specs.Table.{is_lined, record_in_order}
use Rattle.verdicts.proofs.in_order.Given as goal

abbrev pub invariant-loop-i : goal.invariant-loop-i
invariant-loop-i l = record {
  in_order : all_of (record_in_order l.total l.lines) (record_at l.table) l.i ≡ true;
  counted : l.lined ≡ count_of is_lined (record_at l.table) l.i;
}
