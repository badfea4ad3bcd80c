use Rattle.std.proofs.Common.{◌≡◌, [], add-one, rules, arith}
use Rattle.rules.specs.Bytes.{IsBytes, record_count}
use Rattle.rules.specs.Table.{change_all, places, size, with_table, with_gauge, fresh_gauge}
use Rattle.rules.specs.Steps.{aged}
use Rattle.rules.specs.Calls.{lent}
use Rattle.rules.proofs.Memories.{places_aged}
use Rattle.steps.proofs.age_records.Goals as goal

pub loop-i-preserved : goal.loop-i-preserved
unfolding change_all
loop-i-preserved c = rw (add-one, c.change_record.ensures _ (λ r made. made.1), c.loop-i.invariant)

pub returns-clause-each : goal.returns-clause-each
unfolding places size aged with_table with_gauge record_count
returns-clause-each c i inside =
    let bytes : IsBytes c.args.table.now = record { below = λ i. search rules } in
    let whole : c.loop-i.i ≡ record_count c.args.table.now = omega arith in
    rw (c.loop-i.invariant, whole) (places_aged (lent c.args.table.now fresh_gauge []) bytes i inside)
