-- A record that is not in order settles the answer.
use Rattle.std.proofs.Common.{ℕ, Bool, true, false, ◌≡◌, ◌<◌, refl, arith}
use Rattle.std.proofs.lemmas.Grind.{common_steps}
use Rattle.rules.specs.declared.Record.{Record}
use Rattle.rules.specs.declared.Gauge.{Gauge}
use Rattle.rules.specs.Pass.{all_of}
use Rattle.rules.specs.Table.{is_tracked, is_unlined, is_lined, record_in_order, in_order}
use Rattle.rules.proofs.Searches.{clash, all_at}
use Rattle.verdicts.proofs.in_order.Goals as goal

settles : (f : ℕ → Record) (n lines : ℕ) (g : Gauge) (i : ℕ) (r : Record) → i < n → r ≡ f i → record_in_order g.total lines r ≡ false →
    false ≡ in_order f n lines g
unfolding in_order
settles f n lines g i r inside read fails = go (all_of test f n) refl
  where
    test : Record → Bool
    test = record_in_order g.total lines

    go : (b : Bool) → all_of test f n ≡ b → false ≡ in_order f n lines g
    go true e = clash (all_at test f n e i inside) (rw (← read) fails)
    go false e = grind (arith, common_steps)

pub returns-then-total-r : goal.returns-then-total-r
unfolding record_in_order
returns-then-total-r c =
    settles _ _ _ _ c.loop-i.i c.record_at-r.result (rw (← c.record_count-i-end.ensures) c.loop-i-test.true) c.record_at-r.ensures (grind (arith, common_steps))

pub returns-then-r-ne0 : goal.returns-then-r-ne0
unfolding record_in_order is_unlined is_lined
returns-then-r-ne0 c =
    settles _ _ _ _ c.loop-i.i c.record_at-r.result (rw (← c.record_count-i-end.ensures) c.loop-i-test.true) c.record_at-r.ensures (grind (arith, common_steps))

pub returns-then-r-ne0-2 : goal.returns-then-r-ne0-2
unfolding record_in_order is_tracked is_unlined
returns-then-r-ne0-2 c =
    settles _ _ _ _ c.loop-i.i c.record_at-r.result (rw (← c.record_count-i-end.ensures) c.loop-i-test.true) c.record_at-r.ensures (grind (arith, common_steps))
