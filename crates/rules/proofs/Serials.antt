-- Whatever it is lent, no call lowers the serial, a read, an update or a withdrawal gives one ticket at most, and a fill and an aging
-- give none. A withdrawal leaves total and ceiling.
-- Assumes nothing.
use Prim.Native.Nat.{ℕ, ◌+◌}
use mathlib.Core.Path.{◌≡◌, refl}
use mathlib.Core.Bool.{Bool, true, false}
use mathlib.Core.List.{List}
use native.Mathlib.Omega.{arith}
use lib.Dec.{ltb, eqb}
use Rattle.rules.specs.declared.Record.{Record}
use Rattle.rules.specs.Pass.{Found}
use Rattle.std.specs.Prelude.{Some, None}
use Rattle.rules.specs.declared.Lookup.{Lookup}
use Rattle.rules.specs.declared.Lookup.TheVariants.{Untracked, Unlined, Lined}
use Rattle.rules.specs.declared.Refusal.TheVariants.{StaleTicket}
use Rattle.rules.specs.Answers.{Completion, Reply}
use Rattle.std.specs.Prelude.{Ok, Err}
use Rattle.std.specs.Prelude.{if◌then◌else◌}
use Rattle.rules.specs.Table.{Memory, freed, is_lined, hotter, key_record, lookup, most_total, places, size, line_total, coldest_lined, hottest_unlined, lowest_unused, with_table, with_gauge, with_lines, write}
use Rattle.rules.specs.Steps.{Outcome, outcome, aged_gauge, aged, age_steps, next_ticket, ticketed, GivesOne, renew, give_line, hand_on, hand_over, decay_for, grown, track, raised, evict, replace_coldest, promote, admit, admission, place, read_counted, warm_steps, peek_steps, read_steps, demote_for, demote, change, update_steps, store_in, store, fill_steps, vacate_for, vacate, withdraw, withdraw_steps}
use Rattle.rules.specs.Calls.{unless, leaving, plain_verdict, read_verdict, update_verdict, fill_verdict, withdraw_verdict, age_outcome, read_outcome, update_outcome, fill_outcome, withdraw_outcome}
use Rattle.rules.proofs.Peek.{read_either}

-- ---- one call leaves the serial, or gives the next
none : (m after : Memory) → after.gauge.serial ≡ m.gauge.serial → GivesOne m after
unfolding next_ticket
none m after e = omega arith

one : (m after : Memory) → after.gauge.serial ≡ next_ticket m → GivesOne m after
unfolding next_ticket
one m after e = omega arith

give_one : (m : Memory) (i line : ℕ) → GivesOne m (give_line m i line)
unfolding give_line ticketed write with_table with_gauge
give_one m i line = one m (give_line m i line) refl

hand_one : (m : Memory) (a : ℕ) (left : Record) (b : ℕ) → GivesOne m (hand_on m a left b)
unfolding hand_on give_line ticketed next_ticket write with_table with_gauge
hand_one m a left b = one m (hand_on m a left b) refl

renew_one : (m : Memory) (i : ℕ) → GivesOne m (renew m i)
unfolding renew ticketed write with_table with_gauge
renew_one m i = one m (renew m i) refl

-- either of two that give one at most
either : (m : Memory) (b : Bool) (x y : Memory) → GivesOne m x → GivesOne m y → GivesOne m (if b then x else y)
either m true x y gx gy = gx
either m false x y gx gy = gy

unless_one : (m : Memory) (v : Completion) (given : Outcome Reply Memory) → GivesOne m given.after →
    GivesOne m (unless v (leaving m) given).after
unfolding unless
unless_one m (Ok u) given g = g
unless_one m (Err n) given g = none m m refl

-- ---- step 5
replace_one : (m : Memory) (i : ℕ) (x : Found) → GivesOne m (replace_coldest m i x)
unfolding replace_coldest hand_over
replace_one m i None = none m m refl
replace_one m i (Some (j, r)) = either m (hotter (places m i) r) (hand_over m j i) m (hand_one m j _ i) (none m m refl)

admit_one : (m : Memory) (i : ℕ) → GivesOne m (admit m i)
unfolding admit promote
admit_one m i =
    let line = lowest_unused (places m) (size m) (line_total m) in
    either m (is_lined (places m i)) m _ (none m m refl)
    (either m (ltb line (line_total m)) (give_line m i line) _ (give_one m i line)
    (replace_one m i (coldest_lined (places m) (size m))))

-- ---- the calls
place_one : (m : Memory) (key w : ℕ) (x y z : Found) → GivesOne m (place m key w x y z).after
unfolding place admission evict track raised write with_table with_gauge next_ticket
place_one m key w (Some (i, r)) y z = admit_one _ i
place_one m key w None (Some (i, r)) z = admit_one _ i
place_one m key w None None (Some (i, r)) = admit_one _ i
place_one m key w None None None = none m m refl

warm_one : (m : Memory) (key w : ℕ) → GivesOne m (warm_steps m key w).after
unfolding warm_steps read_counted decay_for grown aged aged_gauge with_table with_gauge next_ticket
warm_one m key w = go (ltb most_total (m.gauge.total + w))
  where
    go : (b : Bool) → GivesOne m (read_counted (grown w (if b then aged m else m)) key w).after
    go true = place_one (grown w (aged m)) key w _ _ _
    go false = place_one (grown w m) key w _ _ _

pub read_gives : (m : Memory) (key w : ℕ) → GivesOne m (read_outcome m key w).after
unfolding read_outcome peek_steps
read_gives m key w =
    unless_one m (read_verdict m w) (read_steps m key w)
    (read_either m key w (λ (o : Outcome Reply Memory). GivesOne m o.after) (λ _. none m m refl) (λ _. warm_one m key w))

demote_one : (m : Memory) (i : ℕ) → GivesOne m (demote m i)
unfolding demote demote_for hand_over
demote_one m i =
    either m (is_lined (places m i)) (demote_for m i (hottest_unlined (places m) (size m))) m
    (go (hottest_unlined (places m) (size m))) (none m m refl)
  where
    go : (x : Found) → GivesOne m (demote_for m i x)
    go None = renew_one m i
    go (Some (j, r)) = either m (hotter r (places m i)) (hand_over m i j) (renew m i) (hand_one m i _ j) (renew_one m i)

pub update_gives : (m : Memory) (key w : ℕ) → GivesOne m (update_outcome m key w).after
unfolding update_outcome update_steps change write with_table next_ticket
update_gives m key w = unless_one m (update_verdict m w) (update_steps m key w) (go (key_record key (places m) (size m)))
  where
    go : (x : Found) → GivesOne m (change m w x).after
    go None = none m m refl
    go (Some (i, r)) = demote_one _ i

-- what a withdrawal does to the gauge
record Spends (m after : Memory) : Type 0 where
  gives : GivesOne m after
  ceiling : after.gauge.ceiling ≡ m.gauge.ceiling
  total : after.gauge.total ≡ m.gauge.total

same : (m : Memory) → Spends m m
same m = record { gives = none m m refl; ceiling = refl; total = refl }

vacate_spends : (m : Memory) (i : ℕ) → Spends m (vacate m i)
unfolding vacate vacate_for hand_on give_line ticketed next_ticket write with_table with_gauge
vacate_spends m i = go (is_lined (places m i)) (hottest_unlined (places m) (size m))
  where
    go : (b : Bool) (x : Found) → Spends m (if b then vacate_for m i x else write m i freed)
    go true None = record { gives = none m (write m i freed) refl; ceiling = refl; total = refl }
    go true (Some (j, r)) = record { gives = hand_one m i freed j; ceiling = refl; total = refl }
    go false x = record { gives = none m (write m i freed) refl; ceiling = refl; total = refl }

withdraw_spends : (m : Memory) (key : ℕ) → Spends m (withdraw_steps m key).after
unfolding withdraw_steps withdraw
withdraw_spends m key = found (key_record key (places m) (size m))
  where
    found : (x : Found) → Spends m (withdraw m x).after
    found None = same m
    found (Some (i, r)) = vacate_spends m i

pub withdraw_steps_give : (m : Memory) (key : ℕ) → GivesOne m (withdraw_steps m key).after
withdraw_steps_give m key = (withdraw_spends m key).gives

pub withdraw_gives : (m : Memory) (key : ℕ) → GivesOne m (withdraw_outcome m key).after
unfolding withdraw_outcome
withdraw_gives m key = unless_one m (withdraw_verdict m) (withdraw_steps m key) (withdraw_steps_give m key)

-- | a withdrawal leaves the ceiling (document 02)
-- and the total, refused or not, whoever gets the line
pub withdraw_keeps : (m : Memory) (key : ℕ) →
    ((withdraw_outcome m key).after.gauge.ceiling ≡ m.gauge.ceiling) × ((withdraw_outcome m key).after.gauge.total ≡ m.gauge.total)
unfolding withdraw_outcome unless
withdraw_keeps m key = go (withdraw_verdict m)
  where
    go : (v : Completion) →
        ((unless v (leaving m) (withdraw_steps m key)).after.gauge.ceiling ≡ m.gauge.ceiling)
        × ((unless v (leaving m) (withdraw_steps m key)).after.gauge.total ≡ m.gauge.total)
    go (Ok u) = let kept = withdraw_spends m key in (kept.ceiling, kept.total)
    go (Err n) = (refl, refl)

pub fill_gives_none : (m : Memory) (key : ℕ) (picture : List ℕ) (ticket : ℕ) → (fill_outcome m key picture ticket).after.gauge ≡ m.gauge
unfolding fill_outcome fill_steps unless store store_in with_lines write with_table
fill_gives_none m key picture ticket = verdict (fill_verdict m picture)
  where
    stored : (x : Lookup) → (store m picture ticket x).after.gauge ≡ m.gauge
    stored Untracked = refl
    stored Unlined = refl
    stored (Lined i n true given) = refl
    stored (Lined i n false given) = go (eqb ticket given)
      where
        go : (b : Bool) → (if b then store_in m i n picture else outcome (Err StaleTicket) m).after.gauge ≡ m.gauge
        go true = refl
        go false = refl

    verdict : (v : Completion) → (unless v (leaving m) (fill_steps m key picture ticket)).after.gauge ≡ m.gauge
    verdict (Ok u) = stored (lookup (places m) (size m) key)
    verdict (Err n) = refl

pub age_gives_none : (m : Memory) → (age_outcome m).after.gauge.serial ≡ m.gauge.serial
unfolding age_outcome age_steps unless aged aged_gauge with_gauge
age_gives_none m = go (plain_verdict m)
  where
    go : (v : Completion) → (unless v (leaving m) (age_steps m)).after.gauge.serial ≡ m.gauge.serial
    go (Ok u) = refl
    go (Err n) = refl
