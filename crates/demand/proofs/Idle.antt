-- Each idle version of document 01 breaks its contract, and those of the replay and the product break demand 3: both sides are run on a
-- call or two from the sample's start, and a number differs. Assumes nothing.
use Prim.Native.Nat.{ℕ, ◌*◌, ◌≤◌}
use mathlib.Core.Path.{◌≡◌, refl, ap}
use mathlib.Core.List.{[], ◌∷◌}
use native.Mathlib.Omega.{arith}
use Rattle.rules.specs.Answers.{Reply}
use Rattle.rules.specs.Table.{Memory, places}
use Rattle.rules.specs.Answers.{number_of}
use Rattle.rules.specs.Steps.{Outcome}
use Rattle.rules.specs.Calls.{read_outcome}
use Rattle.demand.specs.List.{read, rattle, own, nothing}
use Rattle.rules.specs.Sample.{sample_lent, sample_start, sample_picture}
use Rattle.demand.specs.Idle.{MeetsRead, MeetsUpdate, MeetsFill, idle_fill, idle_update, passing_read, echoing_steps, echoing_read, empty_steps, empty_read, refusing_read, inventing, inventing_total, inventing_ceiling, reading, left_by, events_by, Demand3By}
use Rattle.demand.proofs.Computing.{computing}
use Rattle.demand.proofs.EveryList.{demand3}

-- ---- the contracts
abbrev answered : Outcome Reply Memory → ℕ
answered o = number_of o.answer

abbrev total_after : Outcome Reply Memory → ℕ
total_after o = o.after.gauge.total

abbrev ceiling_after : Outcome Reply Memory → ℕ
ceiling_after o = o.after.gauge.ceiling

abbrev first_heat_after : Outcome Reply Memory → ℕ
first_heat_after o = (places o.after 0).heat

-- after the sample's first read, class 5 is tracked and on an empty line
pub idle_fill_breaks : ¬ MeetsFill idle_fill
unfolding computing idle_fill
idle_fill_breaks meets =
    let e : ◌≡◌ {A = ℕ} 5 103 = ap answered (meets (read_outcome sample_start 5 3).after 5 (sample_picture 105) 1) in
    omega arith

pub idle_update_breaks : ¬ MeetsUpdate idle_update
unfolding computing idle_update
idle_update_breaks meets =
    let e : ◌≡◌ {A = ℕ} 102 101 = ap answered (meets (read_outcome sample_start 5 3).after 5 1) in
    omega arith

pub passing_read_breaks : ¬ MeetsRead passing_read
unfolding computing passing_read
passing_read_breaks meets = let e : ◌≡◌ {A = ℕ} 104 4000 = ap answered (meets sample_start 5 3) in omega arith

pub echoing_read_breaks : ¬ MeetsRead echoing_read
unfolding computing echoing_steps echoing_read
echoing_read_breaks meets =
    let e : ◌≡◌ {A = ℕ} 3 4 = ap total_after (meets (read_outcome sample_start 5 3).after 5 1) in
    omega arith

pub empty_read_breaks : ¬ MeetsRead empty_read
unfolding computing empty_steps empty_read
empty_read_breaks meets = let e : ◌≡◌ {A = ℕ} 0 3 = ap first_heat_after (meets sample_start 5 3) in omega arith

pub refusing_read_breaks : ¬ MeetsRead refusing_read
unfolding computing refusing_read
refusing_read_breaks meets = let e : ◌≡◌ {A = ℕ} 1 4000 = ap answered (meets sample_start 5 3) in omega arith

pub inventing_total_breaks : ¬ MeetsRead inventing_total
unfolding computing inventing inventing_total
inventing_total_breaks meets = let e : ◌≡◌ {A = ℕ} 4 3 = ap total_after (meets sample_start 5 3) in omega arith

pub inventing_ceiling_breaks : ¬ MeetsRead inventing_ceiling
unfolding computing inventing inventing_ceiling
inventing_ceiling_breaks meets = let e : ◌≡◌ {A = ℕ} 3 0 = ap ceiling_after (meets sample_start 5 3) in omega arith

-- ---- demand 3, of the sample's first read and another of the same class
pub echoing_breaks_demand3 : ¬ Demand3By echoing_read (reading 5 3 ∷ reading 5 1 ∷ [])
unfolding computing echoing_steps echoing_read left_by events_by
echoing_breaks_demand3 d = let e : ◌≡◌ {A = ℕ} 3 4 = d.total in omega arith

pub inventing_total_breaks_demand3 : ¬ Demand3By inventing_total (reading 5 3 ∷ [])
unfolding computing inventing inventing_total left_by events_by
inventing_total_breaks_demand3 d = let e : ◌≡◌ {A = ℕ} 4 3 = d.total in omega arith

pub inventing_ceiling_breaks_demand3 : ¬ Demand3By inventing_ceiling (reading 5 3 ∷ [])
unfolding computing inventing inventing_ceiling left_by events_by
inventing_ceiling_breaks_demand3 d = let e : 3 * 3 ≤ 3 = d.product in omega arith

-- A read itself meets it, by the theorem.
pub read_meets_demand3 : Demand3By read_outcome (reading 5 3 ∷ reading 5 1 ∷ [])
unfolding computing left_by events_by
read_meets_demand3 =
    demand3 sample_lent _ _ refl (own (read 5 3) (rattle _) refl (omega arith) (own (read 5 1) (rattle _) refl (omega arith) nothing))
