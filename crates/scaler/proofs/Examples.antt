-- Epochs with a known answer, epochs that are refused, and what keeps the promises from being thinned unnoticed: numbers that miss a
-- bound or a clause by one. Each example is run. Assumes nothing.
use Prim.Native.Nat.{ℕ, zero, suc, ◌*◌, ◌≤◌, ◌<◌}
use mathlib.Core.Path.{◌≡◌, refl}
use mathlib.Core.Bool.{true, false}
use mathlib.Core.List.{List, [], ◌∷◌}
use native.Mathlib.Omega.{arith}
use lib.ListN.{length, replicate}
use lib.Dec.{lit<}
use Rattle.std.specs.Prelude.{Ok, Err}
use Rattle.rules.specs.declared.Refusal.TheVariants.{WrongSizes, WrongEpoch}
use Rattle.rules.specs.Steps.{outcome}
use Rattle.scaler.specs.declared.Epoch.{Epoch}
use Rattle.scaler.specs.declared.Scale.TheVariants.{Grow, Shrink, Age, Stay}
use Rattle.scaler.specs.Scale.{ratio, lookup_at, greatest, least, over_target, scale_verdict, scale_outcome, scale_said, epoch, put_numbers, exported_scale, scale_told}
use Rattle.scaler.specs.Bounds.{AreSizes, IsFraction}
use Rattle.scaler.specs.Fractions.{times, with_fractions}
use Rattle.scaler.proofs.Computing.{computing}
use Rattle.scaler.proofs.Bounds.{refused_sizes, refused_epoch}
use Rattle.scaler.proofs.Told.{host_scale}
use Rattle.scaler.proofs.Fractions.{equal_fractions, same_fraction}
use Rattle.scaler.proofs.Extremes.{greatest_over, greatest_under, least_over}
use Rattle.scaler.proofs.Deciding.{zero_least_over, all_zero_within, scaled_sizes, grow_target, sized_table}
use Rattle.scaler.proofs.Cases.{due_grows, due_stays, both_shrink, both_stay, off_ages, exact_off_stays, on_stays}
use Rattle.scaler.specs.Cases.{Over, Within}
use mathlib.Core.Logic.{inl, inr}
use mathlib.Core.Option.{some}
use Rattle.rules.specs.Answers.{said}
use Rattle.rules.specs.Bytes.{record_size, line_size}
use Rattle.rules.specs.Table.{Memory}
use Rattle.rules.specs.Calls.{OfSizes}

-- the bytes of a list of numbers
unfoldable pub lookups : List ℕ → List ℕ
lookups ns = put_numbers (replicate (8 * length ns) 0) 0 ns

-- two lines and eight records; 1.1 is the greatest imbalance aimed at, 50 the hits per line, a tenth less still good
abbrev hits : ℕ → ℕ → Epoch
hits on off = epoch on off 2 8 11 10 50 1 100

abbrev sized : ℕ → ℕ → Epoch
sized lines records = epoch 0 0 lines records 11 10 50 1 100

abbrev tolerant : ℕ → ℕ → ℕ → Epoch
tolerant tolerance on off = epoch on off 2 8 11 10 50 1 tolerance

-- three lines and five records; 100 / 3 the hits per line, a fourth less still good
abbrev other : ℕ → ℕ → Epoch
other on off = epoch on off 3 5 11 10 100 3 250

abbrev aiming : ℕ → ℕ → ℕ → ℕ → Epoch
aiming a b c d = with_fractions (ratio a b) (ratio c d) (hits 0 0)

-- exactly 1.1, and one lookup more
abbrev even : List ℕ
even = lookups (100 ∷ 105 ∷ 110 ∷ [])

abbrev uneven : List ℕ
uneven = lookups (111 ∷ 105 ∷ 100 ∷ [])

-- ---- grow
-- over the target, and a line has as many hits as a record without one; one hit more off the lines, and it is not due
pub grows :
    (scale_outcome uneven (hits 100 300) ≡ Ok (Grow 4 16 (ratio 100 2)))
    × (scale_outcome uneven (hits 100 301) ≡ Ok Stay)
    × (scale_outcome even (hits 100 300) ≡ Ok Stay)
unfolding computing lookups
grows = (refl, refl, refl)

-- it comes before a shrink, and without a hit
pub grows_first :
    (scale_outcome uneven (hits 88 264) ≡ Ok (Grow 4 16 (ratio 88 2)))
    × (scale_outcome uneven (hits 0 0) ≡ Ok (Grow 4 16 (ratio 0 2)))
    × (scale_outcome even (hits 88 264) ≡ Ok (Shrink 1 4))
unfolding computing lookups
grows_first = (refl, refl, refl)

-- | a grow with twice K over 1,024 .. becomes stay: and no shrink, which would be due
pub grows_to_the_limit :
    (scale_outcome uneven (sized 2 512) ≡ Ok (Grow 4 1024 (ratio 0 2)))
    × (scale_outcome uneven (sized 511 512) ≡ Ok (Grow 1022 1024 (ratio 0 511)))
    × (scale_outcome uneven (sized 2 513) ≡ Ok Stay)
    × (scale_outcome even (sized 2 513) ≡ Ok (Shrink 1 257))
unfolding computing lookups
grows_to_the_limit = (refl, refl, refl, refl)

-- ---- shrink and age
-- 45 hits per line are still good, and 45 off the lines are neither below nor above
pub on_the_edge :
    (scale_outcome even (hits 89 269) ≡ Ok (Shrink 1 4))
    × (scale_outcome even (hits 89 270) ≡ Ok Stay)
    × (scale_outcome even (hits 89 271) ≡ Ok Age)
    × (scale_outcome even (hits 90 269) ≡ Ok Stay)
    × (scale_outcome even (hits 90 271) ≡ Ok Stay)
unfolding computing lookups
on_the_edge = (refl, refl, refl, refl, refl)

-- the same over the target, where a line has fewer hits than a record without one
pub on_the_edge_over :
    (scale_outcome uneven (hits 89 269) ≡ Ok (Shrink 1 4))
    × (scale_outcome uneven (hits 89 270) ≡ Ok Stay)
    × (scale_outcome uneven (hits 89 271) ≡ Ok Age)
    × (scale_outcome uneven (hits 90 271) ≡ Ok Stay)
unfolding computing lookups
on_the_edge_over = (refl, refl, refl, refl)

-- with other sizes and another target: 25 hits per line are still good
pub other_sizes :
    (scale_outcome uneven (other 76 50) ≡ Ok (Grow 6 10 (ratio 76 3)))
    × (scale_outcome uneven (other 75 50) ≡ Ok (Grow 6 10 (ratio 75 3)))
    × (scale_outcome uneven (other 75 51) ≡ Ok Stay)
    × (scale_outcome even (other 74 49) ≡ Ok (Shrink 1 3))
    × (scale_outcome even (other 74 50) ≡ Ok Stay)
    × (scale_outcome even (other 74 51) ≡ Ok Age)
    × (scale_outcome even (other 75 49) ≡ Ok Stay)
unfolding computing lookups
other_sizes = (refl, refl, refl, refl, refl, refl, refl)

-- nothing tolerated, and almost all
pub tolerances :
    (scale_outcome even (tolerant 0 99 299) ≡ Ok (Shrink 1 4))
    × (scale_outcome even (tolerant 0 99 300) ≡ Ok Stay)
    × (scale_outcome even (tolerant 0 100 299) ≡ Ok Stay)
    × (scale_outcome even (tolerant 999 0 0) ≡ Ok (Shrink 1 4))
    × (scale_outcome even (tolerant 999 0 1) ≡ Ok Age)
unfolding computing lookups
tolerances = (refl, refl, refl, refl, refl)

-- nothing is below a target of 0
pub target_zero :
    (scale_outcome even (aiming 11 10 0 1) ≡ Ok Stay)
    × (scale_outcome even (with_fractions (ratio 11 10) (ratio 0 1) (hits 0 6)) ≡ Ok Stay)
unfolding computing lookups
target_zero = (refl, refl)

-- | C halved down and K halved up .. a shrink with C 1, becomes stay
pub halved :
    (scale_outcome even (sized 3 7) ≡ Ok (Shrink 1 4))
    × (scale_outcome even (sized 2 3) ≡ Ok (Shrink 1 2))
    × (scale_outcome even (sized 1023 1024) ≡ Ok (Shrink 511 512))
    × (scale_outcome even (sized 1022 1023) ≡ Ok (Shrink 511 512))
    × (scale_outcome even (sized 1 2) ≡ Ok Stay)
    × (scale_outcome even (sized 1 1024) ≡ Ok Stay)
unfolding computing lookups
halved = (refl, refl, refl, refl, refl, refl)

-- ---- the lookups
-- the most and the fewest may be anywhere
pub anywhere :
    (greatest (lookups (7 ∷ 3 ∷ 9 ∷ 5 ∷ [])) ≡ 9)
    × (least (lookups (7 ∷ 3 ∷ 9 ∷ 5 ∷ [])) ≡ 3)
    × (greatest (lookups (9 ∷ 3 ∷ [])) ≡ 9)
    × (least (lookups (9 ∷ 3 ∷ [])) ≡ 3)
    × (greatest (lookups (3 ∷ 9 ∷ [])) ≡ 9)
    × (least (lookups (3 ∷ 9 ∷ [])) ≡ 3)
unfolding computing lookups
anywhere = (refl, refl, refl, refl, refl, refl)

-- one store is as even as can be, and as many lookups as there may be are one more than the others
pub one_store :
    (over_target (lookups (5 ∷ [])) (aiming 1 1 50 1) ≡ false)
    × (over_target (lookups (1048576 ∷ 1048575 ∷ [])) (aiming 1 1 50 1) ≡ true)
    × (over_target (lookups (1048576 ∷ 1048575 ∷ [])) (aiming 1048576 1048575 50 1) ≡ false)
unfolding computing lookups
one_store = (refl, refl, refl)

-- | Greatest lookups above 0 with least 0 is over every target
-- wherever the two are
pub over_every_target : (e : Epoch) → 1 ≤ e.imbalance.under →
    Over (lookups (1 ∷ 0 ∷ [])) e × Over (lookups (5 ∷ 0 ∷ 7 ∷ [])) e
unfolding computing lookups
over_every_target e under = (
  zero_least_over (lookups (1 ∷ 0 ∷ [])) e 1 0 (lit< tt) (lit< tt) refl (omega arith) under,
  zero_least_over (lookups (5 ∷ 0 ∷ 7 ∷ [])) e 1 2 (lit< tt) (lit< tt) refl (omega arith) under,
)

-- | all 0 is within it
-- however many stores
pub within_every_target : (of_stores : List ℕ) (e : Epoch) → greatest of_stores ≡ 0 → Within of_stores e
within_every_target of_stores e none =
    all_zero_within of_stores e (λ i inside. omega (arith, none, greatest_over of_stores i inside))

-- nothing less than the most is over all, and nothing more than the fewest under all: 2,000,000 and 5 of one store
pub no_further : (greatest (lookups (2000000 ∷ [])) ≤ 2000000) × (5 ≤ least (lookups (5 ∷ [])))
unfolding computing lookups
no_further = (
  greatest_under (lookups (2000000 ∷ [])) 2000000 (one (λ i. lookup_at (lookups (2000000 ∷ [])) i ≤ 2000000) (omega arith)),
  least_over (lookups (5 ∷ [])) 5 (lit< tt) (one (λ i. 5 ≤ lookup_at (lookups (5 ∷ [])) i) (omega arith)),
)
  where
    one : (P : ℕ → Type 0) → P 0 → (i : ℕ) → i < 1 → P i
    one P h zero inside = h
    one P h (suc i) inside = absurd (omega (arith, inside))

-- ---- refused
-- | Sizes out of bounds give 1
pub wrong_sizes :
    (scale_verdict even (sized 0 8) ≡ Err WrongSizes)
    × (scale_verdict even (sized 8 8) ≡ Err WrongSizes)
    × (scale_verdict even (sized 9 8) ≡ Err WrongSizes)
    × (scale_verdict even (sized 1 1025) ≡ Err WrongSizes)
    × (scale_verdict even (sized 1 2) ≡ Ok tt)
    × (scale_verdict even (sized 1023 1024) ≡ Ok tt)
unfolding computing lookups
wrong_sizes = (refl, refl, refl, refl, refl, refl)

-- | stores outside 1 to 64, a count over 1,048,576
pub wrong_counts :
    (scale_verdict [] (hits 0 0) ≡ Err WrongEpoch)
    × (scale_verdict (replicate 7 0) (hits 0 0) ≡ Err WrongEpoch)
    × (scale_verdict (replicate 8 0) (hits 0 0) ≡ Ok tt)
    × (scale_verdict (replicate 9 0) (hits 0 0) ≡ Err WrongEpoch)
    × (scale_verdict (replicate 512 0) (hits 0 0) ≡ Ok tt)
    × (scale_verdict (replicate 513 0) (hits 0 0) ≡ Err WrongEpoch)
    × (scale_verdict (replicate 520 0) (hits 0 0) ≡ Err WrongEpoch)
    × (scale_verdict (lookups (1048576 ∷ 0 ∷ 1048576 ∷ [])) (hits 1048576 1048576) ≡ Ok tt)
    × (scale_verdict (lookups (1048577 ∷ 0 ∷ [])) (hits 0 0) ≡ Err WrongEpoch)
    × (scale_verdict (lookups (0 ∷ 1048577 ∷ [])) (hits 0 0) ≡ Err WrongEpoch)
    × (scale_verdict even (hits 1048577 0) ≡ Err WrongEpoch)
    × (scale_verdict even (hits 0 1048577) ≡ Err WrongEpoch)
unfolding computing lookups
wrong_counts = (refl, refl, refl, refl, refl, refl, refl, refl, refl, refl, refl, refl)

-- | a fraction part over that or a denominator of 0, an imbalance below 1, or a tolerance over 999
pub wrong_fractions :
    (scale_verdict even (aiming 1048576 1048576 1048576 1048576) ≡ Ok tt)
    × (scale_verdict even (aiming 1 1 0 1) ≡ Ok tt)
    × (scale_verdict even (aiming 1048577 1 1 1) ≡ Err WrongEpoch)
    × (scale_verdict even (aiming 1048577 1048577 1 1) ≡ Err WrongEpoch)
    × (scale_verdict even (aiming 1 0 1 1) ≡ Err WrongEpoch)
    × (scale_verdict even (aiming 9 10 1 1) ≡ Err WrongEpoch)
    × (scale_verdict even (aiming 1 1 1048577 1) ≡ Err WrongEpoch)
    × (scale_verdict even (aiming 1 1 1 1048577) ≡ Err WrongEpoch)
    × (scale_verdict even (aiming 1 1 1 0) ≡ Err WrongEpoch)
    × (scale_verdict even (tolerant 999 0 0) ≡ Ok tt)
    × (scale_verdict even (tolerant 1000 0 0) ≡ Err WrongEpoch)
unfolding computing lookups
wrong_fractions = (refl, refl, refl, refl, refl, refl, refl, refl, refl, refl, refl)

-- | 13, after 1
pub sizes_first :
    (scale_verdict [] (sized 0 8) ≡ Err WrongSizes)
    × (scale_verdict even (epoch 0 0 2 2 11 10 50 1 1000) ≡ Err WrongSizes)
unfolding computing lookups
sizes_first = (refl, refl)

-- ---- by a C host
abbrev lent : List ℕ
lent = replicate 32 255

-- 106 grow, 107 shrink, 108 age, 109 stay; a shrink writes the first 16 bytes; another length gives 1, before 13
pub told :
    (exported_scale uneven (hits 300 300) lent
    ≡ outcome 106
    (4 ∷ 0 ∷ 0 ∷ 0 ∷ 0 ∷ 0 ∷ 0 ∷ 0
    ∷ 16 ∷ 0 ∷ 0 ∷ 0 ∷ 0 ∷ 0 ∷ 0 ∷ 0
    ∷ 44 ∷ 1 ∷ 0 ∷ 0 ∷ 0 ∷ 0 ∷ 0 ∷ 0
    ∷ 2 ∷ 0 ∷ 0 ∷ 0 ∷ 0 ∷ 0 ∷ 0 ∷ 0 ∷ []))
    × (exported_scale even (hits 0 0) lent
    ≡ outcome 107
    (1 ∷ 0 ∷ 0 ∷ 0 ∷ 0 ∷ 0 ∷ 0 ∷ 0
    ∷ 4 ∷ 0 ∷ 0 ∷ 0 ∷ 0 ∷ 0 ∷ 0 ∷ 0
    ∷ replicate 16 255))
    × (exported_scale even (hits 89 271) lent ≡ outcome 108 lent)
    × (exported_scale even (hits 89 270) lent ≡ outcome 109 lent)
    × (exported_scale [] (hits 0 0) lent ≡ outcome 13 lent)
    × (exported_scale [] (sized 0 8) lent ≡ outcome 1 lent)
    × (exported_scale [] (hits 0 0) (replicate 31 255) ≡ outcome 1 (replicate 31 255))
    × (exported_scale even (hits 0 0) (replicate 33 255) ≡ outcome 1 (replicate 33 255))
    × (exported_scale even (hits 0 0) [] ≡ outcome 1 [])
unfolding computing lookups
told = (refl, refl, refl, refl, refl, refl, refl, refl, refl)

-- the same by all tests in one row
pub told_in_a_row :
    (exported_scale uneven (hits 300 300) lent ≡ scale_told uneven (hits 300 300) lent)
    × (exported_scale [] (hits 0 0) lent ≡ scale_told [] (hits 0 0) lent)
    × (exported_scale [] (sized 0 8) [] ≡ scale_told [] (sized 0 8) [])
told_in_a_row = (host_scale _ _ _, host_scale _ _ _, host_scale _ _ _)

-- to a Rattle caller
pub said_so :
    (scale_said uneven (hits 100 300) ≡ said (some 106) (4 ∷ 16 ∷ 100 ∷ 2 ∷ []))
    × (scale_said even (hits 88 264) ≡ said (some 107) (1 ∷ 4 ∷ []))
    × (scale_said even (hits 89 271) ≡ said (some 108) [])
    × (scale_said even (hits 89 270) ≡ said (some 109) [])
    × (scale_said [] (hits 0 0) ≡ said (some 13) [])
    × (scale_said [] (sized 0 8) ≡ said (some 1) [])
unfolding computing lookups scale_said
said_so = (refl, refl, refl, refl, refl, refl)

-- ---- the promises, each where a clause less would not do
-- case by case, of three lines and five records
pub case_by_case :
    (scale_outcome uneven (other 75 50) ≡ Ok (Grow 6 10 (ratio 75 3)))
    × (scale_outcome uneven (sized 2 513) ≡ Ok Stay)
    × (scale_outcome even (other 74 49) ≡ Ok (Shrink 1 3))
    × (scale_outcome uneven (other 73 49) ≡ Ok (Shrink 1 3))
    × (scale_outcome even (sized 1 5) ≡ Ok Stay)
    × (scale_outcome even (other 74 51) ≡ Ok Age)
    × (scale_outcome even (other 75 49) ≡ Ok Stay)
unfolding computing lookups
case_by_case = (
  due_grows uneven (other 75 50) refl (omega arith) (omega arith) (omega arith),
  due_stays uneven (sized 2 513) refl (omega arith) (omega arith) (omega arith),
  both_shrink even (other 74 49) refl (inl (omega arith)) (omega arith) (omega arith) (omega arith),
  both_shrink uneven (other 73 49) refl (inr (omega arith)) (omega arith) (omega arith) (omega arith),
  both_stay even (sized 1 5) refl (inl (omega arith)) (omega arith) (omega arith) refl,
  off_ages even (other 74 51) refl (inl (omega arith)) (omega arith) (omega arith),
  on_stays even (other 75 49) refl (inl (omega arith)) (omega arith),
)

-- | exactly at the tolerated target means stay
-- within the imbalance and over it, with warm lines and cold ones, and where the target is 0
pub exact_stays :
    (scale_outcome even (hits 89 270) ≡ Ok Stay)
    × (scale_outcome uneven (hits 89 270) ≡ Ok Stay)
    × (scale_outcome even (hits 90 270) ≡ Ok Stay)
    × (scale_outcome even (other 74 50) ≡ Ok Stay)
    × (scale_outcome even (aiming 11 10 0 1) ≡ Ok Stay)
unfolding computing lookups
exact_stays = (
  exact_off_stays even (hits 89 270) refl (inl (omega arith)) refl,
  exact_off_stays uneven (hits 89 270) refl (inr (omega arith)) refl,
  exact_off_stays even (hits 90 270) refl (inl (omega arith)) refl,
  exact_off_stays even (other 74 50) refl (inl (omega arith)) refl,
  exact_off_stays even (aiming 11 10 0 1) refl (inl (omega arith)) refl,
)

-- grow and shrink to the largest and the smallest sizes, and between
pub sizes_of_tables : AreSizes 1022 1024 × AreSizes 1 2 × AreSizes 6 10 × AreSizes 1 3
unfolding computing lookups
sizes_of_tables = (
  (scaled_sizes uneven (sized 511 512) 1022 1024).0 (ratio 0 511) refl,
  (scaled_sizes even (sized 2 3) 1 2).1 refl,
  (scaled_sizes uneven (other 75 50) 6 10).0 (ratio 75 3) refl,
  (scaled_sizes even (other 74 49) 1 3).1 refl,
)

pub large_table : (m : Memory) → length m.table ≡ record_size * 1024 → length m.lines ≡ line_size * 1022 → OfSizes m 1024 1022
large_table m = sized_table 1022 1024 m sizes_of_tables.0

-- no line, no record without one, or a record too many: no such sizes
pub no_sizes : ¬ (AreSizes 0 2) × ¬ (AreSizes 2 2) × ¬ (AreSizes 2 1025)
no_sizes = (
  λ h. omega (arith, h.lines_some),
  λ h. omega (arith, h.records_more),
  λ h. omega (arith, h.records_few),
)

-- 1 whatever else there is, and 13 whatever the sizes are
pub refused_so :
    ((of_stores : List ℕ) → scale_verdict of_stores (sized 2 2) ≡ Err WrongSizes)
    × ((e : Epoch) → AreSizes e.lines e.records → scale_verdict [] e ≡ Err WrongEpoch)
unfolding computing
refused_so = (
  λ of_stores. refused_sizes of_stores (sized 2 2) no_sizes.1,
  λ e sizes. refused_epoch [] e sizes (λ h. omega (arith, h.stores_some)),
)

-- | hits on lines over C
-- with hits and without
pub target_of_grow :
    ((ratio 100 2 ≡ ratio 100 2) × (4 ≡ 2 * 2) × IsFraction (ratio 100 2))
    × ((ratio 0 511 ≡ ratio 0 511) × (1022 ≡ 2 * 511) × IsFraction (ratio 0 511))
unfolding computing lookups
target_of_grow = (
  grow_target uneven (hits 100 300) 4 16 (ratio 100 2) refl,
  grow_target uneven (sized 511 512) 1022 1024 (ratio 0 511) refl,
)

-- 1.1 as 33 / 30 and 22 / 20, and 50 as 150 / 3 and 100 / 2; 0 as 0 / 3 and 0 / 7; and as large as they may be
pub written_otherwise :
    (scale_outcome uneven (aiming 33 30 150 3) ≡ scale_outcome uneven (aiming 22 20 100 2))
    × (scale_outcome even (epoch 0 6 2 8 22 20 0 7 100) ≡ scale_outcome even (epoch 0 6 2 8 11 10 0 3 100))
    × (scale_outcome even (epoch 89 271 2 8 22 20 100 2 100) ≡ scale_outcome even (hits 89 271))
    × (scale_outcome even (aiming 1048575 953250 1048550 20971) ≡ scale_outcome even (aiming 11 10 50 1))
unfolding computing lookups times
written_otherwise = (
  equal_fractions uneven (aiming 22 20 100 2) (ratio 33 30) (ratio 150 3) refl refl refl refl,
  equal_fractions even (epoch 0 6 2 8 11 10 0 3 100) (ratio 22 20) (ratio 0 7) refl refl refl refl,
  equal_fractions even (hits 89 271) (ratio 22 20) (ratio 100 2) refl refl refl refl,
  same_fraction even (aiming 11 10 50 1) 95325 20971 refl,
)

-- of every epoch: twice and three times the parts
pub written_larger : (e : Epoch) → scale_verdict even (with_fractions (times 2 e.imbalance) (times 3 e.target) e) ≡ Ok tt →
    scale_outcome even (with_fractions (times 2 e.imbalance) (times 3 e.target) e) ≡ scale_outcome even e
written_larger e = same_fraction even e 2 3
