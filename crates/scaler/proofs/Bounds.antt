-- Which epochs are refused, and with what; and what an accepted one has shown. Assumes nothing.
use Prim.Native.Nat.{ℕ, ◌-◌, ◌≤◌}
use mathlib.Core.Path.{◌≡◌, refl, sym}
use mathlib.Core.Bool.{Bool, true, false}
use mathlib.Core.List.{List}
use native.Mathlib.Omega.{arith}
use borrow.Author.Tests.{eq-eqb, le-leb, lt-ltb, eqb-true, leb-true, ltb-true}
use Rattle.std.specs.Prelude.{if◌then◌else◌, Ok, Err}
use Rattle.std.proofs.lemmas.Nat.{mul-le}
use Rattle.rules.specs.declared.Refusal.TheVariants.{WrongSizes, WrongEpoch}
use Rattle.rules.specs.Calls.{verdict}
use Rattle.rules.proofs.Searches.{both}
use Rattle.scaler.specs.declared.Ratio.{Ratio}
use Rattle.scaler.specs.declared.Epoch.{Epoch}
use Rattle.scaler.specs.Scale.{greatest, imbalance, on_average, off_average, tolerated, whole, most_count, sizes_good, stores_good, counts_good, fraction_good, imbalance_good, epoch_good, scale_verdict}
use Rattle.scaler.specs.Bounds.{AreSizes, IsFraction, InBounds, Narrow}
use Rattle.scaler.proofs.Extremes.{greatest_over, greatest_under, least_under}

is_fraction : (r : Ratio) → fraction_good r ≡ true → IsFraction r
unfolding fraction_good
is_fraction r good =
    let parts = both _ _ good in
    let first = both _ _ parts.0 in
    record { over_few = leb-true _ _ first.0; under_some = leb-true _ _ first.1; under_few = leb-true _ _ parts.1 }

good_fraction : (r : Ratio) → IsFraction r → fraction_good r ≡ true
unfolding fraction_good
good_fraction r h = rw (le-leb _ _ h.over_few, le-leb _ _ h.under_some, le-leb _ _ h.under_few) refl

module _ (lookups : List ℕ) (e : Epoch) where
  -- what is said of an epoch, by its two tests
  told : (a b : Bool) → sizes_good e ≡ a → epoch_good lookups e ≡ b →
      scale_verdict lookups e ≡ (if a then if b then Ok tt else Err WrongEpoch else Err WrongSizes)
  unfolding scale_verdict verdict
  told true true ea eb = rw (ea, eb) refl
  told true false ea eb = rw (ea, eb) refl
  told false b ea eb = rw ea refl

  are_sizes : sizes_good e ≡ true → AreSizes e.lines e.records
  unfolding sizes_good
  are_sizes good =
      let sizes = both _ _ good in
      let lines = both _ _ sizes.0 in
      record { lines_some = leb-true _ _ lines.0; records_more = ltb-true _ _ lines.1; records_few = leb-true _ _ sizes.1 }

  good_sizes : AreSizes e.lines e.records → sizes_good e ≡ true
  unfolding sizes_good
  good_sizes h = rw (le-leb _ _ h.lines_some, lt-ltb _ _ h.records_more, le-leb _ _ h.records_few) refl

  bounds : sizes_good e ≡ true → epoch_good lookups e ≡ true → InBounds lookups e
  unfolding epoch_good stores_good counts_good imbalance_good
  bounds sizes good =
      let a = both _ _ good in
      let b = both _ _ a.0 in
      let c = both _ _ b.0 in
      let d = both _ _ c.0 in
      let stores = both _ _ d.0 in
      let multiple = both _ _ stores.0 in
      let counts = both _ _ d.1 in
      let lookups_on = both _ _ counts.0 in
      let highest : greatest lookups ≤ most_count = leb-true _ _ lookups_on.0 in
      let imbalance = both _ _ c.1 in
      record {
        sizes = are_sizes sizes;
        stores_whole = sym (eqb-true _ _ multiple.0);
        stores_some = leb-true _ _ multiple.1;
        stores_few = leb-true _ _ stores.1;
        lookups_few = λ i inside. omega (arith, highest, greatest_over lookups i inside);
        on_few = leb-true _ _ lookups_on.1;
        off_few = leb-true _ _ counts.1;
        imbalance = is_fraction e.imbalance imbalance.0;
        imbalance_some = leb-true _ _ imbalance.1;
        target = is_fraction e.target b.1;
        tolerance_few = leb-true _ _ a.1;
      }

  good_epoch : InBounds lookups e → epoch_good lookups e ≡ true
  unfolding epoch_good stores_good counts_good imbalance_good
  good_epoch h =
      rw (
        eq-eqb _ _ (sym h.stores_whole),
        le-leb _ _ h.stores_some,
        le-leb _ _ h.stores_few,
        le-leb _ _ (greatest_under lookups most_count h.lookups_few),
        le-leb _ _ h.on_few,
        le-leb _ _ h.off_few,
        good_fraction e.imbalance h.imbalance,
        le-leb _ _ h.imbalance_some,
        good_fraction e.target h.target,
        le-leb _ _ h.tolerance_few,
      ) refl

  -- | Sizes out of bounds give 1
  pub refused_sizes : ¬ (AreSizes e.lines e.records) → scale_verdict lookups e ≡ Err WrongSizes
  refused_sizes wrong = go (sizes_good e) refl
    where
      go : (a : Bool) → sizes_good e ≡ a → scale_verdict lookups e ≡ Err WrongSizes
      go true ea = absurd (wrong (are_sizes ea))
      go false ea = told false _ ea refl

  -- | 13, after 1, for stores outside 1 to 64, a count over 1,048,576, ..
  pub refused_epoch : AreSizes e.lines e.records → ¬ (InBounds lookups e) → scale_verdict lookups e ≡ Err WrongEpoch
  refused_epoch sizes wrong = go (epoch_good lookups e) refl
    where
      go : (b : Bool) → epoch_good lookups e ≡ b → scale_verdict lookups e ≡ Err WrongEpoch
      go true eb = absurd (wrong (bounds (good_sizes sizes) eb))
      go false eb = told true false (good_sizes sizes) eb

  -- every other epoch is accepted
  pub accepted_epoch : InBounds lookups e → scale_verdict lookups e ≡ Ok tt
  accepted_epoch h = told true true (good_sizes h.sizes) (good_epoch h)

  pub in_bounds : scale_verdict lookups e ≡ Ok tt → InBounds lookups e
  in_bounds accepted = go (sizes_good e) (epoch_good lookups e) refl refl
    where
      go : (a b : Bool) → sizes_good e ≡ a → epoch_good lookups e ≡ b → InBounds lookups e
      go true true ea eb = bounds ea eb
      go true false ea eb = let z : ◌≡◌ {A = ℕ} 0 1 = cc (accepted, told true false ea eb) in absurd (omega arith)
      go false b ea eb = let z : ◌≡◌ {A = ℕ} 0 1 = cc (accepted, told false b ea eb) in absurd (omega arith)

-- ---- what is compared of an accepted epoch is narrow
module _ (lookups : List ℕ) (e : Epoch) (h : InBounds lookups e) where
  pub imbalance_target_narrow : Narrow e.imbalance
  imbalance_target_narrow = record { over = omega (arith, h.imbalance.over_few); under = omega (arith, h.imbalance.under_few) }

  pub imbalance_narrow : Narrow (imbalance lookups)
  unfolding imbalance
  imbalance_narrow =
      let first = least_under lookups 0 h.stores_some in
      let few = h.lookups_few 0 h.stores_some in
      record { over = omega (arith, greatest_under lookups most_count h.lookups_few); under = omega (arith, first, few) }

  pub on_narrow : Narrow (on_average e)
  unfolding on_average
  on_narrow = record { over = omega (arith, h.on_few); under = omega (arith, h.sizes.records_more, h.sizes.records_few) }

  pub off_narrow : Narrow (off_average e)
  unfolding off_average
  off_narrow = record { over = omega (arith, h.off_few); under = omega (arith, h.sizes.records_few) }

  pub tolerated_narrow : Narrow (tolerated e)
  unfolding tolerated
  tolerated_narrow =
      let less : whole - e.tolerance ≤ whole = omega arith in
      let all : whole ≤ whole = omega arith in
      record { over = mul-le _ _ _ _ less h.target.over_few; under = mul-le _ _ _ _ all h.target.under_few }
