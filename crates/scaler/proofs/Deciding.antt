-- Which imbalances are over every target, and within it; and what sizes and target an answer tells. Assumes nothing but what each says.
use Prim.Native.Nat.{ℕ, ◌+◌, ◌*◌, ◌/◌, ◌≤◌, ◌<◌}
use mathlib.Core.Path.{◌≡◌, refl}
use mathlib.Core.Bool.{true, false}
use mathlib.Core.List.{List}
use native.Mathlib.Omega.{arith}
use borrow.Author.Tests.{leb-true, eqb-false}
use lib.ListN.{length}
use lib.Dec.{eqb, leb}
use Rattle.std.specs.Prelude.{Ok, Err}
use Rattle.std.proofs.Math.Nat.{one-le-mul}
use Rattle.rules.specs.Answers.{Completion}
use Rattle.rules.specs.Bytes.{record_size, line_size}
use Rattle.rules.specs.Table.{Memory}
use Rattle.rules.specs.Calls.{most_records, OfSizes, unless}
use Rattle.scaler.specs.declared.Ratio.{Ratio}
use Rattle.scaler.specs.declared.Epoch.{Epoch}
use Rattle.scaler.specs.declared.Scale.{Scale}
use Rattle.scaler.specs.declared.Scale.TheVariants.{Grow, Shrink, Age, Stay}
use Rattle.scaler.specs.Scale.{ratio, store_count, lookup_at, greatest, least, on_average, scaled, scale_verdict, scale_outcome}
use Rattle.scaler.specs.Cases.{Over, Within}
use Rattle.scaler.specs.Bounds.{AreSizes, IsFraction, InBounds}
use Rattle.scaler.proofs.Extremes.{greatest_over, greatest_under, least_under}
use Rattle.scaler.proofs.Bounds.{in_bounds}
use Rattle.scaler.proofs.Due.{holds_of}

module _ (lookups : List ℕ) (e : Epoch) where
  -- | Greatest lookups above 0 with least 0 is over every target
  pub zero_least_over : (i j : ℕ) → i < store_count lookups → j < store_count lookups → lookup_at lookups i ≡ 0 →
      1 ≤ lookup_at lookups j → 1 ≤ e.imbalance.under → Over lookups e
  zero_least_over i j inside also none some under =
      let zero : least lookups ≡ 0 = omega (arith, least_under lookups i inside, none) in
      let most : 1 ≤ greatest lookups = omega (arith, greatest_over lookups j also, some) in
      rw zero (omega (arith, one-le-mul most under))

  -- | all 0 is within it
  pub all_zero_within : ((i : ℕ) → i < store_count lookups → lookup_at lookups i ≡ 0) → Within lookups e
  all_zero_within none =
      let few : greatest lookups ≤ 0 = greatest_under lookups 0 (λ i inside. omega (arith, none i inside)) in
      let zero : greatest lookups ≡ 0 = omega (arith, few) in
      rw zero (omega arith)

  -- ---- what an answer says
  answered : (answer : Scale) → scale_outcome lookups e ≡ Ok answer → InBounds lookups e × (scaled lookups e ≡ answer)
  unfolding scale_outcome unless
  answered answer so = go (scale_verdict lookups e) refl
    where
      go : (v : Completion) → scale_verdict lookups e ≡ v → InBounds lookups e × (scaled lookups e ≡ answer)
      go (Ok u) ev = (in_bounds lookups e ev, cc)
      go (Err cause) ev = let z : ◌≡◌ {A = ℕ} 0 1 = cc in absurd (omega arith)

  abbrev Answers : Scale → Type 0
  Answers (Grow lines records target) =
      AreSizes lines records × (lines ≡ 2 * e.lines) × (target ≡ ratio e.on e.lines)
  Answers (Shrink lines records) = AreSizes lines records
  Answers Age = Unit
  Answers Stay = Unit

  answers : InBounds lookups e → Answers (scaled lookups e)
  unfolding scaled on_average
  answers h = holds_of lookups e Answers _ _ _ _ grows shrinks tt tt
    where
      grows : leb (2 * e.records) most_records ≡ true → Answers (Grow (2 * e.lines) (2 * e.records) (on_average e))
      grows fits = (
        record {
          lines_some = omega (arith, h.sizes.lines_some);
          records_more = omega (arith, h.sizes.records_more);
          records_few = leb-true _ _ fits;
        },
        refl,
        refl,
      )

      shrinks : eqb e.lines 1 ≡ false → Answers (Shrink (e.lines / 2) ((e.records + 1) / 2))
      shrinks several =
          let other = eqb-false _ _ several in
          record {
            lines_some = omega (arith, other, h.sizes.lines_some);
            records_more = omega (arith, h.sizes.records_more);
            records_few = omega (arith, h.sizes.records_few);
          }

  -- what grow and shrink tell are sizes that a table may have
  pub scaled_sizes : (lines records : ℕ) →
      ((target : Ratio) → scale_outcome lookups e ≡ Ok (Grow lines records target) → AreSizes lines records)
      × (scale_outcome lookups e ≡ Ok (Shrink lines records) → AreSizes lines records)
  scaled_sizes lines records = (
    λ target so. let h = answered _ so in (rw h.1 at (answers h.0)).0,
    λ so. let h = answered _ so in rw h.1 at (answers h.0),
  )

  -- | the new target, hits on lines over C
  -- the C before; and it is a fraction that an epoch may have
  pub grow_target : (lines records : ℕ) (target : Ratio) → scale_outcome lookups e ≡ Ok (Grow lines records target) →
      (target ≡ ratio e.on e.lines) × (lines ≡ 2 * e.lines) × IsFraction target
  grow_target lines records target so =
      let h = answered _ so in
      let says = rw h.1 at (answers h.0) in
      let fraction : IsFraction (ratio e.on e.lines) =
      record {
        over_few = h.0.on_few;
        under_some = h.0.sizes.lines_some;
        under_few = omega (arith, h.0.sizes.records_more, h.0.sizes.records_few);
      } in
      (says.2, says.1, rw says.2 fraction)

-- a table of so many records, with so many lines, has the sizes that a call asks of it
pub sized_table : (lines records : ℕ) (m : Memory) → AreSizes lines records → length m.table ≡ record_size * records →
    length m.lines ≡ line_size * lines → OfSizes m records lines
sized_table lines records m h table of_lines =
    record {
      some_record = omega (arith, h.records_more);
      records_few = h.records_few;
      lines_fewer = h.records_more;
      table = table;
      lines = of_lines;
    }
