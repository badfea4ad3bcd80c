-- What an accepted epoch has shown: numbers within these bounds, so that no sum and no product of them wraps.
use Rattle.std.specs.Prelude.{ℕ, ◌*◌, ◌≤◌, ◌<◌, ◌≡◌, List, length}
use Rattle.scaler.specs.declared.Ratio.{Ratio}
use Rattle.scaler.specs.declared.Epoch.{Epoch}
use Rattle.scaler.specs.Scale.{store_count, lookup_at, whole, most_count}

-- | C at least 1, K over C and at most 1,024
pub record AreSizes (lines records : ℕ) : Type 0 where
  pub lines_some : 1 ≤ lines
  pub records_more : lines < records
  pub records_few : records ≤ 1024

-- | [not] a fraction part over that or a denominator of 0
pub record IsFraction (r : Ratio) : Type 0 where
  pub over_few : r.over ≤ 1048576
  pub under_some : 1 ≤ r.under
  pub under_few : r.under ≤ 1048576

pub record InBounds (lookups : List ℕ) (e : Epoch) : Type 0 where
  pub sizes : AreSizes e.lines e.records
  pub stores_whole : length lookups ≡ 8 * store_count lookups
  pub stores_some : 1 ≤ store_count lookups
  pub stores_few : store_count lookups ≤ 64
  pub lookups_few : (i : ℕ) → i < store_count lookups → lookup_at lookups i ≤ 1048576
  pub on_few : e.on ≤ 1048576
  pub off_few : e.off ≤ 1048576
  pub imbalance : IsFraction e.imbalance
  pub imbalance_some : e.imbalance.under ≤ e.imbalance.over
  pub target : IsFraction e.target
  pub tolerance_few : e.tolerance ≤ 999

-- two ratios are compared where no part is over a thousand such numbers
pub record Narrow (r : Ratio) : Type 0 where
  pub over : r.over ≤ whole * most_count
  pub under : r.under ≤ whole * most_count
