-- The sum is the first half's and the rest's, each a part of its own. Assumes nothing.
use Rattle.std.proofs.Common.{◌≡◌, ℕ, ◌+◌, ◌-◌, ◌*◌, ◌/◌, ◌≤◌, List, take, drop, length-drop, sym, arith}
use Rattle.std.proofs.Math.Seq.{length-take-le}
use Rattle.rules.specs.declared.Record.{Record}
use Rattle.rules.specs.Bytes.{record_size, record_at, record_count}
use Rattle.rules.specs.Pass.{sum_of}
use Rattle.rules.specs.Steps.{level}
use Rattle.rules.proofs.Places.{record_front, record_part}
use Rattle.rules.proofs.Searches.{sum_split, pass_same}
use Rattle.cache.specs.Room.{LevelsFit}
use Rattle.cache.proofs.+sum_levels.Goals as goal

module _ (part : List ℕ) (h : ℕ) (within : h ≤ record_count part) where
  abbrev first : List ℕ
  first = take (record_size * h) part

  abbrev rest : List ℕ
  rest = drop (record_size * h) part

  first_count : record_count first ≡ h
  unfolding record_count
  first_count = rw (length-take-le (record_size * h) part (omega arith)) (omega arith)

  rest_count : record_count rest ≡ record_count part - h
  unfolding record_count
  rest_count = simp length-drop (omega arith)

  first_fits : {ceiling : ℕ} → LevelsFit part ceiling → LevelsFit first ceiling
  first_fits fits =
      record {
        ceiling_most = fits.ceiling_most;
        heat_most = λ i below. let under = rw first_count at below in rw (record_front part h i under) (fits.heat_most i (omega arith));
      }

  rest_fits : {ceiling : ℕ} → LevelsFit part ceiling → LevelsFit rest ceiling
  rest_fits fits =
      record {
        ceiling_most = fits.ceiling_most;
        heat_most = λ i below. let under = rw rest_count at below in rw (record_part part h i) (fits.heat_most (h + i) (omega arith));
      }

  halves : (amount : Record → ℕ) →
      sum_of amount (record_at first) (record_count first) + sum_of amount (record_at rest) (record_count rest)
      ≡ sum_of amount (record_at part) (record_count part)
  unfolding sum_of
  halves amount =
      let e : h + (record_count part - h) ≡ record_count part = omega arith in
      rw (
        first_count,
        rest_count,
        pass_same {A = ℕ} _ 0 (record_at first) (record_at part) h (record_front part h),
        pass_same {A = ℕ} _ 0 (record_at rest) (λ i. record_at part (h + i)) (record_count part - h) (λ i below. record_part part h i),
      )
      (rw e at (sym (sum_split amount (record_at part) h (record_count part - h))))

pub sum_levels-front-requires : goal.sum_levels-front-requires
sum_levels-front-requires t c =
    let h = record_count c.args.part.now / 2 in
    let count = first_count c.args.part.now h (omega arith) in
    rw (c.split_at.ensures.front, c.record_count-n.ensures)
    (omega arith, (omega arith, first_fits c.args.part.now h (omega arith) c.requires.1))

pub sum_levels-back-requires : goal.sum_levels-back-requires
sum_levels-back-requires t c =
    let h = record_count c.args.part.now / 2 in
    let count = rest_count c.args.part.now h (omega arith) in
    rw (c.split_at.ensures.back, c.record_count-n.ensures)
    (omega arith, (omega arith, rest_fits c.args.part.now h (omega arith) c.requires.1))

pub returns : goal.returns
returns t c =
    let h = record_count c.args.part.now / 2 in
    let front = rw (c.split_at.ensures.front, c.record_count-n.ensures) at c.sum_levels-front.ensures in
    let back = rw (c.split_at.ensures.back, c.record_count-n.ensures) at c.sum_levels-back.ensures in
    let first = first_count c.args.part.now h (omega arith) in
    let rest = rest_count c.args.part.now h (omega arith) in
    (rw (front.0, back.0) (halves c.args.part.now h (omega arith) (level c.args.ceiling)), omega arith)
