-- Whether a table should grow, shrink, age or stay at the end of an epoch: Algorithm 3 of document 000, in whole numbers (document 02).
use Rattle.std.specs.Prelude.{ℕ, ◌+◌, ◌*◌, ◌-◌, ◌/◌, max, min, List, [], ◌∷◌, Bool, ◌&&◌, not, length, ltb, leb, eqb, if◌then◌else◌, Result, Ok, Err}
use Rattle.std.proofs.Math.Option.{some}
use Rattle.rules.specs.declared.Refusal.{Refusal}
use Rattle.rules.specs.declared.Refusal.TheVariants.{WrongSizes, WrongEpoch}
use Rattle.rules.specs.Refusals.{number}
use Rattle.rules.specs.Bytes.{number_size, get64, put64}
use Rattle.rules.specs.Pass.{pass}
use Rattle.rules.specs.Answers.{Said, Completion, said}
use Rattle.rules.specs.Numbers.{refusal}
use Rattle.rules.specs.Steps.{Outcome, outcome}
use Rattle.rules.specs.Calls.{most_records, verdict, must, unless}
use Rattle.scaler.specs.declared.Ratio.{Ratio}
use Rattle.scaler.specs.declared.Epoch.{Epoch}
use Rattle.scaler.specs.declared.Scale.{Scale}
use Rattle.scaler.specs.declared.Scale.TheVariants.{Grow, Shrink, Age, Stay}

-- ---- ratios
abbrev pub ratio : ℕ → ℕ → Ratio
ratio over under = record { over = over; under = under }

-- | Ratios are compared by cross products
unfoldable pub below : Ratio → Ratio → Bool
below a b = ltb (a.over * b.under) (b.over * a.under)

-- ---- the lookups to each store: lent numbers of 8 bytes
unfoldable pub store_count : List ℕ → ℕ
store_count lookups = length lookups / number_size

unfoldable pub lookup_at : List ℕ → ℕ → ℕ
lookup_at lookups i = get64 lookups (number_size * i)

unfoldable pub greatest : List ℕ → ℕ
greatest lookups = pass (λ held i n. max held n) 0 (lookup_at lookups) (store_count lookups)

unfoldable pub least : List ℕ → ℕ
least lookups = pass (λ held i n. min held n) (lookup_at lookups 0) (lookup_at lookups) (store_count lookups)

-- ---- what Algorithm 3 compares
-- | I_c: the ratio between the highest and the lowest load on back-end servers during this epoch
unfoldable pub imbalance : List ℕ → Ratio
imbalance lookups = ratio (greatest lookups) (least lookups)

-- | α_c: Averages are over C
unfoldable pub on_average : Epoch → Ratio
on_average e = ratio e.on e.lines

-- | α_k-c: and off the lines over K less C
unfoldable pub off_average : Epoch → Ratio
off_average e = ratio e.off (e.records - e.lines)

-- | the tolerance in thousandths
abbrev pub whole : ℕ
whole = 1000

-- | (1 − ε) · α_t
unfoldable pub tolerated : Epoch → Ratio
tolerated e = ratio ((whole - e.tolerance) * e.target.over) (whole * e.target.under)

-- ---- Algorithm 3: which of four is due (line 3, the epoch's length, is the caller's)
-- | 1: I_c > I_t
unfoldable pub over_target : List ℕ → Epoch → Bool
over_target lookups e = below e.imbalance (imbalance lookups)

-- | 1: .. and α_c ≥ α_k-c
unfoldable pub grow_due : List ℕ → Epoch → Bool
grow_due lookups e = over_target lookups e && not (below (on_average e) (off_average e))

-- | 6, 8: α_c < (1 − ε) · α_t
unfoldable pub on_below : Epoch → Bool
on_below e = below (on_average e) (tolerated e)

-- | 6: .. and α_k-c < (1 − ε) · α_t
unfoldable pub off_below : Epoch → Bool
off_below e = below (off_average e) (tolerated e)

-- | 8: .. and α_k-c > (1 − ε) · α_t
unfoldable pub off_above : Epoch → Bool
off_above e = below (tolerated e) (off_average e)

-- | a grow with twice K over 1,024, or a shrink with C 1, becomes stay
unfoldable pub decided : {A : Type 0} → List ℕ → Epoch → (grow shrink age stay : A) → A
decided lookups e grow shrink age stay =
    if grow_due lookups e
    then if leb (2 * e.records) most_records then grow else stay
    else if on_below e && off_below e
    then if eqb e.lines 1 then stay else shrink
    else if on_below e && off_above e then age else stay

-- | Grow and shrink answer the new C and K: twice each, or C halved down and K halved up. Grow also answers the new target, hits on
-- | lines over C, not reduced
unfoldable pub scaled : List ℕ → Epoch → Scale
scaled lookups e =
    decided lookups e (Grow (2 * e.lines) (2 * e.records) (on_average e)) (Shrink (e.lines / 2) ((e.records + 1) / 2)) Age Stay

-- ---- the tests
-- | C at least 1, K over C and at most 1,024. .. Sizes out of bounds give 1.
unfoldable pub sizes_good : Epoch → Bool
sizes_good e = leb 1 e.lines && ltb e.lines e.records && leb e.records most_records

-- | 1 to 64 stores
abbrev pub most_stores : ℕ
most_stores = 64

unfoldable pub stores_good : List ℕ → Bool
stores_good lookups =
    eqb (number_size * store_count lookups) (length lookups)
    && leb 1 (store_count lookups)
    && leb (store_count lookups) most_stores

-- | a count over 1,048,576
abbrev pub most_count : ℕ
most_count = 1048576

unfoldable pub counts_good : List ℕ → Epoch → Bool
counts_good lookups e = leb (greatest lookups) most_count && leb e.on most_count && leb e.off most_count

-- | a fraction part over that or a denominator of 0
unfoldable pub fraction_good : Ratio → Bool
fraction_good r = leb r.over most_count && leb 1 r.under && leb r.under most_count

-- | an imbalance below 1
unfoldable pub imbalance_good : Ratio → Bool
imbalance_good r = fraction_good r && leb r.under r.over

-- | or a tolerance over 999
unfoldable pub epoch_good : List ℕ → Epoch → Bool
epoch_good lookups e =
    stores_good lookups
    && counts_good lookups e
    && imbalance_good e.imbalance
    && fraction_good e.target
    && leb e.tolerance 999

-- | 13, after 1
unfoldable pub scale_verdict : List ℕ → Epoch → Completion
scale_verdict lookups e = verdict (must (sizes_good e) WrongSizes ∷ must (epoch_good lookups e) WrongEpoch ∷ [])

-- ---- the call
unfoldable pub scale_outcome : List ℕ → Epoch → Result Scale Refusal
scale_outcome lookups e = unless (scale_verdict lookups e) (λ cause. Err cause) (Ok (scaled lookups e))

-- 106 grow, 107 shrink, 108 age, 109 stay; or a refusal's own number
unfoldable pub scale_number : Result Scale Refusal → ℕ
scale_number (Ok (Grow lines records target)) = 106
scale_number (Ok (Shrink lines records)) = 107
scale_number (Ok Age) = 108
scale_number (Ok Stay) = 109
scale_number (Err cause) = number cause

-- the values that come with it: the new C and K, and the new target's two parts
unfoldable pub scale_values : Result Scale Refusal → List ℕ
scale_values (Ok (Grow lines records target)) = lines ∷ records ∷ target.over ∷ target.under ∷ []
scale_values (Ok (Shrink lines records)) = lines ∷ records ∷ []
scale_values (Ok Age) = []
scale_values (Ok Stay) = []
scale_values (Err cause) = []

unfoldable pub reply_said : Result Scale Refusal → Said
reply_said reply = said (some (scale_number reply)) (scale_values reply)

-- the same, read off the tests and not by the cases of an answer
unfoldable pub scale_said : List ℕ → Epoch → Said
scale_said lookups e =
    unless (scale_verdict lookups e) (λ cause. refusal (number cause))
    (decided lookups e
    (said (some 106) (2 * e.lines ∷ 2 * e.records ∷ e.on ∷ e.lines ∷ []))
    (said (some 107) (e.lines / 2 ∷ (e.records + 1) / 2 ∷ []))
    (said (some 108) [])
    (said (some 109) []))

-- ---- by a C host
-- the numbers that it gives, in their order
abbrev pub epoch : (on off lines records imbalance_over imbalance_under target_over target_under tolerance : ℕ) → Epoch
epoch on off lines records imbalance_over imbalance_under target_over target_under tolerance =
    record {
      on = on;
      off = off;
      lines = lines;
      records = records;
      imbalance = ratio imbalance_over imbalance_under;
      target = ratio target_over target_under;
      tolerance = tolerance;
    }

-- numbers in turn, from a place on
unfoldable pub put_numbers : List ℕ → ℕ → List ℕ → List ℕ
put_numbers bytes at [] = bytes
put_numbers bytes at (n ∷ ns) = put_numbers (put64 bytes at n) (at + number_size) ns

abbrev pub out_size : ℕ
out_size = 32

-- the number that it is told, and what becomes of the 32 bytes that it lent
unfoldable pub exported_scale : List ℕ → Epoch → List ℕ → Outcome ℕ (List ℕ)
exported_scale lookups e out =
    unless (verdict (must (eqb (length out) out_size) WrongSizes ∷ [])) (λ cause. outcome (number cause) out)
    (outcome (scale_number (scale_outcome lookups e)) (put_numbers out 0 (scale_values (scale_outcome lookups e))))

-- the same, by all tests in one row and byte by byte
abbrev pub scale_told : List ℕ → Epoch → List ℕ → Outcome ℕ (List ℕ)
scale_told lookups e out =
    unless
    (verdict
    (must (eqb (length out) 32) WrongSizes
    ∷ must (sizes_good e) WrongSizes
    ∷ must (epoch_good lookups e) WrongEpoch
    ∷ []))
    (λ cause. outcome (number cause) out)
    (decided lookups e
    (outcome 106 (put64 (put64 (put64 (put64 out 0 (2 * e.lines)) 8 (2 * e.records)) 16 e.on) 24 e.lines))
    (outcome 107 (put64 (put64 out 0 (e.lines / 2)) 8 ((e.records + 1) / 2)))
    (outcome 108 out)
    (outcome 109 out))
