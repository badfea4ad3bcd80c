-- A pass over the first n elements f 0, f 1, ..: what it holds after each is decided by what it held, the element and its place.
-- Everything that is looked for in the table is one of these, at a test and an order.
use Rattle.std.specs.Prelude.{ℕ, zero, suc, ◌+◌, Bool, true, false, ◌&&◌, ltb, if◌then◌else◌, Option, Some, None}
use Rattle.rules.specs.declared.Record.{Record}

unfoldable pub pass : {A B : Type 0} → (A → ℕ → B → A) → A → (ℕ → B) → ℕ → A
pass step held f zero = held
pass step held f (suc n) = step (pass step held f n) n (f n)

-- what a search of the table finds: the place of a record, with the record itself
abbrev pub Found : Type 0
Found = Option (ℕ × Record)

-- | "First" means lowest place in the table
unfoldable pub first : (Record → Bool) → Found → ℕ → Record → Found
first test None i r = if test r then Some (i, r) else None
first test (Some (j, s)) i r = Some (j, s)

-- the one that no other beats, first among equals
unfoldable pub best : (Record → Bool) → (Record → Record → Bool) → Found → ℕ → Record → Found
best test beats None i r = if test r then Some (i, r) else None
best test beats (Some (j, s)) i r = if test r && beats r s then Some (i, r) else Some (j, s)

unfoldable pub first_of : (Record → Bool) → (ℕ → Record) → ℕ → Found
first_of test = pass (first test) None

unfoldable pub best_of : (Record → Bool) → (Record → Record → Bool) → (ℕ → Record) → ℕ → Found
best_of test beats = pass (best test beats) None

unfoldable pub sum_of : {B : Type 0} → (B → ℕ) → (ℕ → B) → ℕ → ℕ
sum_of amount = pass (λ sum i r. sum + amount r) 0

unfoldable pub count_of : {B : Type 0} → (B → Bool) → (ℕ → B) → ℕ → ℕ
count_of test = sum_of (λ r. if test r then 1 else 0)

unfoldable pub all_of : {B : Type 0} → (B → Bool) → (ℕ → B) → ℕ → Bool
all_of test = pass (λ so_far i r. so_far && test r) true

unfoldable pub any_of : {B : Type 0} → (B → Bool) → (ℕ → B) → ℕ → Bool
any_of test = pass (λ so_far i r. if test r then true else so_far) false

-- the sum of an amount over the chosen of the first n places, and how many they are
unfoldable pub sum_where : {B : Type 0} → (ℕ → Bool) → (B → ℕ) → (ℕ → B) → ℕ → ℕ
sum_where chosen amount f = sum_of (λ i. if chosen i then amount (f i) else 0) (λ i. i)

unfoldable pub count_where : (ℕ → Bool) → ℕ → ℕ
count_where chosen = count_of chosen (λ i. i)

-- the lowest number below n at which the test fails, or n
unfoldable pub lowest_not : (ℕ → Bool) → ℕ → ℕ
lowest_not test zero = zero
lowest_not test (suc n) = if ltb (lowest_not test n) n then lowest_not test n else if test n then suc n else n
