-- A number's digits, with the last one at the end of those in front of it. Assumes nothing.
use Rattle.std.proofs.Common.{◌≡◌, ℕ, zero, suc, ◌+◌, ◌-◌, ◌/◌, ◌%◌, ◌≤◌, ◌<◌, [], ◌∷◌, ◌++◌, refl, arith, rules}
use Rattle.rules.specs.Journal.{digits}
use Rattle.rows.proofs.Sizes.{joins}
use Rattle.rows.proofs.Written.{written_none}

pub no_digits : (n : ℕ) → digits 0 n ≡ []
unfolding digits
no_digits n = refl

pub one_digit : (most n : ℕ) → 0 < most → n < 10 → digits most n ≡ (48 + n) ∷ []
unfolding digits
one_digit zero n some few = absurd (omega arith)
one_digit (suc most) n some few = search rules

pub more_digits : (most n : ℕ) → 0 < most → 10 ≤ n → digits most n ≡ digits (most - 1) (n / 10) ++ ((48 + n % 10) ∷ [])
unfolding digits
more_digits zero n some many = absurd (omega arith)
more_digits (suc most) n some many = grind arith

-- what a number's digits are, and what writing them leaves
pub ruleset writing = (joins, no_digits, one_digit, more_digits, written_none)
