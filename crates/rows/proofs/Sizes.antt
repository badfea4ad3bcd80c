-- A printed row takes at most so many bytes as its room, and one takes all of them whose refusal has a number of 20 digits: a number has
-- at most 20, by induction, and no word is longer than that of a refusal. Assumes nothing.
use Prim.Native.Nat.{ℕ, zero, suc, ◌/◌, ◌≤◌}
use mathlib.Core.Path.{◌≡◌, refl}
use mathlib.Core.List.{◌++◌, append_assoc}
use native.Mathlib.Omega.{arith}
use lib.ListN.{length, length-append}
use Rattle.rules.specs.Table.{Memory}
use Rattle.rules.specs.Refusals.{number}
use Rattle.rules.specs.Answers.{Reply}
use Rattle.rules.specs.Steps.{Outcome}
use Rattle.rules.specs.Journal.{digits, decimal, refused_word, word_of, printed, row_of}
use Rattle.rows.specs.Written.{row_size}
use Rattle.rows.proofs.Written.{written_more}

pub digits_few : (most n : ℕ) → length (digits most n) ≤ most
unfolding digits
digits_few zero n = omega arith
digits_few (suc most) n = grind (arith, length-append, digits_few most (n / 10))

pub word_short : (answer : Reply) → length (word_of answer) ≤ 28
unfolding word_of decimal
word_short answer = grind (arith, length-append, digits_few 20)

pub row_short : (number : ℕ) (o : Outcome Reply Memory) → length (printed (row_of number o)) ≤ row_size
unfolding printed row_of decimal
row_short number o = grind (arith, length-append, digits_few 20, word_short)

abbrev twenty : ℕ
twenty = 10000000000000000000

pub row_longest : length (printed (record { number = twenty; word = refused_word ++ decimal twenty; total = twenty; ceiling = twenty })) ≡ row_size
unfolding printed decimal digits word_of
row_longest = refl

-- what joins what was written after it, and how many bytes that are
pub ruleset joins = (written_more, length-append, append_assoc, digits_few, word_short)
