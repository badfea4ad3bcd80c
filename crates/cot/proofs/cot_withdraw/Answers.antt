-- A number of 64 bits, since the call's answer has one. Assumes nothing.
use Rattle.std.proofs.Common.{rules, arith}
use Rattle.rules.specs.declared.Refusal.TheVariants.{WrongSizes}
use Rattle.rules.specs.Answers.{number_of}
use Rattle.rules.proofs.Refusals.{number_few}
use Rattle.cot.proofs.cot_withdraw.Goals as goal

pub number_of-requires : goal.number_of-requires
unfolding number_of
number_of-requires c = c.hosted.ensures.bounded number_of (omega (arith, number_few WrongSizes)) (λ t g l r t' g' made. search rules)
