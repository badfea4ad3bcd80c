use Rattle.std.proofs.Common.{◌+◌, ◌≡◌, refl}
use denote.Enum.Declared.{tag_of}
use Rattle.rules.specs.contracts.Refusal.{the_type}
use Rattle.rules.specs.declared.Refusal.{Refusal}
use Rattle.rules.specs.declared.Refusal.TheVariants.{WrongSizes, WrongWeight, NotInOrder, WrongPicture, NoLine, AlreadyFilled, UnknownForm, ShortEnd, StaleTicket, SerialSpent, DoubledPosition, WrongRing, WrongEpoch}
use Rattle.rules.specs.Refusals.{number}
use Rattle.rules.proofs.U64FromRefusal.from.Goals as goal

tagged : (cause : Refusal) → tag_of the_type cause + 1 ≡ number cause
unfolding number
tagged WrongSizes = refl
tagged WrongWeight = refl
tagged NotInOrder = refl
tagged WrongPicture = refl
tagged NoLine = refl
tagged AlreadyFilled = refl
tagged UnknownForm = refl
tagged ShortEnd = refl
tagged StaleTicket = refl
tagged SerialSpent = refl
tagged DoubledPosition = refl
tagged WrongRing = refl
tagged WrongEpoch = refl

pub returns : goal.returns
returns c = tagged c.args.cause
