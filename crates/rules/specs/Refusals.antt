-- The paper's number for each cause of refusal.
use Rattle.std.specs.Prelude.{ℕ}
use Rattle.rules.specs.declared.Refusal.{Refusal}
use Rattle.rules.specs.declared.Refusal.TheVariants.{WrongSizes, WrongWeight, NotInOrder, WrongPicture, NoLine, AlreadyFilled, UnknownForm, ShortEnd, StaleTicket, SerialSpent, DoubledPosition, WrongRing, WrongEpoch}

unfoldable pub number : Refusal → ℕ
-- | 1: table not whole records, K outside 1 to 1,024, lines not whole, C not under K, gauge bytes not [24]
number WrongSizes = 1
-- | 2: read or update weight 0 or over 65,535 (a read's 0 no more: document 02)
number WrongWeight = 2
-- | 3: table not in order
number NotInOrder = 3
-- | 4: picture to fill not 64 bytes
number WrongPicture = 4
-- | 5: fill of a key without a line
number NoLine = 5
-- | 6: fill of a filled line
number AlreadyFilled = 6
-- | 7: journal record of unknown form
number UnknownForm = 7
-- | 8: 1 to 87 bytes left [at the journal's end]
number ShortEnd = 8
-- | 9: a fill with another ticket (document 02)
number StaleTicket = 9
-- | 10: a read over 0, update or fill when the serial is 9,223,372,036,854,775,808 or more (and a withdrawal)
number SerialSpent = 10
-- | 11, two points at one position (document 02)
number DoubledPosition = 11
-- | 12, a ring of no point, over 1,024 or not whole points (document 02)
number WrongRing = 12
-- | 13, after 1, for stores outside 1 to 64, a count over 1,048,576, a fraction part over that or a denominator of 0, an imbalance
-- | below 1, or a tolerance over 999 (document 02)
number WrongEpoch = 13
