-- What demand 3 claims of the memory that a list leaves, the replay of the list and its events, and the other claims after such a list.
use Rattle.std.specs.Prelude.{ℕ, ◌+◌, ◌*◌, ◌^◌, ◌≤◌, ◌<◌, ◌≡◌, List, ◌∷◌, ◌++◌, Bool, true, false, ◌≢◌, Ok, None}
use Rattle.std.proofs.Math.Option.{some}
use Rattle.rules.specs.Bytes.{line_at}
use Rattle.rules.specs.Table.{Memory, is_tracked, is_unlined, is_lined, filled_state, key_record, places, size}
use Rattle.rules.specs.Answers.{is_refused}
use Rattle.rules.specs.Pass.{count_where, sum_where}
use Rattle.rules.specs.Steps.{level, levelled_sum}
use Rattle.rules.specs.declared.Answer.TheVariants.{Wanted}
use Rattle.rules.specs.Calls.{plain_verdict, fill_outcome, fresh_outcome}
use Rattle.rules.specs.Replay.{filled_with, Truth, unheard}
use Rattle.demand.specs.List.{read, withdraw, answered, was_refused, Lent, memory_of, made, Event, told, Follows, replay, stale_up_to, voided, next_serial}

pub record Demand3 (m : Memory) (truth : Truth) (es : List Event) : Type 0 where
  -- | the lines hold the hottest: no tracked class off the lines is hotter (more heat in the table) than one on them
  pub hottest : (i j : ℕ) → i < size m → j < size m → is_lined (places m i) ≡ true → is_unlined (places m j) ≡ true →
      (places m j).heat ≤ (places m i).heat
  -- | heats lie within slack of the truth
  pub not_below : (i : ℕ) → i < size m → is_tracked (places m i) ≡ true → truth.heat (places m i).key ≤ (places m i).heat
  pub not_above : (i : ℕ) → i < size m → is_tracked (places m i) ≡ true →
      (places m i).heat ≤ truth.heat (places m i).key + (places m i).slack
  -- | the ceiling bounds the untracked: a class not in the table is an untracked key
  pub untracked : (key : ℕ) → key_record key (places m) (size m) ≡ None → truth.heat key ≤ m.gauge.ceiling
  -- | the smallest record count since fresh (document 02)
  pub few : truth.fewest ≤ size m
  -- | records × ceiling ≤ total. .. After resizing, the product with the ceiling .. [uses] the smallest record count since fresh
  pub product : truth.fewest * m.gauge.ceiling ≤ m.gauge.total
  -- | and the levelled sum's bound .., the sum over any that many records (document 02)
  pub levelled : (chosen : ℕ → Bool) → count_where chosen (size m) ≡ truth.fewest →
      sum_where chosen (level m.gauge.ceiling) (places m) (size m) ≤ m.gauge.total
  -- | The gauge's total equals the true total.
  pub total : m.gauge.total ≡ truth.total
  -- | Line n is filled if a record's state is 3 + 2 × n, and its class is that record's key. .. its 64 bytes must equal that key's
  -- | picture in the replay, which must not be none
  -- and its record's ticket is the one that this picture's fill brought
  pub latest : (i n : ℕ) → i < size m → (places m i).state ≡ filled_state n →
      truth.picture (places m i).key ≡ some (filled_with (line_at m.lines n) (places m i).ticket)
  -- | a filled line shows a picture whose ticket was given by the last accepted update of its class, if any, or after it (document 02)
  -- `stale_up_to` is the serial that the last accepted update or withdrawal of the class found, and every ticket up to it had been given
  -- before. (Withdrawals are more than the paper asks.) `TicketsGivenSince` has the sentence in full.
  pub current : (i n : ℕ) → i < size m → (places m i).state ≡ filled_state n →
      (stale_up_to es (places m i).key < (places m i).ticket) × ((places m i).ticket ≤ m.gauge.serial)

-- | It never exceeds the total after a list as in demand 3.
-- The sum over all K records, that is, where no resize has made K greater than it was once before; `levelled` bounds it after any list.
abbrev pub LevelledBound : Memory → Truth → List Event → Type 0
LevelledBound m truth es = truth.fewest ≡ size m → levelled_sum m ≤ m.gauge.total

-- The tests of sizes and order pass, so that no later call is refused with 3.
abbrev pub StaysInOrder : Memory → Truth → List Event → Type 0
StaysInOrder m truth es = plain_verdict m ≡ Ok tt

-- Space-Saving's own guarantee: a class with more true heat than a K-th of the total is in the table, K being the smallest since fresh.
abbrev pub HeavyHittersTracked : Memory → Truth → List Event → Type 0
HeavyHittersTracked m truth es =
    (key : ℕ) → m.gauge.total < truth.fewest * truth.heat key → key_record key (places m) (size m) ≢ None

-- | whose ticket was given by the last accepted update of its class, if any, or after it
-- A call gives the tickets over the serial that it found, up to the one that the next call finds. This one gave the ticket; it was
-- accepted, and neither an update nor (which the paper does not ask) a withdrawal of the class was accepted after it.
pub record GivenSince (es : List Event) (end : Memory) (key ticket : ℕ) : Type 0 where
  pub before : List Event
  pub giver : Event
  pub later : List Event
  pub whole : es ≡ before ++ (giver ∷ later)
  pub accepted : giver.heard.refused ≡ false
  pub given : (giver.serial < ticket) × (ticket ≤ next_serial later end)
  pub none_later : voided key later ≡ false

-- (The record's ticket is that of the picture shown: `latest`.)
abbrev pub TicketsGivenSince : Memory → Truth → List Event → Type 0
TicketsGivenSince m truth es =
    (i n : ℕ) → i < size m → (places m i).state ≡ filled_state n → GivenSince es m (places m i).key (places m i).ticket

-- A fill that brings a ticket given before the last accepted update or withdrawal of its class is refused: the picture of a fetch that
-- was overtaken.
abbrev pub LateFillsRefused : Memory → Truth → List Event → Type 0
LateFillsRefused m truth es =
    (key : ℕ) (picture : List ℕ) (ticket : ℕ) → ticket ≤ stale_up_to es key → is_refused (fill_outcome m key picture ticket).answer ≡ true

-- | A sorter is told wanted, fetches, and meanwhile the picture changes. (Document 02)
-- After a list a read of a class tells wanted, with a ticket; the list goes on, and an update or a withdrawal of the class is accepted in
-- it. From then on a fill that brings this ticket is refused.
abbrev pub OvertakenRefused : Memory → Truth → List Event → Type 0
OvertakenRefused m truth es =
    (lent : Lent) (end : Memory) (later : List Event) (key w n ticket : ℕ) (picture : List ℕ) → memory_of lent ≡ m → key < 2 ^ 64 →
    (made (read key w) lent).answer ≡ answered (Ok (Wanted n ticket)) → Follows (memory_of (made (read key w) lent).after) later end →
    voided key later ≡ true → is_refused (fill_outcome end key picture ticket).answer ≡ true

-- | a withdrawal leaves the ceiling (document 02)
-- and the total, whoever makes it, refused or not. Where it is accepted, no record is the class's any more.
pub record Removed (m after : Memory) (key : ℕ) (refused : Bool) : Type 0 where
  pub ceiling : after.gauge.ceiling ≡ m.gauge.ceiling
  pub total : after.gauge.total ≡ m.gauge.total
  pub gone : refused ≡ false → key_record key (places after) (size after) ≡ None

abbrev pub WithdrawalsLeave : Memory → Truth → List Event → Type 0
WithdrawalsLeave m truth es =
    (key : ℕ) (lent : Lent) → memory_of lent ≡ m → key < 2 ^ 64 →
    Removed m (memory_of (made (withdraw key) lent).after) key (was_refused (made (withdraw key) lent).answer)

-- | The list starts from a fresh table and gauge; the lines may hold any bytes.
-- Fresh accepts every K from 1 to 1,024 and every C below K (`fresh_accepts`), so m stands for all that a list can start with.
abbrev pub AfterEveryList : (Memory → Truth → List Event → Type 0) → Type 0
AfterEveryList Claim =
    (m end : Memory) (es : List Event) → (fresh_outcome m).answer ≡ Ok tt → Follows (fresh_outcome m).after es end →
    Claim end (replay (unheard (size m)) (told es)) es
