-- What is promised of a resize, in the words of document 02: who loses a line, who is dropped, and how every other record stands.
use Rattle.std.specs.Prelude.{ℕ, ◌-◌, ◌≤◌, ◌<◌, ◌≡◌, Bool, true, false, ◌&&◌, ◌||◌, not, ltb}
use Rattle.rules.specs.declared.Record.{Record}
use Rattle.rules.specs.Bytes.{line_at}
use Rattle.rules.specs.Pass.{count_where}
use Rattle.rules.specs.Table.{Memory, is_tracked, is_unlined, is_lined, is_filled, line_of, freed, colder, leaves, places, size, line_total}
use Rattle.resizing.specs.Resize.{tracked_count, lined_count}

-- | first among equals
-- Whether the record at place i goes before the one at place j, in an order of records.
unfoldable pub goes_before : (Record → Record → Bool) → (ℕ → Record) → ℕ → ℕ → Bool
goes_before beats f i j = beats (f i) (f j) || (not (beats (f j) (f i)) && ltb i j)

-- Of the candidates among n places, so many have gone, the first in an order.
pub record Foremost (candidate gone : ℕ → Bool) (before : ℕ → ℕ → Bool) (n count : ℕ) : Type 0 where
  pub many : count_where gone n ≡ count
  pub among : (i : ℕ) → i < n → gone i ≡ true → candidate i ≡ true
  pub first : (i j : ℕ) → i < n → j < n → gone i ≡ true → candidate j ≡ true → gone j ≡ false → before i j ≡ true

-- a record that is kept, where it stands after: at place j, its line in the source still its own or not, and then line n
pub record Stands (source after : Memory) (i j n : ℕ) (keeps_line : Bool) : Type 0 where
  pub inside : j < size after
  pub tracked : is_tracked (places after j) ≡ true
  pub key : (places after j).key ≡ (places source i).key
  pub heat : (places after j).heat ≡ (places source i).heat
  pub slack : (places after j).slack ≡ (places source i).slack
  pub lined : keeps_line ≡ true → is_lined (places after j) ≡ true
  pub line : keeps_line ≡ true → line_of (places after j) ≡ n
  pub filled : keeps_line ≡ true → is_filled (places after j) ≡ is_filled (places source i)
  pub ticket : keeps_line ≡ true → (places after j).ticket ≡ (places source i).ticket
  pub picture : keeps_line ≡ true → line_at after.lines (line_of (places after j)) ≡ line_at source.lines (line_of (places source i))
  -- otherwise it has none, or a spare one, empty
  pub empty : keeps_line ≡ false → is_filled (places after j) ≡ false

pub record Resized (source after : Memory) : Type 0 where
  -- which records of the source lose their lines, and which are dropped
  pub loses : ℕ → Bool
  pub dropped : ℕ → Bool
  -- | If more are on lines than the new C, the coldest lose them, first among equals.
  pub coldest : Foremost (λ i. is_lined (places source i)) loses (goes_before colder (places source)) (size source)
      (lined_count source - line_total after)
  -- | Then, if more are tracked than the new K, victims of [request 5's] order go
  pub victims : Foremost (λ i. is_unlined (places source i) || loses i) dropped (goes_before leaves (places source)) (size source)
      (tracked_count source - size after)
  -- | and the ceiling rises to the hottest one dropped if that is higher
  pub not_below : source.gauge.ceiling ≤ after.gauge.ceiling
  pub hottest_dropped : (i : ℕ) → i < size source → dropped i ≡ true → (places source i).heat ≤ after.gauge.ceiling
  pub no_higher : (most : ℕ) → source.gauge.ceiling ≤ most →
      ((i : ℕ) → i < size source → dropped i ≡ true → (places source i).heat ≤ most) → after.gauge.ceiling ≤ most
  -- (the total is the source's)
  pub total : after.gauge.total ≡ source.gauge.total
  -- | Kept records are packed in their old order, .. and each kept record on a line gets the next line number in that order
  pub stands : (i : ℕ) → i < size source → is_tracked (places source i) ≡ true → dropped i ≡ false →
      Stands source after i (count_where (λ j. is_tracked (places source j) && not (dropped j)) i)
      (count_where (λ j. is_lined (places source j) && not (loses j)) i) (is_lined (places source i) && not (loses i))
  -- | the rest free
  pub rest : (j : ℕ) → j < size after → count_where (λ i. is_tracked (places source i) && not (dropped i)) (size source) ≤ j →
      places after j ≡ freed

-- nobody loses anything
pub record NobodyLoses (source after : Memory) (r : Resized source after) : Type 0 where
  pub lines : (i : ℕ) → i < size source → r.loses i ≡ false
  pub records : (i : ℕ) → i < size source → r.dropped i ≡ false
