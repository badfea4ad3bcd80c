-- What every list of calls keeps: demand 3, and the parts that it does not say and its proof needs. Over places, so that nothing here
-- knows a byte. Records are said by the numbers of their states: 0 free, 1 without a line, 2 and over on a line.
use Prim.Native.Nat.{ℕ, ◌+◌, ◌*◌, ◌≤◌, ◌<◌, ◌^◌}
use mathlib.Core.Path.{◌≡◌}
use mathlib.Core.Bool.{Bool, true, false}
use mathlib.Core.List.{List}
use mathlib.Core.Logic.{◌≢◌}
use mathlib.Core.Option.{Option, some}
use Rattle.rules.specs.declared.Record.{Record}
use Rattle.rules.specs.declared.Gauge.{Gauge}
use Rattle.rules.specs.Bytes.{IsBytes, line_at}
use Rattle.rules.specs.Pass.{sum_where, count_where}
use Rattle.rules.specs.Table.{Memory, line_of, filled_state, is_zero, is_used, most_total, places, size, line_total}
use Rattle.rules.specs.Steps.{level}
use Rattle.rules.specs.Calls.{sizes_good}
use Rattle.rules.specs.Replay.{Filled, filled_with, Truth}

-- Of n records f, c lines, the gauge and the truth.
pub record Tracks (f : ℕ → Record) (n c : ℕ) (g : Gauge) (t : Truth) : Type 0 where
  -- the table is in order
  pub total_most : g.total ≤ most_total
  pub ceiling_most : g.ceiling ≤ g.total
  pub heat_most : (i : ℕ) → i < n → (f i).heat ≤ g.total
  pub state_most : (i : ℕ) → i < n → (f i).state ≤ 1 + 2 * c
  pub free_zero : (i : ℕ) → i < n → (f i).state ≡ 0 → is_zero (f i) ≡ true
  pub unlined_ticket : (i : ℕ) → i < n → (f i).state ≤ 1 → (f i).ticket ≡ 0
  -- no class has two records, no line two classes
  pub keys_apart : (i j : ℕ) → i < n → j < n → 0 < (f i).state → 0 < (f j).state → (f i).key ≡ (f j).key → i ≡ j
  pub lines_apart : (i j : ℕ) → i < n → j < n → 1 < (f i).state → 1 < (f j).state → line_of (f i) ≡ line_of (f j) → i ≡ j
  -- the truth
  pub not_below : (i : ℕ) → i < n → 0 < (f i).state → t.heat (f i).key ≤ (f i).heat
  pub not_above : (i : ℕ) → i < n → 0 < (f i).state → (f i).heat ≤ t.heat (f i).key + (f i).slack
  pub untracked : (key : ℕ) → ((i : ℕ) → i < n → 0 < (f i).state → (f i).key ≢ key) → t.heat key ≤ g.ceiling
  -- the levels of any choice of so many places
  pub few : t.fewest ≤ n
  pub levels : (chosen : ℕ → Bool) → count_where chosen n ≡ t.fewest → sum_where chosen (level g.ceiling) f n ≤ g.total
  pub total : g.total ≡ t.total

-- so every other tracked record is of another class
pub others_differ : {f : ℕ → Record} {n c : ℕ} {g : Gauge} {t : Truth} → Tracks f n c g t → (i : ℕ) → i < n → 0 < (f i).state →
    (j : ℕ) → j < n → j ≢ i → 0 < (f j).state → (f j).key ≢ (f i).key
others_differ s i inside tracked j below other on e = other (s.keys_apart j i below inside on tracked e)

-- Of n records f, the serial, what the lines show, the pictures that the replay has, and the tickets that are stale.
pub record Shows (f : ℕ → Record) (n serial : ℕ) (shown : ℕ → List ℕ) (pictures : ℕ → Option Filled) (stale : ℕ → ℕ) : Type 0 where
  pub latest : (i line : ℕ) → i < n → (f i).state ≡ filled_state line →
      pictures (f i).key ≡ some (filled_with (shown line) (f i).ticket)
  -- every ticket has been given, and one that a line waits with, or was filled with, is not stale
  pub ticket_most : (i : ℕ) → i < n → (f i).ticket ≤ serial
  pub since : (i : ℕ) → i < n → 1 < (f i).state → stale (f i).key < (f i).ticket
  pub stale_most : (key : ℕ) → stale key ≤ serial

-- where a line is unused, no record but perhaps i is without one
pub record FullBut (i : ℕ) (f : ℕ → Record) (n c : ℕ) : Type 0 where
  pub none_waits : (line : ℕ) → line < c → is_used f n line ≡ false → (j : ℕ) → j < n → j ≢ i → (f j).state ≢ 1

pub record Full (f : ℕ → Record) (n c : ℕ) : Type 0 where
  pub none_waits : (line : ℕ) → line < c → is_used f n line ≡ false → (j : ℕ) → j < n → (f j).state ≢ 1

-- no record without a line is hotter than one on a line
pub record Hottest (f : ℕ → Record) (n : ℕ) : Type 0 where
  pub hottest : (i j : ℕ) → i < n → j < n → 1 < (f i).state → (f j).state ≡ 1 → (f j).heat ≤ (f i).heat

-- the same, the one without a line not being i
pub record HottestBut (k : ℕ) (f : ℕ → Record) (n : ℕ) : Type 0 where
  pub hottest : (i j : ℕ) → i < n → j < n → 1 < (f i).state → (f j).state ≡ 1 → j ≢ k → (f j).heat ≤ (f i).heat

-- the same, the one on a line not being i
pub record HottestOver (k : ℕ) (f : ℕ → Record) (n : ℕ) : Type 0 where
  pub hottest : (i j : ℕ) → i < n → j < n → 1 < (f i).state → (f j).state ≡ 1 → i ≢ k → (f j).heat ≤ (f i).heat

-- Of a memory, the truth and the stale tickets: all of this, with what is known of waiting and of hot records.
pub record Kept (Waiting : (ℕ → Record) → ℕ → ℕ → Type 0) (Hot : (ℕ → Record) → ℕ → Type 0) (m : Memory) (t : Truth) (stale : ℕ → ℕ)
    : Type 0 where
  pub sizes : sizes_good m.table m.lines ≡ true
  pub bytes : IsBytes m.table
  pub serial_fits : m.gauge.serial < 2 ^ 64
  pub tracks : Tracks (places m) (size m) (line_total m) m.gauge t
  pub shows : Shows (places m) (size m) m.gauge.serial (line_at m.lines) t.picture stale
  pub full : Waiting (places m) (size m) (line_total m)
  pub hottest : Hot (places m) (size m)

-- after a list of calls
abbrev pub Holds : Memory → Truth → (ℕ → ℕ) → Type 0
Holds = Kept Full Hottest

-- while the class at place i may wait for a line
abbrev pub HoldsBut : ℕ → Memory → Truth → (ℕ → ℕ) → Type 0
HoldsBut i = Kept (FullBut i) (HottestBut i)

-- while the class at place i may have to be demoted
abbrev pub HoldsOver : ℕ → Memory → Truth → (ℕ → ℕ) → Type 0
HoldsOver i = Kept Full (HottestOver i)
