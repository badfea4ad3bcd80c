-- The replay of demand 3: what it keeps, and what each accepted call does to it. Nothing in the table, gauge or lines is read for it;
-- its start is told K, and a resize the new one. And, which is no part of it, how a class's tickets become stale.
use Rattle.std.specs.Prelude.{ℕ, ◌+◌, ◌-◌, List, ltb, eqb, if◌then◌else◌}
use Rattle.std.proofs.Math.Option.{Option, none, some}
use Rattle.rules.specs.Table.{half_down, most_total}

-- A picture, with the ticket that its fill brought.
pub record Filled : Type 0 where
  pub bytes : List ℕ
  pub ticket : ℕ

abbrev pub filled_with : List ℕ → ℕ → Filled
filled_with bytes ticket = record { bytes = bytes; ticket = ticket }

-- | It keeps a true total, and for every key a true heat and a picture
pub record Truth : Type 0 where
  pub total : ℕ
  pub heat : ℕ → ℕ
  pub picture : ℕ → Option Filled
  -- | the smallest record count since fresh (document 02)
  pub fewest : ℕ

-- | starting at 0, 0 and none
unfoldable pub unheard : ℕ → Truth
unheard records = record { total = 0; heat = λ key. 0; picture = λ key. none; fewest = records }

-- f, but v at key
unfoldable pub at : {A : Type 0} → ℕ → A → (ℕ → A) → ℕ → A
at key v f k = if eqb k key then v else f k

-- | Aging: the true total and every true heat become half, rounded down.
unfoldable pub age_truth : Truth → Truth
age_truth t = record { total = half_down t.total; heat = λ key. half_down (t.heat key); picture = t.picture; fewest = t.fewest }

-- | Then the true total and the key's true heat grow by w.
unfoldable pub grown_truth : Truth → ℕ → ℕ → Truth
grown_truth t key w =
    record { total = t.total + w; heat = at key (t.heat key + w) t.heat; picture = t.picture; fewest = t.fewest }

-- | Read: if true total + w exceeds L, an aging first.
unfoldable pub warm_truth : Truth → ℕ → ℕ → Truth
warm_truth t key w = grown_truth (if ltb most_total (t.total + w) then age_truth t else t) key w

-- | a look counts for nothing in the replay (document 02)
unfoldable pub read_truth : Truth → ℕ → ℕ → Truth
read_truth t key w = if eqb w 0 then t else warm_truth t key w

-- | Update, of a key tracked or not: the key's true heat falls by w, not below 0, and its picture becomes none.
unfoldable pub update_truth : Truth → ℕ → ℕ → Truth
update_truth t key w =
    record { total = t.total; heat = at key (t.heat key - w) t.heat; picture = at key none t.picture; fewest = t.fewest }

-- | Fill: the key's picture becomes the one lent.
unfoldable pub fill_truth : Truth → ℕ → List ℕ → ℕ → Truth
fill_truth t key lent ticket =
    record { total = t.total; heat = t.heat; picture = at key (some (filled_with lent ticket)) t.picture; fewest = t.fewest }

-- | In the replay the class's true heat becomes 0. (Document 02)
-- Of a class tracked or not; its picture stays.
unfoldable pub withdraw_truth : Truth → ℕ → Truth
withdraw_truth t key = record { total = t.total; heat = at key 0 t.heat; picture = t.picture; fewest = t.fewest }

-- ---- tickets
-- | a picture whose ticket was given by the last accepted update of its class, if any, or after it (document 02)
-- For each class, the largest stale ticket: an accepted update of the class makes it the serial that it found, for every ticket up to that
-- had been given before. So does an accepted withdrawal, which the paper does not ask: a class that is read again gets tickets of its own.
-- No other call changes it.
unfoldable pub make_stale : (ℕ → ℕ) → ℕ → ℕ → ℕ → ℕ
make_stale stale key serial = at key serial stale
