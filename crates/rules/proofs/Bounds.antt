-- What the worked rows do not show, for any numbers: an aging keeps each heat within slack of the truth, an eviction never lowers the
-- ceiling, no key is tracked in a fresh table, and the replay of an update forgets the picture. Assumes nothing.
use Prim.Native.Nat.{ℕ, zero, suc, ◌+◌, ◌≤◌}
use mathlib.Core.Path.{◌≡◌, refl}
use mathlib.Core.Option.{none}
use native.Mathlib.Nat.{le-max_left, le-max_right}
use native.Mathlib.Omega.{arith}
use lib.ListN.{length}
use Rattle.rules.specs.declared.Record.{Record}
use Rattle.std.specs.Prelude.{None}
use Rattle.rules.specs.Pass.{pass, first, first_of}
use Rattle.rules.specs.Table.{Memory, is_tracked, half_down, half_up, has_key, key_record, places, fresh_memory, with_gauge, with_table, write}
use Rattle.rules.specs.Steps.{raised, track, evict}
use Rattle.rules.specs.Replay.{Truth, update_truth}
use Rattle.rules.proofs.Places.{record_zero}
use Rattle.rules.proofs.Changes.{at_same}

-- ---- heat, true heat and slack are halved
pub halved_not_below : (heat true-heat : ℕ) → true-heat ≤ heat → half_down true-heat ≤ half_down heat
unfolding half_down
halved_not_below heat true-heat h = omega arith

pub halved_not_above : (heat true-heat slack : ℕ) → heat ≤ true-heat + slack → half_down heat ≤ half_down true-heat + half_up slack
unfolding half_down half_up
halved_not_above heat true-heat slack h = omega arith

-- ---- a record is evicted
pub evict_keeps_ceiling : (m : Memory) (key w i : ℕ) (v : Record) → m.gauge.ceiling ≤ (evict m key w i v).gauge.ceiling
unfolding evict raised track write with_table with_gauge
evict_keeps_ceiling m key w i v = le-max_left m.gauge.ceiling v.heat

pub evict_covers_victim : (m : Memory) (key w i : ℕ) (v : Record) → v.heat ≤ (evict m key w i v).gauge.ceiling
unfolding evict raised track write with_table with_gauge
evict_covers_victim m key w i v = le-max_right m.gauge.ceiling v.heat

-- ---- nothing is tracked at first, not even key 0
pub fresh_untracked : (m : Memory) (key n : ℕ) → key_record key (places (fresh_memory m)) n ≡ None
unfolding key_record first_of pass first places fresh_memory has_key is_tracked
fresh_untracked m key zero = refl
fresh_untracked m key (suc n) = rw (fresh_untracked m key n, record_zero (length m.table) n)

-- ---- an update forgets the picture
-- | Update, of a key tracked or not: .. its picture becomes none
pub update_forgets : (t : Truth) (key w : ℕ) → (update_truth t key w).picture key ≡ none
unfolding update_truth
update_forgets t key w = at_same key none t.picture
