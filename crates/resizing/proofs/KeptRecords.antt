-- What is kept of a table, place by place: who has lost a line, who is dropped, and what every other record still is.
-- Assumes nothing.
use Prim.Native.Nat.{ℕ, ◌-◌, ◌≤◌, ◌<◌}
use mathlib.Core.Path.{◌≡◌, refl, sym, ◌∙◌, ap}
use mathlib.Core.Bool.{Bool, true, false, not, ◌&&◌, ◌||◌, or-true, or-false, and-false, and-true}
use native.Mathlib.Omega.{arith}
use borrow.Author.Tests.{eqb-true}
use Rattle.std.specs.Prelude.{if◌then◌else◌}
use Rattle.rules.specs.declared.Record.{Record}
use Rattle.rules.specs.declared.Gauge.{Gauge}
use Rattle.rules.specs.Bytes.{IsBytes}
use Rattle.rules.specs.Table.{Memory, is_tracked, is_unlined, is_lined, unlined, freed, colder, leaves, places, size}
use Rattle.rules.proofs.Searches.{clash}
use Rattle.resizing.specs.Resize.{tracked_count, lined_count, demoted, kept}
use Rattle.resizing.specs.Kept.{goes_before, Foremost}
use Rattle.resizing.proofs.Goes.{gone_all}
use Rattle.resizing.proofs.PackSums.{lined_tracked}
use Rattle.resizing.proofs.KeptCounts.{Same, off_line, unlined_tracked, freed_untracked, lines_lost, victims_gone, kept_tracked, kept_lined, kept_same}

-- ---- what a record keeps, whatever becomes of its line
pub record Alike (r q : Record) : Type 0 where
  pub key : q.key ≡ r.key
  pub heat : q.heat ≡ r.heat
  pub slack : q.slack ≡ r.slack

pub alike_then : (r q s : Record) → Alike r q → Alike q s → Alike r s
alike_then r q s a b = record { key = b.key ∙ a.key; heat = b.heat ∙ a.heat; slack = b.slack ∙ a.slack }

pub alike_itself : (r : Record) → Alike r r
alike_itself r = record { key = refl; heat = refl; slack = refl }

alike_unlined : (r : Record) → Alike r (unlined r)
unfolding unlined
alike_unlined r = record { key = refl; heat = refl; slack = refl }

leaves_alike : (r s r' s' : Record) → Alike r r' → Alike s s' → leaves r s ≡ leaves r' s'
unfolding leaves colder
leaves_alike r s r' s' a b = rw (a.heat, a.slack, b.heat, b.slack)

-- the same candidates, in the same order
foremost_same : (candidate candidate' gone : ℕ → Bool) (before before' : ℕ → ℕ → Bool) (n count : ℕ) →
    ((i : ℕ) → candidate i ≡ candidate' i) → ((i j : ℕ) → before i j ≡ before' i j) →
    Foremost candidate gone before n count → Foremost candidate' gone before' n count
foremost_same candidate candidate' gone before before' n count same order x =
    record {
      many = x.many;
      among = λ i below went. rw (← same i) (x.among i below went);
      first = λ i j i_below j_below went passes stays.
          rw (← order i j) (x.first i j i_below j_below went (rw (same j) passes) stays);
    }

-- ---- all of it
pub record Keeping (m still : Memory) (records lines : ℕ) : Type 0 where
  pub loses : ℕ → Bool
  pub dropped : ℕ → Bool
  pub coldest : Foremost (λ i. is_lined (places m i)) loses (goes_before colder (places m)) (size m) (lined_count m - lines)
  pub victims : Foremost (λ i. is_unlined (places m i) || loses i) dropped (goes_before leaves (places m)) (size m)
      (tracked_count m - records)
  pub each : (i : ℕ) → places still i ≡ (if dropped i then freed else if loses i then unlined (places m i) else places m i)
  pub same : Same m still
  pub tracked_most : tracked_count still ≤ records
  pub lined_most : lined_count still ≤ lines
  pub not_below : m.gauge.ceiling ≤ still.gauge.ceiling
  pub covers : (i : ℕ) → i < size m → dropped i ≡ true → (places m i).heat ≤ still.gauge.ceiling
  pub no_higher : (most : ℕ) → m.gauge.ceiling ≤ most → ((i : ℕ) → i < size m → dropped i ≡ true → (places m i).heat ≤ most) →
      still.gauge.ceiling ≤ most

module _ (records lines : ℕ) (m : Memory) (bytes : IsBytes m.table) (fewer : lines < records) where
  abbrev loses : ℕ → Bool
  loses = (lines_lost records lines m bytes).gone.gone

  demoted_alike : (i : ℕ) → Alike (places m i) (places (demoted lines m) i)
  demoted_alike i =
      gone_all is_lined colder unlined (places m) (places (demoted lines m)) _ _ (lines_lost records lines m bytes).gone
      (Alike (places m i)) i (λ _. alike_unlined (places m i)) (λ _. alike_itself (places m i))

  -- off the lines are those that were, and those that lost theirs
  demoted_off : (i : ℕ) → is_unlined (places (demoted lines m) i) ≡ (is_unlined (places m i) || loses i)
  unfolding is_unlined unlined
  demoted_off i =
      gone_all is_lined colder unlined (places m) (places (demoted lines m)) _ _ (lines_lost records lines m bytes).gone
      (λ r. is_unlined r ≡ (is_unlined (places m i) || loses i)) i
      (λ e. rw e (sym (or-true (is_unlined (places m i)))))
      (λ e. rw e (sym (or-false (is_unlined (places m i)))))

  demoted_order : (i j : ℕ) → goes_before leaves (places (demoted lines m)) i j ≡ goes_before leaves (places m) i j
  unfolding goes_before
  demoted_order i j =
      rw (
        leaves_alike (places m i) (places m j) _ _ (demoted_alike i) (demoted_alike j),
        leaves_alike (places m j) (places m i) _ _ (demoted_alike j) (demoted_alike i),
      )

  pub keeping : Keeping m (kept records lines m) records lines
  keeping =
      let lost = lines_lost records lines m bytes in
      let gone = victims_gone records lines m bytes fewer in
      let was : (demoted lines m).gauge.ceiling ≡ m.gauge.ceiling = ap (λ (g : Gauge). g.ceiling) lost.gauge in
      record {
        loses = lost.gone.gone;
        dropped = gone.gone.gone;
        coldest = lost.gone.foremost;
        victims =
            rw (lost.same.records, lost.tracked) at
            (foremost_same (λ i. is_unlined (places (demoted lines m) i)) (λ i. is_unlined (places m i) || loses i) gone.gone.gone
            (goes_before leaves (places (demoted lines m))) (goes_before leaves (places m)) _ _ demoted_off demoted_order
            gone.gone.foremost);
        each = λ i. rw (← lost.gone.each i) (gone.gone.each i);
        same = kept_same records lines m bytes fewer;
        tracked_most = kept_tracked records lines m bytes fewer;
        lined_most = kept_lined records lines m bytes fewer;
        not_below = rw was at gone.not_below;
        covers = λ i inside went. omega (arith, (demoted_alike i).heat, gone.covers i (rw lost.same.records inside) went);
        no_higher = λ most above each.
            gone.no_higher most (rw was above)
            (λ i inside went. omega (arith, (demoted_alike i).heat, each i (rw lost.same.records at inside) went));
      }

freed_off_line : is_lined freed ≡ false
unfolding is_lined freed
freed_off_line = refl

gone_lineless : (r : Record) (loses : Bool) → (is_unlined r || loses) ≡ true → (is_lined r && not loses) ≡ false
unfolding is_unlined is_lined
gone_lineless r true e = and-false (is_lined r)
gone_lineless r false e = let one : r.state ≡ 1 = eqb-true r.state 1 (rw or-false at e) in rw one

-- ---- a record that is not dropped
module _ (m still : Memory) (records lines : ℕ) (k : Keeping m still records lines) where
  -- what holds of a free record, of one that has lost its line, and of one as it was, as it may be
  pub kept_all : (P : Record → Type 0) (i : ℕ) → (k.dropped i ≡ true → P freed) →
      (k.dropped i ≡ false → k.loses i ≡ true → P (unlined (places m i))) →
      (k.dropped i ≡ false → k.loses i ≡ false → P (places m i)) → P (places still i)
  kept_all P i free off as_was = go (k.dropped i) (k.loses i) refl refl
    where
      go : (d l : Bool) → k.dropped i ≡ d → k.loses i ≡ l → P (places still i)
      go true l d_is l_is = rw (k.each i, d_is) (free d_is)
      go false true d_is l_is = rw (k.each i, d_is, l_is) (off d_is l_is)
      go false false d_is l_is = rw (k.each i, d_is, l_is) (as_was d_is l_is)

  pub kept_tracks : (i : ℕ) → i < size m → is_tracked (places still i) ≡ (is_tracked (places m i) && not (k.dropped i))
  kept_tracks i below =
      kept_all (λ r. is_tracked r ≡ (is_tracked (places m i) && not (k.dropped i))) i
      (λ d. rw d (freed_untracked ∙ sym (and-false (is_tracked (places m i)))))
      (λ d l. rw (d, lined_tracked (places m i) (k.coldest.among i below l)) (unlined_tracked (places m i)))
      (λ d l. rw d (sym (and-true (is_tracked (places m i)))))

  -- who was on a line and is dropped has lost it before
  pub kept_has_line : (i : ℕ) → i < size m → is_lined (places still i) ≡ (is_lined (places m i) && not (k.loses i))
  kept_has_line i below =
      kept_all (λ r. is_lined r ≡ (is_lined (places m i) && not (k.loses i))) i
      (λ d. freed_off_line ∙ sym (gone_lineless (places m i) (k.loses i) (k.victims.among i below d)))
      (λ d l. rw l (off_line (places m i) ∙ sym (and-false (is_lined (places m i)))))
      (λ d l. rw l (sym (and-true (is_lined (places m i)))))

  pub kept_alike : (i : ℕ) → k.dropped i ≡ false → Alike (places m i) (places still i)
  kept_alike i stays =
      kept_all (Alike (places m i)) i (λ d. clash d stays) (λ d l. alike_unlined (places m i)) (λ d l. alike_itself (places m i))

  -- with its line, it is as it was
  pub kept_whole : (i : ℕ) → k.loses i ≡ false → k.dropped i ≡ false → places still i ≡ places m i
  kept_whole i keeps stays = rw (k.each i, stays, keeps)
