-- An accepted fill keeps what holds: the picture lies in the class's own line, which no other record names. Assumes nothing.
use Prim.Native.Nat.{ℕ, ◌≤◌, ◌<◌, ◌%◌}
use mathlib.Core.Path.{◌≡◌, refl, ◌∙◌}
use mathlib.Core.Bool.{Bool, true, false, ◌&&◌, true≢false}
use mathlib.Core.Logic.{◌≢◌}
use mathlib.Core.List.{List}
use native.Mathlib.Omega.{arith}
use borrow.Author.Tests.{ltb-true, eqb-true, eqb-false, ne_eqb}
use lib.ListN.{length}
use lib.Dec.{ltb, eqb}
use Rattle.rules.specs.declared.Record.{Record}
use Rattle.rules.specs.Pass.{Found}
use Rattle.std.specs.Prelude.{Some, None}
use Rattle.rules.specs.declared.Lookup.TheVariants.{Lined, Unlined}
use Rattle.rules.specs.Bytes.{line_size, line_count, line_at, put_line}
use Rattle.std.specs.Prelude.{if◌then◌else◌}
use Rattle.rules.specs.Table.{Memory, is_lined, is_filled, line_of, empty_state, filled_state, filled, key_record, looked_up, lookup, places, size, line_total, with_table, with_lines, write}
use Rattle.rules.specs.Answers.{is_refused}
use Rattle.rules.specs.Steps.{store_in, store, fill_steps}
use Rattle.rules.specs.Calls.{sizes_good}
use Rattle.rules.specs.Replay.{Truth, fill_truth}
use Rattle.rules.proofs.Places.{IsRecord, length-put_line}
use Rattle.rules.proofs.Finds.{IsAt, key_found}
use Rattle.rules.proofs.Invariant.{Holds}
use Rattle.rules.proofs.Memories.{places_write, size_write, sizes_write, bytes_write, shown_stored}
use Rattle.rules.proofs.FillKeeps.{fill_tracks, fill_shows, fill_full, fill_hottest}
use Rattle.rules.proofs.CallsHold.{at_is, with_state_is, lines_few}

-- the lines leave the table as it is
lined_places : (lines : List ℕ) (m : Memory) → places (with_lines lines m) ≡ places m
unfolding places with_lines
lined_places lines m = refl

lined_size : (lines : List ℕ) (m : Memory) → size (with_lines lines m) ≡ size m
unfolding size with_lines
lined_size lines m = refl

lined_total : (lines : List ℕ) (m : Memory) → line_total (with_lines lines m) ≡ line_count lines
unfolding line_total with_lines
lined_total lines m = refl

-- the picture in the class's line, and its record filled
module _ (m : Memory) (t : Truth) (stale : ℕ → ℕ) (picture : List ℕ) (whole : length picture ≡ line_size) (h : Holds m t stale) (i : ℕ)
    (inside : i < size m) (empty : (places m i).state ≡ empty_state (line_of (places m i))) where
  abbrev line : ℕ
  line = line_of (places m i)

  lined : 1 < (places m i).state
  unfolding empty_state
  lined = omega arith

  tracked : 0 < (places m i).state
  tracked = omega (arith, lined)

  line_there : line < line_count m.lines
  unfolding line_total line_of empty_state
  line_there = omega (arith, h.tracks.state_most i inside)

  filled_is : IsRecord (filled (places m i))
  unfolding filled filled_state line_total
  filled_is = with_state_is (places m i) _ (at_is m i h.bytes) (omega (arith, lines_few m h.sizes, line_there))

  lines_kept : line_count (put_line m.lines line picture) ≡ line_count m.lines
  unfolding line_count
  lines_kept = rw (length-put_line m.lines line picture line_there whole)

  sizes_kept : (table : List ℕ) → sizes_good table (put_line m.lines line picture) ≡ sizes_good table m.lines
  unfolding sizes_good
  sizes_kept table = rw (lines_kept, length-put_line m.lines line picture line_there whole)

  stored_holds :
      Holds (with_lines (put_line m.lines line picture) (write m i (filled (places m i))))
      (fill_truth t (places m i).key picture (places m i).ticket) stale
  unfolding with_lines write sizes_good with_table line_count line_total fill_truth
  stored_holds =
      let f = places m in
      let r : Record = filled (f i) in
      let ls = put_line m.lines line picture in
      record {
        sizes = sizes_kept (write m i r).table ∙ sizes_write m i r ∙ h.sizes;
        bytes = bytes_write m i r h.bytes;
        serial_fits = h.serial_fits;
        tracks =
            rw (lined_places ls (write m i r), lined_size ls (write m i r), lined_total ls (write m i r), places_write m i r inside filled_is, size_write m i r, lines_kept)
            (fill_tracks f (size m) (line_total m) i line inside empty m.gauge t picture (f i).ticket h.tracks);
        shows =
            rw (lined_places ls (write m i r), lined_size ls (write m i r), places_write m i r inside filled_is, size_write m i r, shown_stored m.lines line picture line_there whole)
            (fill_shows f (size m) (line_total m) i line inside empty m.gauge.serial (line_at m.lines) t.picture stale picture
            (λ j below on same. h.tracks.keys_apart j i below inside on tracked same)
            (λ j below on same. h.tracks.lines_apart j i below inside on lined same) h.shows);
        full =
            rw (lined_places ls (write m i r), lined_size ls (write m i r), lined_total ls (write m i r), places_write m i r inside filled_is, size_write m i r, lines_kept)
            (fill_full f (size m) (line_total m) i line inside empty h.full);
        hottest =
            rw (lined_places ls (write m i r), lined_size ls (write m i r), places_write m i r inside filled_is, size_write m i r)
            (fill_hottest f (size m) (line_total m) i line inside empty h.hottest);
      }

-- an even state over 1 is that of an empty line
even_empty : (r : Record) → 1 < r.state → r.state % 2 ≢ 1 → r.state ≡ empty_state (line_of r)
unfolding empty_state line_of
even_empty r lined even = omega arith

pub fill_holds : (m : Memory) (t : Truth) (stale : ℕ → ℕ) (key : ℕ) (picture : List ℕ) (ticket : ℕ) → Holds m t stale →
    length picture ≡ line_size → is_refused (fill_steps m key picture ticket).answer ≡ false →
    Holds (fill_steps m key picture ticket).after (fill_truth t key picture ticket) stale
unfolding fill_steps lookup looked_up store store_in is_refused is_filled is_lined
fill_holds m t stale key picture ticket h whole = found (key_record key (places m) (size m)) refl
  where
    found : (x : Found) → key_record key (places m) (size m) ≡ x → is_refused (store m picture ticket (looked_up x)).answer ≡ false →
        Holds (store m picture ticket (looked_up x)).after (fill_truth t key picture ticket) stale
    found None e = λ accepted. absurd (true≢false accepted)
    found (Some (i, r)) e = go (ltb 1 r.state) (eqb (r.state % 2) 1) (eqb ticket r.ticket) refl refl refl
      where
        at_i : IsAt (places m) (size m) i r (λ s. (0 < s.state) × (s.key ≡ key))
        at_i = key_found (places m) (size m) key i r e

        go : (lined full same : Bool) → ltb 1 r.state ≡ lined → eqb (r.state % 2) 1 ≡ full → eqb ticket r.ticket ≡ same →
            is_refused (store m picture ticket (if lined then Lined i (line_of r) (lined && full) r.ticket else Unlined)).answer ≡ false →
            Holds (store m picture ticket (if lined then Lined i (line_of r) (lined && full) r.ticket else Unlined)).after
            (fill_truth t key picture ticket) stale
        go false full same l u s accepted = absurd (true≢false accepted)
        go true true same l u s accepted = absurd (true≢false accepted)
        go true false false l u s accepted = absurd (true≢false (rw s at accepted))
        go true false true l u s accepted =
            let lined : 1 < r.state = ltb-true 1 r.state l in
            let even = eqb-false (r.state % 2) 1 u in
            rw (s, eqb-true ticket r.ticket s, at_i.is, ← at_i.has.1)
            (stored_holds m t stale picture whole h i at_i.inside
            (rw (← at_i.is) (even_empty r lined even)))

-- a fill that brings a stale ticket is refused
pub late_fill_refused : (m : Memory) (t : Truth) (stale : ℕ → ℕ) (key : ℕ) (picture : List ℕ) (ticket : ℕ) → Holds m t stale →
    ticket ≤ stale key → is_refused (fill_steps m key picture ticket).answer ≡ true
unfolding fill_steps lookup looked_up store store_in is_refused is_lined
late_fill_refused m t stale key picture ticket h late = found (key_record key (places m) (size m)) refl
  where
    found : (x : Found) → key_record key (places m) (size m) ≡ x → is_refused (store m picture ticket (looked_up x)).answer ≡ true
    found None e = refl
    found (Some (i, r)) e = go (ltb 1 r.state) (is_filled r) refl
      where
        go : (lined full : Bool) → ltb 1 r.state ≡ lined →
            is_refused (store m picture ticket (if lined then Lined i (line_of r) full r.ticket else Unlined)).answer ≡ true
        go false full l = refl
        go true true l = refl
        go true false l =
            let at_i = key_found (places m) (size m) key i r e in
            let later : stale key < r.ticket =
            rw (at_i.is, ← at_i.has.1) (h.shows.since i at_i.inside (rw (← at_i.is) (ltb-true 1 r.state l))) in
            rw (ne_eqb ticket r.ticket (λ same. omega arith))
