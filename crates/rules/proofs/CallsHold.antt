-- Each accepted call keeps what holds of a memory and the replay. Assumes nothing.
use Prim.Native.Nat.{ℕ, ◌+◌, ◌≤◌, ◌<◌, ◌^◌}
use mathlib.Core.Path.{◌≡◌, refl, ◌∙◌, ap}
use mathlib.Core.Bool.{Bool, true, false}
use mathlib.Core.Logic.{◌≢◌}
use native.Mathlib.Decide.{ℕ_discrete}
use native.Mathlib.Omega.{arith}
use borrow.Author.Tests.{ltb-true, ltb-false}
use lib.Dec.{ltb}
use Rattle.rules.specs.declared.Record.{Record}
use Rattle.rules.specs.Pass.{Found}
use Rattle.std.specs.Prelude.{Some, None}
use Rattle.rules.specs.Bytes.{IsBytes, line_at}
use Rattle.std.specs.Prelude.{if◌then◌else◌}
use Rattle.rules.specs.Table.{Memory, is_lined, line_of, empty_state, filled_state, with_state, with_ticket, with_serial, unlined, on_empty_line, lowest_unused, is_used, coldest_lined, hottest_unlined, hotter, places, size, line_total, with_table, with_gauge, write}
use Rattle.rules.specs.Steps.{aged_gauge, aged, next_ticket, ticketed, renew, give_line, hand_on, hand_over, replace_coldest, promote, admit, demote_for, demote}
use Rattle.rules.specs.Calls.{serial_limit, sizes_good}
use Rattle.rules.specs.Replay.{Truth, at, age_truth, make_stale}
use Rattle.rules.proofs.Places.{IsRecord, record_at_is}
use Rattle.rules.proofs.Searches.{clash, lowest_fails, lowest_before}
use Rattle.rules.proofs.Finds.{IsAt, coldest_found, coldest_missing, hottest_found, hottest_missing}
use Rattle.rules.proofs.Invariant.{Tracks, Shows, Full, Hottest, Kept, Holds, HoldsBut, HoldsOver}
use Rattle.rules.proofs.Changes.{at_same, at_other, at_all}
use Rattle.rules.proofs.Shown.{put_shows, stale_shows}
use Rattle.rules.proofs.SameLines.{SameLine, same_line_itself, same_lines_full}
use Rattle.rules.proofs.Memories.{places_write, size_write, sizes_write, bytes_write, sizes_say, places_aged, size_aged, sizes_aged, bytes_aged}
use Rattle.rules.proofs.AgeKeeps.{age_tracks, age_shows, age_full, age_hottest}
use Rattle.rules.proofs.LineKeeps.{renew_tracks, give_tracks, give_full, give_hottest, all_used, handed, Off, unlined_off, unlined_tracks, hand_tracks, hand_full, take_hottest, demote_hottest}

-- ---- age
pub age_holds : (m : Memory) (t : Truth) (stale : ℕ → ℕ) → Holds m t stale → Holds (aged m) (age_truth t) stale
unfolding aged aged_gauge with_gauge with_table line_total age_truth
age_holds m t stale h =
    let f = places_aged m h.bytes in
    record {
      sizes = rw (sizes_aged m) h.sizes;
      bytes = bytes_aged m h.bytes;
      serial_fits = h.serial_fits;
      tracks = rw (size_aged m) (age_tracks (places m) (places (aged m)) (size m) (line_total m) f m.gauge t h.tracks);
      shows =
          rw (size_aged m)
          (age_shows (places m) (places (aged m)) (size m) (line_total m) f m.gauge.serial (line_at m.lines) t.picture stale
          h.shows);
      full = rw (size_aged m) (age_full (places m) (places (aged m)) (size m) (line_total m) f h.full);
      hottest = rw (size_aged m) (age_hottest (places m) (places (aged m)) (size m) (line_total m) f h.hottest);
    }

-- ---- a record is written
module _ (Waiting : (ℕ → Record) → ℕ → ℕ → Type 0) (Hot : (ℕ → Record) → ℕ → Type 0) where
  pub write_kept : (m : Memory) (t : Truth) (stale : ℕ → ℕ) (i : ℕ) (r : Record) → sizes_good m.table m.lines ≡ true →
      IsBytes m.table → m.gauge.serial < 2 ^ 64 → i < size m → IsRecord r →
      Tracks (at i r (places m)) (size m) (line_total m) m.gauge t →
      Shows (at i r (places m)) (size m) m.gauge.serial (line_at m.lines) t.picture stale →
      Waiting (at i r (places m)) (size m) (line_total m) → Hot (at i r (places m)) (size m) → Kept Waiting Hot (write m i r) t stale
  unfolding write with_table line_total
  write_kept m t stale i r sizes bytes fits inside is tracks shows full hottest =
      record {
        sizes = rw (sizes_write m i r) sizes;
        bytes = bytes_write m i r bytes;
        serial_fits = fits;
        tracks = rw (places_write m i r inside is, size_write m i r) tracks;
        shows = rw (places_write m i r inside is, size_write m i r) shows;
        full = rw (places_write m i r inside is, size_write m i r) full;
        hottest = rw (places_write m i r inside is, size_write m i r) hottest;
      }

-- states and tickets of 64 bits
pub with_state_is : (r : Record) (s : ℕ) → IsRecord r → s < 2 ^ 64 → IsRecord (with_state s r)
with_state_is r s is fits = record { key = is.key; heat = is.heat; slack = is.slack; state = fits; ticket = is.ticket }

with_ticket_is : (r : Record) (t : ℕ) → IsRecord r → t < 2 ^ 64 → IsRecord (with_ticket t r)
with_ticket_is r t is fits = record { key = is.key; heat = is.heat; slack = is.slack; state = is.state; ticket = fits }

pub at_is : (m : Memory) (i : ℕ) → IsBytes m.table → IsRecord (places m i)
unfolding places
at_is m i bytes = record_at_is m.table i bytes

pub on_line_is : (r : Record) (line ticket : ℕ) → IsRecord r → line < 1024 → ticket < 2 ^ 64 → IsRecord (on_empty_line line ticket r)
unfolding on_empty_line empty_state
on_line_is r line ticket is few fits = with_ticket_is _ ticket (with_state_is r _ is (omega arith)) fits

pub unlined_is : (r : Record) → IsRecord r → IsRecord (unlined r)
unfolding unlined
unlined_is r is = with_ticket_is _ 0 (with_state_is r 1 is (omega arith)) (omega arith)

pub lines_few : (m : Memory) → sizes_good m.table m.lines ≡ true → line_total m < 1024
unfolding line_total
lines_few m e = omega (arith, sizes_say m.table m.lines e)

-- ---- a ticket is given
-- the next ticket is no class's yet
module _ (m : Memory) (t : Truth) (stale : ℕ → ℕ) (few : m.gauge.serial < serial_limit) where
  next_fits : next_ticket m < 2 ^ 64
  unfolding next_ticket
  next_fits = omega arith

  next_over : m.gauge.serial ≤ next_ticket m
  unfolding next_ticket
  next_over = omega arith

  -- a record without a picture gets it
  next_shows : (f : ℕ → Record) (i : ℕ) (r : Record) → ((line : ℕ) → r.state ≢ filled_state line) → r.ticket ≡ next_ticket m →
      Shows f (size m) m.gauge.serial (line_at m.lines) t.picture stale →
      Shows (at i r f) (size m) (next_ticket m) (line_at m.lines) t.picture stale
  unfolding next_ticket
  next_shows f i r unfilled given s =
      put_shows f (size m) m.gauge.serial (line_at m.lines) t.picture stale s i (m.gauge.serial + 1) r (omega arith)
      (λ line e. absurd (unfilled line e)) (omega arith) (λ _. omega (arith, s.stale_most r.key))

  -- ---- an unused line is given
  give_holds : (i line : ℕ) → HoldsBut i m t stale → i < size m → (places m i).state ≡ 1 → line < line_total m →
      is_used (places m) (size m) line ≡ false → Holds (give_line m i line) t stale
  unfolding give_line ticketed with_gauge places size line_total on_empty_line empty_state filled_state
  give_holds i line h inside waits below unused =
      let low : line < 1024 = omega (arith, lines_few m h.sizes) in
      let f = places m in
      let n = size m in
      let c = line_total m in
      let r = on_empty_line line (next_ticket m) (f i) in
      write_kept Full Hottest (ticketed m) t stale i r h.sizes h.bytes next_fits inside
      (on_line_is (f i) line (next_ticket m) (at_is m i h.bytes) low next_fits)
      (give_tracks f n c i line (next_ticket m) inside waits below unused m.gauge t h.tracks)
      (next_shows f i r (λ other e. omega arith) refl h.shows)
      (give_full f n c i line (next_ticket m) inside waits below unused h.full)
      (give_hottest f n c i line (next_ticket m) inside waits below unused h.full)

  -- ---- a class keeps its line, which is empty
  renew_kept : (i : ℕ) → HoldsOver i m t stale → i < size m → 1 < (places m i).state →
      ((line : ℕ) → (places m i).state ≢ filled_state line) →
      Full (at i (with_ticket (next_ticket m) (places m i)) (places m)) (size m) (line_total m) →
      Hottest (at i (with_ticket (next_ticket m) (places m i)) (places m)) (size m) → Holds (renew m i) t stale
  unfolding renew ticketed with_gauge places size line_total
  renew_kept i h inside lined unfilled full hottest =
      let f = places m in
      let r = with_ticket (next_ticket m) (f i) in
      write_kept Full Hottest (ticketed m) t stale i r h.sizes h.bytes next_fits inside
      (with_ticket_is (f i) (next_ticket m) (at_is m i h.bytes) next_fits)
      (renew_tracks f (size m) (line_total m) i (next_ticket m) inside lined m.gauge t h.tracks)
      (next_shows f i r unfilled refl h.shows)
      full hottest

  -- ---- a line is handed on
  module _ (a b : ℕ) (left : Record) (off : Off left) (is : IsRecord left) (bytes : IsBytes m.table) (a-inside : a < size m)
      (b-inside : b < size m) (lined : 1 < (places m a).state) (waits : (places m b).state ≡ 1) (low : line_of (places m a) < 1024) where
    apart : b ≢ a
    apart e = let same : (places m a).state ≡ 1 = rw (← e) waits in omega arith

    pub places_hand : places (hand_on m a left b) ≡ handed (places m) (next_ticket m) a left b
    unfolding hand_on give_line ticketed next_ticket with_gauge write with_table places size
    places_hand =
        let m' = write m a left in
        let e : places m' ≡ at a left (places m) = places_write m a left a-inside is in
        let same : places m' b ≡ places m b = ap (λ (f : ℕ → Record). f b) e ∙ at_other a b left (places m) apart in
        let inside : b < size m' = rw (size_write m a left) b-inside in
        let line = line_of (places m a) in
        places_write (ticketed m') b (on_empty_line line (next_ticket m) (places m' b)) inside
        (on_line_is (places m' b) line (next_ticket m) (at_is m' b (bytes_write m a left bytes)) low next_fits)
        ∙ ap (λ (q : Record). at b (on_empty_line line (next_ticket m) q) (places m')) same
        ∙ ap (at b (on_empty_line line (next_ticket m) (places m b))) e

    pub size_hand : size (hand_on m a left b) ≡ size m
    unfolding hand_on give_line ticketed with_gauge size
    size_hand = size_write _ b _ ∙ size_write m a _

    hand_sizes : sizes_good (hand_on m a left b).table (hand_on m a left b).lines ≡ sizes_good m.table m.lines
    unfolding hand_on give_line ticketed with_gauge
    hand_sizes = sizes_write _ b _ ∙ sizes_write m a _

    hand_bytes : IsBytes (hand_on m a left b).table
    unfolding hand_on give_line ticketed with_gauge
    hand_bytes = bytes_write _ b _ (bytes_write m a _ bytes)

    hand_total : line_total (hand_on m a left b) ≡ line_total m
    unfolding hand_on give_line ticketed with_gauge write with_table line_total
    hand_total = refl

    hand_gauge : (hand_on m a left b).gauge ≡ with_serial (next_ticket m) m.gauge
    unfolding hand_on give_line ticketed next_ticket with_gauge write with_table
    hand_gauge = refl

    hand_lines : (hand_on m a left b).lines ≡ m.lines
    unfolding hand_on give_line ticketed with_gauge write with_table
    hand_lines = refl

    hand_shows : Shows (places m) (size m) m.gauge.serial (line_at m.lines) t.picture stale →
        Shows (handed (places m) (next_ticket m) a left b) (size m) (next_ticket m) (line_at m.lines) t.picture stale
    unfolding on_empty_line empty_state filled_state
    hand_shows s =
        next_shows (at a left (places m)) b (on_empty_line (line_of (places m a)) (next_ticket m) (places m b))
        (λ line e. omega arith) refl
        (put_shows (places m) (size m) m.gauge.serial (line_at m.lines) t.picture stale s a m.gauge.serial left (omega arith)
        (λ line e. absurd (omega (arith, off.state))) (omega (arith, off.ticket)) (λ l. absurd (omega (arith, off.state))))

    pub hand_kept : sizes_good m.table m.lines ≡ true → (was : Truth) → Tracks (places m) (size m) (line_total m) m.gauge was →
        Tracks (at a left (places m)) (size m) (line_total m) m.gauge t →
        Shows (places m) (size m) m.gauge.serial (line_at m.lines) t.picture stale →
        Full (handed (places m) (next_ticket m) a left b) (size m) (line_total m) →
        Hottest (handed (places m) (next_ticket m) a left b) (size m) → Holds (hand_on m a left b) t stale
    hand_kept sizes was before without shows full hottest =
        record {
          sizes = hand_sizes ∙ sizes;
          bytes = hand_bytes;
          serial_fits = rw hand_gauge next_fits;
          tracks =
              rw (places_hand, size_hand, hand_total, hand_gauge)
              (hand_tracks (places m) (size m) (next_ticket m) a b left off a-inside b-inside lined waits (line_total m) m.gauge t was
              before without);
          shows = rw (places_hand, size_hand, hand_gauge, hand_lines) (hand_shows shows);
          full = rw (places_hand, size_hand, hand_total) full;
          hottest = rw (places_hand, size_hand) hottest;
        }

  -- the record that gives it stays tracked
  hand_over_kept : (a b : ℕ) → sizes_good m.table m.lines ≡ true → IsBytes m.table → a < size m → b < size m →
      1 < (places m a).state → (places m b).state ≡ 1 → line_of (places m a) < 1024 →
      Tracks (places m) (size m) (line_total m) m.gauge t →
      Shows (places m) (size m) m.gauge.serial (line_at m.lines) t.picture stale →
      Full (handed (places m) (next_ticket m) a (unlined (places m a)) b) (size m) (line_total m) →
      Hottest (handed (places m) (next_ticket m) a (unlined (places m a)) b) (size m) → Holds (hand_over m a b) t stale
  unfolding hand_over
  hand_over_kept a b sizes bytes a-inside b-inside lined waits low tracks =
      hand_kept a b (unlined (places m a)) (unlined_off (places m a)) (unlined_is (places m a) (at_is m a bytes)) bytes a-inside b-inside
      lined waits low sizes t tracks
      (unlined_tracks (places m) (size m) (line_total m) a a-inside lined m.gauge t tracks)

-- ---- step 5
pub line_few : (m : Memory) (t : Truth) (i : ℕ) → sizes_good m.table m.lines ≡ true →
    Tracks (places m) (size m) (line_total m) m.gauge t → i < size m → line_of (places m i) < 1024
unfolding line_of
line_few m t i sizes tracks inside = omega (arith, tracks.state_most i inside, lines_few m sizes)

-- where every line is used
replace_holds : (m : Memory) (t : Truth) (stale : ℕ → ℕ) (i : ℕ) → m.gauge.serial < serial_limit → HoldsBut i m t stale → i < size m → (places m i).state ≡ 1 →
    ((line : ℕ) → line < line_total m → is_used (places m) (size m) line ≡ true) →
    (x : Found) → coldest_lined (places m) (size m) ≡ x → Holds (replace_coldest m i x) t stale
unfolding replace_coldest hotter
replace_holds m t stale i few h inside waits used None e =
    let low = coldest_missing (places m) (size m) e in
    record {
      sizes = h.sizes;
      bytes = h.bytes;
      serial_fits = h.serial_fits;
      tracks = h.tracks;
      shows = h.shows;
      full = record { none_waits = λ line below unused j j-inside. clash (used line below) unused };
      hottest = record { hottest = λ a b a-inside b-inside lined b-waits. absurd (omega (arith, low a a-inside)) };
    }
replace_holds m t stale i few h inside waits used (Some (j, r)) e = go (ltb r.heat (places m i).heat) refl
  where
    found : IsAt (places m) (size m) j r (λ s. (1 < s.state) × ((k : ℕ) → k < size m → 1 < (places m k).state → s.heat ≤ (places m k).heat))
    found = coldest_found (places m) (size m) j r e

    lined : 1 < (places m j).state
    lined = found.has.0

    cooler : r.heat ≡ (places m j).heat
    cooler = ap (λ (s : Record). s.heat) found.is

    go : (b : Bool) → ltb r.heat (places m i).heat ≡ b → Holds (if b then hand_over m j i else m) t stale
    go true hot =
        let f = places m in
        let n = size m in
        let hotter : (f j).heat < (f i).heat = omega (arith, ltb-true r.heat (f i).heat hot, cooler) in
        hand_over_kept m t stale few j i h.sizes h.bytes found.inside inside lined waits
        (line_few m t j h.sizes h.tracks found.inside) h.tracks h.shows
        (hand_full f n (next_ticket m) j i (unlined (f j)) (unlined_off (f j)) found.inside inside lined waits (line_total m) used)
        (take_hottest f n (next_ticket m) j i found.inside inside lined waits hotter h.hottest found.has.1)
    go false cold =
        record {
          sizes = h.sizes;
          bytes = h.bytes;
          serial_fits = h.serial_fits;
          tracks = h.tracks;
          shows = h.shows;
          full = record { none_waits = λ line below unused k k-inside. clash (used line below) unused };
          hottest =
              record {
                hottest =
                    λ a b a-inside b-inside a-lined b-waits.
                    elim (ℕ_discrete b i) [
                      | yes same ↦
                          rw same
                          (omega (arith, found.has.1 a a-inside a-lined, ltb-false r.heat (places m i).heat cold, cooler))
                      | no other ↦ h.hottest.hottest a b a-inside b-inside a-lined b-waits other
                    ];
              };
        }

pub admit_holds : (m : Memory) (t : Truth) (stale : ℕ → ℕ) (i : ℕ) → m.gauge.serial < serial_limit → HoldsBut i m t stale → i < size m →
    0 < (places m i).state → Holds (admit m i) t stale
unfolding admit promote is_lined lowest_unused
admit_holds m t stale i few h inside tracked = go (ltb 1 (places m i).state) refl
  where
    -- the lowest line that is not used
    line : ℕ
    line = lowest_unused (places m) (size m) (line_total m)

    waiting : (places m i).state ≡ 1 → (b : Bool) → ltb line (line_total m) ≡ b →
        Holds (if b then give_line m i line else replace_coldest m i (coldest_lined (places m) (size m))) t stale
    waiting waits true e =
        let below : line < line_total m = ltb-true line (line_total m) e in
        give_holds m t stale few i line h inside waits below (lowest_fails (is_used (places m) (size m)) (line_total m) below)
    waiting waits false e =
        let all : line_total m ≤ line = ltb-false line (line_total m) e in
        replace_holds m t stale i few h inside waits
        (λ k below. lowest_before (is_used (places m) (size m)) (line_total m) k (omega arith))
        (coldest_lined (places m) (size m)) refl

    go : (b : Bool) → ltb 1 (places m i).state ≡ b → Holds (if b then m else promote m i line) t stale
    go true e =
        let lined : 1 < (places m i).state = ltb-true 1 (places m i).state e in
        let other : (j : ℕ) → (places m j).state ≡ 1 → j ≢ i = λ j waits same. absurd (omega (arith, rw same at waits)) in
        record {
          sizes = h.sizes;
          bytes = h.bytes;
          serial_fits = h.serial_fits;
          tracks = h.tracks;
          shows = h.shows;
          full = record { none_waits = λ k below unused j j-inside waits. h.full.none_waits k below unused j j-inside (other j waits) waits };
          hottest =
              record {
                hottest = λ a b a-inside b-inside a-lined b-waits. h.hottest.hottest a b a-inside b-inside a-lined b-waits (other b b-waits);
              };
        }
    go false e = waiting (omega (arith, ltb-false 1 (places m i).state e)) (ltb line (line_total m)) refl

-- ---- the end of an update
-- no record without a line is hotter than the one at i, so that it keeps its line
module _ (m : Memory) (t : Truth) (stale : ℕ → ℕ) (i : ℕ) (h : HoldsOver i m t stale) (inside : i < size m)
    (hot : (j : ℕ) → j < size m → (places m j).state ≡ 1 → 1 < (places m i).state → (places m j).heat ≤ (places m i).heat) where
  hot_everywhere : Hottest (places m) (size m)
  hot_everywhere =
      record {
        hottest =
            λ a b a-inside b-inside a-lined b-waits.
            elim (ℕ_discrete a i) [
              | yes same ↦ rw same (hot b b-inside b-waits (rw same at a-lined))
              | no other ↦ h.hottest.hottest a b a-inside b-inside a-lined b-waits other
            ];
      }

  stays : Holds m t stale
  stays =
      record {
        sizes = h.sizes;
        bytes = h.bytes;
        serial_fits = h.serial_fits;
        tracks = h.tracks;
        shows = h.shows;
        full = h.full;
        hottest = hot_everywhere;
      }

  renew_holds : m.gauge.serial < serial_limit → 1 < (places m i).state → ((line : ℕ) → (places m i).state ≢ filled_state line) →
      Holds (renew m i) t stale
  unfolding line_of
  renew_holds few lined unfilled =
      let f = places m in
      let f' = at i (with_ticket (next_ticket m) (f i)) f in
      let same : (j : ℕ) → ((f' j).state ≡ (f j).state) × ((f' j).heat ≡ (f j).heat) =
      λ j. at_all (λ j r. (r.state ≡ (f j).state) × (r.heat ≡ (f j).heat)) i _ f (refl, refl) j (λ _. (refl, refl)) in
      renew_kept m t stale few i h inside lined unfilled
      (same_lines_full f f' (size m) (line_total m)
      (λ j _. at_all (λ j r. SameLine r (f j)) i _ f (record { stage = refl; line = refl }) j (λ _. same_line_itself (f j))) h.full)
      (record {
        hottest = λ a b a-inside b-inside a-lined b-waits.
            omega (
              arith,
              same a,
              same b,
              hot_everywhere.hottest a b a-inside b-inside (omega (arith, same a)) (omega (arith, same b)),
            );
      })

-- the tickets up to the serial that an update found become stale for its class, which is off the lines or has got a later one
staled : (m : Memory) (t : Truth) (stale : ℕ → ℕ) (i found : ℕ) (r : Record) → places m i ≡ r → 0 < r.state →
    (1 < r.state → found < r.ticket) → i < size m → found ≤ m.gauge.serial → Holds m t stale →
    Holds m t (make_stale stale r.key found)
staled m t stale i found r is tracked later inside most h =
    record {
      sizes = h.sizes;
      bytes = h.bytes;
      serial_fits = h.serial_fits;
      tracks = h.tracks;
      shows =
          stale_shows (places m) (size m) m.gauge.serial (line_at m.lines) t.picture stale h.shows r.key found most
          (λ j j-inside lined e.
          let same : j ≡ i = h.tracks.keys_apart j i j-inside inside (omega arith) (rw is tracked) (rw is e) in
          rw (same, is) (later (rw (same, is) at lined)));
      full = h.full;
      hottest = h.hottest;
    }

-- or it is not in the table
pub staled_missing : (m : Memory) (t : Truth) (stale : ℕ → ℕ) (key found : ℕ) → found ≤ m.gauge.serial →
    ((j : ℕ) → j < size m → 0 < (places m j).state → (places m j).key ≢ key) → Holds m t stale → Holds m t (make_stale stale key found)
staled_missing m t stale key found most missing h =
    record {
      sizes = h.sizes;
      bytes = h.bytes;
      serial_fits = h.serial_fits;
      tracks = h.tracks;
      shows =
          stale_shows (places m) (size m) m.gauge.serial (line_at m.lines) t.picture stale h.shows key found most
          (λ j inside lined e. absurd (missing j inside (omega arith) e));
      full = h.full;
      hottest = h.hottest;
    }

module _ (m : Memory) (t : Truth) (stale : ℕ → ℕ) (i : ℕ) (few : m.gauge.serial < serial_limit) (h : HoldsOver i m t stale)
    (inside : i < size m) (tracked : 0 < (places m i).state) (unfilled : (line : ℕ) → (places m i).state ≢ filled_state line) where
  abbrev stale_after : ℕ → ℕ
  stale_after = make_stale stale (places m i).key m.gauge.serial

  -- it keeps its line
  keeps : 1 < (places m i).state → ((j : ℕ) → j < size m → (places m j).state ≡ 1 → (places m j).heat ≤ (places m i).heat) →
      Holds (renew m i) t stale_after
  unfolding renew ticketed next_ticket with_gauge write with_table places size
  keeps lined hot =
      let r = with_ticket (next_ticket m) (places m i) in
      let is : places (renew m i) ≡ at i r (places m) =
      places_write (ticketed m) i r inside (with_ticket_is (places m i) (next_ticket m) (at_is m i h.bytes) (next_fits m t stale few)) in
      staled (renew m i) t stale i m.gauge.serial r (ap (λ (f : ℕ → Record). f i) is ∙ at_same i r (places m))
      tracked (λ _. omega arith) (rw (size_write (ticketed m) i r) inside) (omega arith)
      (renew_holds m t stale i h inside (λ j j-inside waits _. hot j j-inside waits) few lined unfilled)

  -- a hotter one takes its line
  yields : 1 < (places m i).state → (j : ℕ) → j < size m → (places m j).state ≡ 1 →
      ((k : ℕ) → k < size m → (places m k).state ≡ 1 → (places m k).heat ≤ (places m j).heat) →
      (places m i).heat < (places m j).heat → Holds (hand_over m i j) t stale_after
  unfolding hand_over unlined
  yields lined j j-inside waits hottest hotter =
      let f = places m in
      let n = size m in
      let ticket = next_ticket m in
      let low = line_few m t i h.sizes h.tracks inside in
      let left = unlined (f i) in
      let off = unlined_off (f i) in
      let is = unlined_is (f i) (at_is m i h.bytes) in
      let other : i ≢ j = λ e. omega (arith, rw e at lined) in
      staled (hand_over m i j) t stale i m.gauge.serial (unlined (f i))
      (ap (λ (g : ℕ → Record). g i) (places_hand m t stale few i j left off is h.bytes inside j-inside lined waits low)
      ∙ at_other j i _ _ other ∙ at_same i (unlined (f i)) f)
      (omega arith) (λ l. absurd (omega arith))
      (rw (size_hand m t stale few i j left off is h.bytes inside j-inside lined waits low) inside)
      (rw (hand_gauge m t stale few i j left off is h.bytes inside j-inside lined waits low) (next_over m t stale few))
      (hand_over_kept m t stale few i j h.sizes h.bytes inside j-inside lined waits low h.tracks h.shows
      (hand_full f n ticket i j left off inside j-inside lined waits (line_total m) (all_used f n (line_total m) h.full j j-inside waits))
      (demote_hottest f n ticket i j inside j-inside lined waits hotter h.hottest hottest))

  demote_for_holds : 1 < (places m i).state → (x : Found) → hottest_unlined (places m) (size m) ≡ x → Holds (demote_for m i x) t stale_after
  unfolding demote_for hotter
  demote_for_holds lined None e =
      keeps lined (λ j j-inside waits. absurd (hottest_missing (places m) (size m) e j j-inside waits))
  demote_for_holds lined (Some (j, r)) e = go (ltb (places m i).heat r.heat) refl
    where
      found : IsAt (places m) (size m) j r (λ s. (s.state ≡ 1) × ((k : ℕ) → k < size m → (places m k).state ≡ 1 → (places m k).heat ≤ s.heat))
      found = hottest_found (places m) (size m) j r e

      warmer : r.heat ≡ (places m j).heat
      warmer = ap (λ (s : Record). s.heat) found.is

      go : (b : Bool) → ltb (places m i).heat r.heat ≡ b → Holds (if b then hand_over m i j else renew m i) t stale_after
      go true hot =
          yields lined j found.inside found.has.0 found.has.1 (omega (arith, ltb-true (places m i).heat r.heat hot, warmer))
      go false cold =
          keeps lined
          (λ k k-inside waits. omega (arith, found.has.1 k k-inside waits, ltb-false (places m i).heat r.heat cold, warmer))

  pub demote_holds : Holds (demote m i) t stale_after
  unfolding demote is_lined
  demote_holds = go (ltb 1 (places m i).state) refl
    where
      go : (b : Bool) → ltb 1 (places m i).state ≡ b →
          Holds (if b then demote_for m i (hottest_unlined (places m) (size m)) else m) t stale_after
      go true e = demote_for_holds (ltb-true 1 (places m i).state e) (hottest_unlined (places m) (size m)) refl
      go false e =
          let low : (places m i).state ≤ 1 = ltb-false 1 (places m i).state e in
          staled m t stale i m.gauge.serial (places m i) refl tracked (λ lined. absurd (omega arith)) inside (omega arith)
          (stays m t stale i h inside (λ j j-inside waits lined. absurd (omega arith)))
