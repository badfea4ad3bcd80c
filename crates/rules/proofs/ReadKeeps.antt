-- Steps 1 to 4 of a read keep the invariant, but that the read class may wait for a line, and may be hotter than one on a line. Each
-- puts one record at one place: what that record must be is said once, and each shown to put such a record. Assumes nothing.
use Prim.Native.Nat.{ℕ, ◌+◌, ◌*◌, ◌≤◌, ◌<◌, max}
use mathlib.Core.Path.{◌≡◌, refl, sym, ◌∙◌}
use mathlib.Core.Bool.{Bool, true, false}
use mathlib.Core.Logic.{◌≢◌}
use native.Mathlib.Decide.{dec_le, ℕ_discrete}
use native.Mathlib.Omega.{arith}
use borrow.Author.Tests.{le-ltb, ne_eqb}
use Rattle.rules.specs.declared.Record.{Record}
use Rattle.rules.specs.declared.Gauge.{Gauge}
use Rattle.std.specs.Prelude.{if◌then◌else◌}
use Rattle.rules.specs.Table.{with_total, with_ceiling, heated, new_record, most_total, line_of, is_zero, is_free, is_lined, is_on, is_used}
use Rattle.rules.specs.Steps.{level}
use Rattle.rules.specs.Replay.{Truth, at, grown_truth}
use Rattle.rules.proofs.Searches.{any_none, none_any}
use Rattle.rules.proofs.Chosen.{where_more}
use Rattle.rules.proofs.Changes.{at_same, at_other, at_all}
use Rattle.rules.proofs.Invariant.{Tracks, Full, FullBut, Hottest, HottestBut}

-- the gauge after w pieces, with a ceiling
abbrev pub counted : Gauge → ℕ → ℕ → Gauge
counted g w ceiling = with_ceiling ceiling (with_total (g.total + w) g)

-- the level of a class heated by w rises by w at most
heated_level : (ceiling w : ℕ) (r : Record) → 0 < r.state → level ceiling (heated w r) ≤ level ceiling r + w
unfolding level is_free heated
heated_level ceiling w r tracked = rw (ne_eqb r.state 0 (omega arith)) (omega arith)

-- a level is no lower than the ceiling
new_level : (key ceiling w : ℕ) (r : Record) → level ceiling (new_record key ceiling w) ≤ level ceiling r + w
unfolding level new_record is_free
new_level key ceiling w r = omega arith

-- a level that a higher ceiling does not raise shows that the ceiling is no higher than the heat or the ceiling before
pub level_bounds : (ceiling before : ℕ) (r : Record) → level ceiling r ≤ level before r → ceiling ≤ max r.heat before
unfolding level
level_bounds ceiling before r = go (is_free r)
  where
    go : (b : Bool) → max (if b then 0 else r.heat) ceiling ≤ max (if b then 0 else r.heat) before → ceiling ≤ max r.heat before
    go true h = omega arith
    go false h = omega arith

module _ (f : ℕ → Record) (n c : ℕ) (i : ℕ) (inside : i < n) where
  -- ---- a record r comes to place i
  module _ (r : Record) where
    -- what holds of r, and of the other places, holds of each place
    each : (P : Record → Type 0) → P r → ((j : ℕ) → j < n → j ≢ i → P (f j)) → (j : ℕ) → j < n → P (at i r f j)
    each P here there j = at_all (λ j x. j < n → P x) i r f (λ _. here) j (λ d l. there j l d)

    -- what no two places share, and none of the others with r, no two share after
    still_apart : (counts : Record → Type 0) (value : Record → ℕ) →
        ((j k : ℕ) → j < n → k < n → counts (f j) → counts (f k) → value (f j) ≡ value (f k) → j ≡ k) →
        ((j : ℕ) → j < n → j ≢ i → counts r → counts (f j) → value (f j) ≢ value r) →
        (j k : ℕ) → j < n → k < n → counts (at i r f j) → counts (at i r f k) → value (at i r f j) ≡ value (at i r f k) → j ≡ k
    still_apart counts value apart new j k j-in k-in =
        elim (ℕ_discrete j i) [
          | yes p ↦ elim (ℕ_discrete k i) [
            | yes q ↦ λ _ _ _. p ∙ sym q
            | no q ↦ rw (p, at_same i r f, at_other i k r f q) (λ x y e. absurd (new k k-in q x y (sym e)))
          ]
          | no p ↦ elim (ℕ_discrete k i) [
            | yes q ↦ rw (q, at_same i r f, at_other i j r f p) (λ x y e. absurd (new j j-in p y x e))
            | no q ↦ rw (at_other i j r f p, at_other i k r f q) (apart j k j-in k-in)
          ]
        ]

    -- what r must be after w pieces more of its class
    record Counts (w ceiling : ℕ) (g : Gauge) (t : Truth) : Type 0 where
      tracked : 0 < r.state
      unlined_ticket : r.state ≤ 1 → r.ticket ≡ 0
      state_most : r.state ≤ 1 + 2 * c
      heat_most : r.heat ≤ g.total + w
      ceiling_most : ceiling ≤ g.total + w
      above : g.ceiling ≤ ceiling
      key_apart : (j : ℕ) → j < n → j ≢ i → 0 < (f j).state → (f j).key ≢ r.key
      line_apart : (j : ℕ) → j < n → j ≢ i → 1 < r.state → 1 < (f j).state → line_of (f j) ≢ line_of r
      not_below : t.heat r.key + w ≤ r.heat
      not_above : r.heat ≤ t.heat r.key + w + r.slack
      covers : (key : ℕ) → key ≢ r.key → 0 < (f i).state → (f i).key ≡ key → t.heat key ≤ ceiling
      level_here : level ceiling r ≤ level ceiling (f i) + w
      lower : (j : ℕ) → j < n → level ceiling (f j) ≤ level g.ceiling (f j)

    -- a class untracked after was untracked before, or had the record of place i
    count_untracked : (w ceiling : ℕ) (g : Gauge) (t : Truth) → Counts w ceiling g t → Tracks f n c g t →
        (key : ℕ) → ((j : ℕ) → j < n → 0 < (at i r f j).state → (at i r f j).key ≢ key) → (grown_truth t r.key w).heat key ≤ ceiling
    unfolding grown_truth
    count_untracked w ceiling g t h s key none =
        let other : key ≢ r.key = λ e. none i inside (rw (at_same i r f) h.tracked) (rw (at_same i r f) (sym e)) in
        rw (at_other r.key key _ t.heat other)
        (elim (dec_le (t.heat key) ceiling) [
          | yes l ↦ l
          | no over ↦ omega (
            arith,
            s.untracked key (λ j l tracked e. elim (ℕ_discrete j i) [
              | yes d ↦ over (h.covers key other (rw d at tracked) (rw d at e))
              | no d ↦ (rw (at_other i j r f d) at (none j l)) tracked e
            ]),
          )
        ])

    count_tracks : (w ceiling : ℕ) (g : Gauge) (t : Truth) → Counts w ceiling g t → g.total + w ≤ most_total →
        Tracks f n c g t → Tracks (at i r f) n c (counted g w ceiling) (grown_truth t r.key w)
    unfolding grown_truth
    count_tracks w ceiling g t h room s =
        record {
          total_most = room;
          ceiling_most = h.ceiling_most;
          heat_most = each (λ x. x.heat ≤ g.total + w) h.heat_most (λ j l d. omega (arith, s.heat_most j l));
          state_most = each (λ x. x.state ≤ 1 + 2 * c) h.state_most (λ j l d. s.state_most j l);
          free_zero = each (λ x. x.state ≡ 0 → is_zero x ≡ true) (λ e. absurd (omega arith)) (λ j l d. s.free_zero j l);
          unlined_ticket = each (λ x. x.state ≤ 1 → x.ticket ≡ 0) h.unlined_ticket (λ j l d. s.unlined_ticket j l);
          keys_apart = still_apart (λ x. 0 < x.state) (λ x. x.key) s.keys_apart (λ j l d _. h.key_apart j l d);
          lines_apart = still_apart (λ x. 1 < x.state) line_of s.lines_apart h.line_apart;
          not_below =
              each (λ x. 0 < x.state → at r.key (t.heat r.key + w) t.heat x.key ≤ x.heat)
              (λ _. rw at_same h.not_below)
              (λ j l d tracked. rw (at_other r.key (f j).key _ t.heat (h.key_apart j l d tracked)) (s.not_below j l tracked));
          not_above =
              each (λ x. 0 < x.state → x.heat ≤ at r.key (t.heat r.key + w) t.heat x.key + x.slack)
              (λ _. rw at_same h.not_above)
              (λ j l d tracked. rw (at_other r.key (f j).key _ t.heat (h.key_apart j l d tracked)) (s.not_above j l tracked));
          untracked = count_untracked w ceiling g t h s;
          few = s.few;
          levels = λ chosen many.
              omega (
                arith,
                where_more chosen (level ceiling) (level g.ceiling) (at i r f) f n i w
                    (λ j l d. rw (at_other i j r f d) (h.lower j l))
                    (rw (at_same i r f) (omega (arith, h.level_here, h.lower i inside))),
                s.levels chosen many,
              );
          total = cc;
        }

    -- r is on the line that was here, if any
    kept_full : ((line : ℕ) → is_on line r ≡ is_on line (f i)) → Full f n c → FullBut i (at i r f) n c
    unfolding is_used
    kept_full same h =
        let on : (line k : ℕ) → is_on line (at i r f k) ≡ is_on line (f k) =
        λ line k. at_all (λ k x. is_on line x ≡ is_on line (f k)) i r f (same line) k (λ _. refl) in
        record {
          none_waits = λ line below unused j l d.
              rw (at_other i j r f d)
              (h.none_waits line below
              (any_none (is_on line) f n (λ k m. rw (on line k) at (none_any (is_on line) (at i r f) n unused k m))) j l);
        }

    -- r is on a line only where the record here was, and is no colder
    kept_hottest : (1 < r.state → (1 < (f i).state) × ((f i).heat ≤ r.heat)) → Hottest f n → HottestBut i (at i r f) n
    kept_hottest hotter h =
        record {
          hottest = λ a b a_in b-in on off d.
              let off : (f b).state ≡ 1 = rw (at_other i b r f d) at off in
              rw (at_other i b r f d)
              (each (λ x. 1 < x.state → (f b).heat ≤ x.heat)
              (λ on. omega (arith, hotter on, h.hottest i b inside b-in (hotter on).0 off))
              (λ k k-in _ on. h.hottest k b k-in b-in on off)
              a a_in on);
        }

  -- ---- step 2: a tracked class is heated
  module _ (w : ℕ) (tracked : 0 < (f i).state) where
    pub heat_tracks : (g : Gauge) (t : Truth) → Tracks f n c g t → g.total + w ≤ most_total →
        Tracks (at i (heated w (f i)) f) n c (counted g w g.ceiling) (grown_truth t (f i).key w)
    unfolding heated line_of
    heat_tracks g t s room =
        count_tracks (heated w (f i)) w g.ceiling g t
        (record {
          tracked = tracked;
          unlined_ticket = s.unlined_ticket i inside;
          state_most = s.state_most i inside;
          heat_most = omega (arith, s.heat_most i inside);
          ceiling_most = omega arith;
          above = omega arith;
          key_apart = λ j l d on e. d (s.keys_apart j i l inside on tracked e);
          line_apart = λ j l d on-r on e. d (s.lines_apart j i l inside on on-r e);
          not_below = omega (arith, s.not_below i inside tracked);
          not_above = omega (arith, s.not_above i inside tracked);
          covers = λ key other _ e. absurd (other (sym e));
          level_here = heated_level g.ceiling w (f i) tracked;
          lower = λ j l. omega arith;
        })
        room s

    pub heat_full : Full f n c → FullBut i (at i (heated w (f i)) f) n c
    unfolding heated is_on is_lined line_of
    heat_full = kept_full (heated w (f i)) (λ line. refl)

    pub heat_hottest : Hottest f n → HottestBut i (at i (heated w (f i)) f) n
    unfolding heated
    heat_hottest = kept_hottest (heated w (f i)) (λ on. (on, omega arith))

  -- ---- steps 3 and 4: an untracked class gets the record of a place that has no line, with a ceiling that covers what was there
  -- and raises no level
  module _ (key ceiling w : ℕ) (unlined : (f i).state ≤ 1) where
    pub track_tracks : (g : Gauge) (t : Truth) → Tracks f n c g t → g.total + w ≤ most_total →
        ((j : ℕ) → j < n → 0 < (f j).state → (f j).key ≢ key) →
        g.ceiling ≤ ceiling → (f i).heat ≤ ceiling → ((j : ℕ) → j < n → level ceiling (f j) ≤ level g.ceiling (f j)) →
        Tracks (at i (new_record key ceiling w) f) n c (counted g w ceiling) (grown_truth t key w)
    unfolding new_record
    track_tracks g t s room untracked above covers lower =
        let most : ceiling ≤ g.total = omega (arith, level_bounds ceiling g.ceiling (f i) (lower i inside), s.heat_most i inside) in
        let cold : t.heat key ≤ g.ceiling = s.untracked key untracked in
        count_tracks (new_record key ceiling w) w ceiling g t
        (record {
          tracked = omega arith;
          unlined_ticket = λ _. refl;
          state_most = omega arith;
          heat_most = omega arith;
          ceiling_most = omega arith;
          above = above;
          key_apart = λ j l d on. untracked j l on;
          line_apart = λ j l d on. absurd (omega arith);
          not_below = omega arith;
          not_above = omega arith;
          covers = λ k _ on e. rw (← e) (omega (arith, s.not_below i inside on));
          level_here = new_level key ceiling w (f i);
          lower = lower;
        })
        room s

    pub track_full : Full f n c → FullBut i (at i (new_record key ceiling w) f) n c
    unfolding new_record is_on is_lined
    track_full = kept_full (new_record key ceiling w) (λ line. rw (le-ltb 1 (f i).state unlined))

    pub track_hottest : Hottest f n → HottestBut i (at i (new_record key ceiling w) f) n
    unfolding new_record
    track_hottest = kept_hottest (new_record key ceiling w) (λ on. absurd (omega arith))
