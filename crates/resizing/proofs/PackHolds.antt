-- Packing keeps the invariant: what is known of each record holds of it where it stands then, and of the free places nothing is asked.
-- The levels of a choice of packed records are those of the records before, and for the free ones chosen there are enough others.
-- Assumes nothing.
use Prim.Native.Nat.{ℕ, ◌+◌, ◌*◌, ◌≤◌, ◌<◌}
use mathlib.Core.Path.{◌≡◌, refl, sym, ◌∙◌, ap, subst}
use mathlib.Core.Bool.{Bool, true}
use mathlib.Core.Option.{Option, some}
use native.Mathlib.Decide.{dec_lt, ℕ_discrete}
use native.Mathlib.Omega.{arith}
use borrow.Author.Tests.{ltb-true, ne_eqb}
use Rattle.rules.specs.declared.Record.{Record}
use Rattle.rules.specs.declared.Gauge.{Gauge}
use Rattle.rules.specs.Bytes.{line_at}
use Rattle.rules.specs.Pass.{sum_where, count_where}
use Rattle.rules.specs.Table.{Memory, is_free, is_tracked, is_zero, line_of, filled_state, freed, places, size, line_total}
use Rattle.rules.specs.Steps.{level}
use Rattle.rules.specs.Calls.{sizes_good}
use Rattle.rules.specs.Replay.{Filled, filled_with, Truth}
use Rattle.rules.proofs.Chosen.{count_all, larger}
use Rattle.rules.proofs.Invariant.{Tracks, Shows, Hottest, Kept}
use Rattle.resizing.specs.Resize.{tracked_count, lined_count, place_of, line_for, moved, packed}
use Rattle.resizing.proofs.Counts.{either_more}
use Rattle.resizing.proofs.Levels.{by_tracked, level_least}
use Rattle.resizing.proofs.Packing.{moves, moves_line, Packs, packs, place_inside, line_inside, lines_differ, place_reached}
use Rattle.resizing.proofs.PackSums.{Came, came, comes, before, where_packed, count_packed}

-- nothing is said of who waits for a line
abbrev pub Anyhow : (ℕ → Record) → ℕ → ℕ → Type 0
Anyhow f n c = Unit {0}

moved_level : (ceiling n : ℕ) (r : Record) → is_tracked r ≡ true → level ceiling (moved n r) ≡ level ceiling r
unfolding level is_free is_tracked
moved_level ceiling n r tracked =
    let on : 0 < r.state = ltb-true 0 r.state tracked in
    rw (ne_eqb r.state 0 (omega arith), ne_eqb (moved n r).state 0 (omega (arith, (moves n r).stage)), (moves n r).heat) refl

module _ (m target : Memory) (p : Packs m target) (records_fit : tracked_count m ≤ size target) where
  -- a packed record that is free is all zero
  blank : (j : ℕ) → j < size target → (places (packed m target) j).state ≡ 0 → places (packed m target) j ≡ freed
  blank j inside free =
      elim (dec_lt j (tracked_count m)) [
        | yes l ↦
            let (i, below, tracked, is) = place_reached m j l in
            let c = comes m target p i j below tracked is in
            absurd (omega (arith, c.moves.stage, c.tracked))
        | no l ↦ p.free j (omega arith) inside
      ]

  -- what holds of a free record, and of each that was moved
  each : (Q : Record → Type 0) → Q freed → (j : ℕ) → j < size target → (Came m target p j → Q (places (packed m target) j)) →
      Q (places (packed m target) j)
  each Q none j inside there =
      elim (ℕ_discrete (places (packed m target) j).state 0) [
        | yes e ↦ rw (blank j inside e) none
        | no e ↦ there (came m target p j (omega arith))
      ]

  module _ (t : Truth) (s : Tracks (places m) (size m) (line_total m) m.gauge t) (few : t.fewest ≤ size target)
      (lines_fit : lined_count m ≤ line_total target) where
    levels : (chosen : ℕ → Bool) → count_where chosen (size target) ≡ t.fewest →
        sum_where chosen (level m.gauge.ceiling) (places (packed m target)) (size target) ≤ m.gauge.total
    levels =
        by_tracked (places (packed m target)) (size target) m.gauge.ceiling t.fewest m.gauge.total
        (λ chosen extra tracked many.
        let old = before m target p records_fit chosen in
        let as_many = count_packed m target p records_fit chosen tracked in
        let x = larger old (λ i. true) (level m.gauge.ceiling) (places m) m.gauge.ceiling (size m)
        (λ i inside among. level_least m.gauge.ceiling (places m i)) extra
        (omega (arith, count_all (size m), either_more old (size m) (λ i. true), s.few, as_many)) in
        omega (
          arith,
          where_packed m target p records_fit (level m.gauge.ceiling) (moved_level m.gauge.ceiling) chosen tracked,
          x.sum,
          s.levels x.choice (omega (arith, x.many, as_many)),
        ))

    state_fits : (j : ℕ) → Came m target p j → (places (packed m target) j).state ≤ 1 + 2 * line_total target
    state_fits j c =
        elim (dec_lt 1 (places m c.from).state) [
          | yes l ↦ omega (arith, c.moves.lined l, line_inside m c.from c.inside l)
          | no l ↦ omega (arith, c.moves.stage)
        ]

    pub packed_tracks : Tracks (places (packed m target)) (size target) (line_total target) m.gauge t
    unfolding is_zero freed
    packed_tracks =
        record {
          total_most = s.total_most;
          ceiling_most = s.ceiling_most;
          heat_most = λ j inside.
              each (λ r. r.heat ≤ m.gauge.total) (omega arith) j inside (λ c. rw c.moves.heat (s.heat_most c.from c.inside));
          state_most = λ j inside. each (λ r. r.state ≤ 1 + 2 * line_total target) (omega arith) j inside (state_fits j);
          free_zero = λ j inside free. rw (blank j inside free) refl;
          unlined_ticket = λ j inside.
              each (λ r. r.state ≤ 1 → r.ticket ≡ 0) (λ e. refl) j inside
              (λ c off. c.moves.ticket ∙ s.unlined_ticket c.from c.inside (omega (arith, c.moves.stage)));
          keys_apart = λ i j _ _ i-on j-on e.
              let a = came m target p i i-on in
              let b = came m target p j j-on in
              let same : a.from ≡ b.from =
              s.keys_apart a.from b.from a.inside b.inside a.tracked b.tracked (sym a.moves.key ∙ e ∙ b.moves.key) in
              a.place ∙ ap (place_of (places m)) same ∙ sym b.place;
          lines_apart = λ i j _ _ i-on j-on e.
              let a = came m target p i (omega arith) in
              let b = came m target p j (omega arith) in
              let a-lined : 1 < (places m a.from).state = omega (arith, a.moves.stage) in
              let b-lined : 1 < (places m b.from).state = omega (arith, b.moves.stage) in
              let same : a.from ≡ b.from =
              lines_differ m a.from b.from a-lined b-lined (sym (moves_line a.moves a-lined) ∙ e ∙ moves_line b.moves b-lined) in
              a.place ∙ ap (place_of (places m)) same ∙ sym b.place;
          not_below = λ j inside on.
              let c = came m target p j on in
              rw (c.moves.key, c.moves.heat) (s.not_below c.from c.inside c.tracked);
          not_above = λ j inside on.
              let c = came m target p j on in
              rw (c.moves.key, c.moves.heat, c.moves.slack) (s.not_above c.from c.inside c.tracked);
          untracked = λ key none.
              s.untracked key
              (λ i inside tracked e.
              let now = moves (line_for (places m) i) (places m i) in
              none (place_of (places m) i) (omega (arith, place_inside m i inside tracked))
              (rw (p.at i inside tracked) (omega (arith, now.stage))) (rw (p.at i inside tracked) (now.key ∙ e)));
          few = few;
          levels = levels;
          total = s.total;
        }

  module _ (serial : ℕ) (pictures : ℕ → Option Filled) (stale : ℕ → ℕ)
      (s : Shows (places m) (size m) serial (line_at m.lines) pictures stale) where
    shows_latest : (j line : ℕ) → Came m target p j → (places (packed m target) j).state ≡ filled_state line →
        pictures (places (packed m target) j).key
        ≡ some (filled_with (line_at (packed m target).lines line) (places (packed m target) j).ticket)
    unfolding filled_state line_of
    shows_latest j line c e =
        let lined : 1 < (places m c.from).state = omega (arith, c.moves.stage) in
        let there : line ≡ line_for (places m) c.from = omega (arith, c.moves.lined lined) in
        let was : (places m c.from).state ≡ filled_state (line_of (places m c.from)) = omega (arith, c.moves.lined lined) in
        rw (c.moves.key, c.moves.ticket, there, p.picture c.from c.inside lined) (s.latest c.from (line_of (places m c.from)) c.inside was)

    pub packed_shows : Shows (places (packed m target)) (size target) serial (line_at (packed m target).lines) pictures stale
    unfolding filled_state freed
    packed_shows =
        record {
          latest = λ j line inside e. shows_latest j line (came m target p j (omega arith)) e;
          ticket_most = λ j inside.
              each (λ r. r.ticket ≤ serial) (omega arith) j inside (λ c. rw c.moves.ticket (s.ticket_most c.from c.inside));
          since = λ j inside on.
              let c = came m target p j (omega arith) in
              rw (c.moves.key, c.moves.ticket) (s.since c.from c.inside (omega (arith, c.moves.stage)));
          stale_most = s.stale_most;
        }

  packed_hottest : Hottest (places m) (size m) → Hottest (places (packed m target)) (size target)
  packed_hottest h =
      record {
        hottest = λ i j _ _ i-on j-waits.
            let a = came m target p i (omega arith) in
            let b = came m target p j (omega arith) in
            rw (a.moves.heat, b.moves.heat)
            (h.hottest a.from b.from a.inside b.inside (omega (arith, a.moves.stage)) (omega (arith, b.moves.stage)));
      }

pub pack_holds : (m target : Memory) (t : Truth) (stale : ℕ → ℕ) → Kept Anyhow Hottest m t stale →
    sizes_good target.table target.lines ≡ true → tracked_count m ≤ size target → lined_count m ≤ line_total target →
    t.fewest ≤ size target → Kept Anyhow Hottest (packed m target) t stale
pack_holds m target t stale h good records_fit lines_fit few =
    let p : Packs m target = packs m target h.bytes h.sizes good h.tracks.state_most records_fit lines_fit in
    record {
      sizes = p.sizes ∙ good;
      bytes = p.bytes;
      serial_fits = rw p.gauge h.serial_fits;
      tracks = rw (p.size, p.lines)
          (subst (λ (g : Gauge). Tracks (places (packed m target)) (size target) (line_total target) g t) (sym p.gauge)
          (packed_tracks m target p records_fit t h.tracks few lines_fit));
      shows = rw p.size
          (subst (λ (g : Gauge). Shows (places (packed m target)) (size target) g.serial (line_at (packed m target).lines) t.picture stale)
          (sym p.gauge) (packed_shows m target p records_fit m.gauge.serial t.picture stale h.shows));
      full = tt;
      hottest = rw p.size (packed_hottest m target p records_fit h.hottest);
    }
