-- What fresh leaves: what holds of it and of an empty replay, since every record is zero; that fresh accepts every K and C of the
-- paper; and that a host's zeroed table and gauge hold the same. Assumes nothing.
use Prim.Native.Nat.{ℕ, ◌*◌, ◌/◌, ◌≤◌}
use mathlib.Core.Path.{◌≡◌, refl, ◌∙◌, ap}
use mathlib.Core.Bool.{Bool, true}
use mathlib.Core.List.{[], ◌∷◌}
use native.Mathlib.Omega.{arith}
use borrow.Author.Tests.{eq-eqb, le-leb, lt-ltb}
use lib.ListN.{length, replicate, length-replicate}
use Rattle.rules.specs.declared.Record.{Record}
use Rattle.rules.specs.Answers.{Completion}
use Rattle.std.specs.Prelude.{Ok, Err}
use Rattle.rules.specs.Bytes.{IsBytes, get64, record_size, record_count, line_size, line_at, line_count, gauge_size, gauge_at}
use Rattle.rules.specs.Pass.{sum_where}
use Rattle.rules.specs.Table.{Memory, is_free, is_zero, filled_state, places, size, line_total, fresh_gauge, fresh_memory}
use Rattle.rules.specs.Steps.{Outcome, outcome, level}
use Rattle.rules.specs.Calls.{most_records, sizes_good, sizes_test, OfSizes, verdict, unless, fresh_outcome, host_lent, held}
use Rattle.rules.specs.Replay.{unheard}
use Rattle.rules.proofs.Places.{record_zero, zero_bytes}
use Rattle.rules.proofs.Chosen.{where_most}
use Rattle.rules.proofs.Verdicts.{first_passes}
use Rattle.rules.proofs.Invariant.{Tracks, Shows, Holds}

module _ (m : Memory) where
  abbrev zero_record : Record
  zero_record = record { key = 0; heat = 0; slack = 0; state = 0; ticket = 0 }

  zero_at : (i : ℕ) → places (fresh_memory m) i ≡ zero_record
  unfolding places fresh_memory
  zero_at i = record_zero (length m.table) i

  zero_state : (i : ℕ) → (places (fresh_memory m) i).state ≡ 0
  zero_state i = ap (λ (r : Record). r.state) (zero_at i)

  zero_heat : (i : ℕ) → (places (fresh_memory m) i).heat ≡ 0
  zero_heat i = ap (λ (r : Record). r.heat) (zero_at i)

  zero_ticket : (i : ℕ) → (places (fresh_memory m) i).ticket ≡ 0
  zero_ticket i = ap (λ (r : Record). r.ticket) (zero_at i)

  zero_level : (i : ℕ) → level 0 (places (fresh_memory m) i) ≤ 0
  unfolding level is_free
  zero_level i = rw (zero_at i) (omega arith)

  zero_levels : (chosen : ℕ → Bool) (n : ℕ) → sum_where chosen (level 0) (places (fresh_memory m)) n ≤ 0
  zero_levels chosen n =
      let most = where_most chosen (level 0) (places (fresh_memory m)) n 0 (λ i _. zero_level i) in
      omega arith

  fresh_sizes : sizes_good (fresh_memory m).table (fresh_memory m).lines ≡ sizes_good m.table m.lines
  unfolding fresh_memory sizes_good record_count
  fresh_sizes = rw (length-replicate {A = ℕ} (length m.table) 0)

  fresh_size : size (fresh_memory m) ≡ size m
  unfolding fresh_memory size record_count
  fresh_size = rw (length-replicate {A = ℕ} (length m.table) 0)

  fresh_bytes : IsBytes (fresh_memory m).table
  unfolding fresh_memory
  fresh_bytes = zero_bytes (length m.table)

  fresh_tracks : Tracks (places (fresh_memory m)) (size (fresh_memory m)) (line_total (fresh_memory m)) (fresh_memory m).gauge
      (unheard (size m))
  unfolding fresh_memory fresh_gauge unheard is_zero
  fresh_tracks =
      record {
        total_most = omega arith;
        ceiling_most = omega arith;
        heat_most = λ i _. omega (arith, zero_heat i);
        state_most = λ i _. omega (arith, zero_state i);
        free_zero = λ i _ _. rw (zero_at i) refl;
        unlined_ticket = λ i _ _. zero_ticket i;
        keys_apart = λ i j _ _ tracked. absurd (omega (arith, zero_state i));
        lines_apart = λ i j _ _ lined. absurd (omega (arith, zero_state i));
        not_below = λ i _ tracked. absurd (omega (arith, zero_state i));
        not_above = λ i _ tracked. absurd (omega (arith, zero_state i));
        untracked = λ key _. omega arith;
        few = rw fresh_size (omega arith);
        levels = λ chosen _. zero_levels chosen (size (fresh_memory m));
        total = refl;
      }

  fresh_shows : Shows (places (fresh_memory m)) (size (fresh_memory m)) (fresh_memory m).gauge.serial (line_at (fresh_memory m).lines)
      (unheard (size m)).picture (λ key. 0)
  unfolding fresh_memory fresh_gauge filled_state
  fresh_shows =
      record {
        latest = λ i line _ e. absurd (omega (arith, zero_state i));
        ticket_most = λ i _. omega (arith, zero_ticket i);
        since = λ i _ lined. absurd (omega (arith, zero_state i));
        stale_most = λ key. omega arith;
      }

  fresh_kept : sizes_good m.table m.lines ≡ true → Holds (fresh_memory m) (unheard (size m)) (λ key. 0)
  unfolding fresh_memory fresh_gauge
  fresh_kept good =
      record {
        sizes = fresh_sizes ∙ good;
        bytes = fresh_bytes;
        serial_fits = omega arith;
        tracks = fresh_tracks;
        shows = fresh_shows;
        full = record { none_waits = λ line _ _ j _. omega (arith, zero_state j) };
        hottest = record { hottest = λ i j _ _ lined. absurd (omega (arith, zero_state i)) };
      }

  pub fresh_holds : (fresh_outcome m).answer ≡ Ok tt → Holds (fresh_outcome m).after (unheard (size m)) (λ key. 0)
  unfolding fresh_outcome sizes_test unless
  fresh_holds done = go (verdict (sizes_test m ∷ [])) refl done
    where
      go : (v : Completion) → verdict (sizes_test m ∷ []) ≡ v →
          (unless {Given = Outcome Completion Memory} v (λ n. outcome (Err n) m) (outcome (Ok tt) (fresh_memory m))).answer ≡ Ok tt →
          Holds (unless {Given = Outcome Completion Memory} v (λ n. outcome (Err n) m) (outcome (Ok tt) (fresh_memory m))).after (unheard (size m)) (λ key. 0)
      go (Ok u) e d = fresh_kept (first_passes _ _ e).0
      go (Err n) e d = let z : ◌≡◌ {A = ℕ} 0 1 = cc in absurd (omega arith)

  -- | [The serial] is 0 in a fresh table
  pub fresh_serial : (fresh_outcome m).answer ≡ Ok tt → (fresh_outcome m).after.gauge.serial ≡ 0
  unfolding fresh_outcome unless fresh_memory fresh_gauge
  fresh_serial done = go (verdict (sizes_test m ∷ [])) done
    where
      go : (v : Completion) → (unless {Given = Outcome Completion Memory} v (λ n. outcome (Err n) m) (outcome (Ok tt) (fresh_memory m))).answer ≡ Ok tt →
          (unless {Given = Outcome Completion Memory} v (λ n. outcome (Err n) m) (outcome (Ok tt) (fresh_memory m))).after.gauge.serial ≡ 0
      go (Ok u) d = refl
      go (Err n) d = let z : ◌≡◌ {A = ℕ} 0 1 = cc in absurd (omega arith)

  -- ---- every K and C of the paper
  module _ (k c : ℕ) (sized : OfSizes m k c) where
    fresh_sized : sizes_good m.table m.lines ≡ true
    unfolding sizes_good record_count line_count
    fresh_sized =
        let records : record_size * k / record_size ≡ k = omega arith in
        let lines : line_size * c / line_size ≡ c = omega arith in
        rw (
          sized.table,
          sized.lines,
          records,
          lines,
          eq-eqb (record_size * k) (record_size * k) refl,
          le-leb 1 k sized.some_record,
          le-leb k most_records sized.records_few,
          eq-eqb (line_size * c) (line_size * c) refl,
        )
        (lt-ltb c k sized.lines_fewer)

    pub size_of : size m ≡ k
    unfolding size record_count
    size_of = rw sized.table (omega arith)

    pub fresh_accepts : (fresh_outcome m).answer ≡ Ok tt
    unfolding fresh_outcome sizes_test verdict unless
    fresh_accepts = rw fresh_sized

    -- a host that sets table and gauge to zero holds what fresh leaves
    pub zeroed_is_fresh : held (host_lent (replicate (record_size * k) 0) (replicate gauge_size 0) m.lines) ≡ (fresh_outcome m).after
    unfolding held gauge_at get64 fresh_outcome sizes_test verdict unless fresh_memory fresh_gauge
    zeroed_is_fresh = rw (fresh_sized, sized.table)
