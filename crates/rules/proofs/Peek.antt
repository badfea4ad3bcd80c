-- A look, which is a read of weight 0 and of no other: that it is refused where cause 1 or 3 holds and nowhere else, leaves all as it
-- was, and answers hit where a show shows the line. Of every memory, in order or not. Assumes nothing.
use Prim.Native.Nat.{ℕ, ◌<◌, ◌%◌}
use mathlib.Core.Path.{◌≡◌, refl}
use mathlib.Core.Bool.{Bool, true, false, ◌&&◌}
use mathlib.Core.Option.{Option, none, some}
use native.Mathlib.Decide.{ℕ_discrete}
use native.Mathlib.Omega.{arith}
use borrow.Author.Tests.{ne_eqb}
use lib.Dec.{eqb}
use Rattle.rules.specs.declared.Record.{Record}
use Rattle.rules.specs.Answers.{Completion}
use Rattle.std.specs.Prelude.{Ok, Err}
use Rattle.rules.specs.Pass.{Found}
use Rattle.std.specs.Prelude.{Some, None}
use Rattle.rules.specs.declared.Lookup.TheVariants.{Unlined, Lined}
use Rattle.rules.specs.declared.Answer.TheVariants.{Passed, Hit, Wanted}
use Rattle.std.specs.Prelude.{if◌then◌else◌}
use Rattle.rules.specs.Answers.{Reply}
use Rattle.rules.specs.Table.{Memory, is_lined, is_filled, line_of, looked_up, lookup, key_record, places, size}
use Rattle.rules.specs.Steps.{Outcome, read_answer, warm_steps, peek_answer, peek_steps, read_steps, shown_line}
use Rattle.rules.specs.Calls.{verdict, serial_test, unless, leaving, plain_verdict, read_weight_good, read_verdict, read_outcome, show_line}
use Rattle.rules.specs.Replay.{Truth, warm_truth, read_truth}

-- | A read of weight 0 is now accepted.
-- where the sizes and the order are good
pub peek_verdict : (m : Memory) → read_verdict m 0 ≡ plain_verdict m
unfolding read_verdict read_weight_good serial_test plain_verdict verdict
peek_verdict m = refl

-- | Read of a key with weight w, .. 1 to 65,535
-- any such read takes document 01's steps, and counts in the replay
pub read_warms : (m : Memory) (key w : ℕ) → 0 < w → read_steps m key w ≡ warm_steps m key w
unfolding read_steps
read_warms m key w weighs = rw (ne_eqb w 0 (λ e. omega arith))

pub read_counts : (t : Truth) (key w : ℕ) → 0 < w → read_truth t key w ≡ warm_truth t key w
unfolding read_truth
read_counts t key w weighs = rw (ne_eqb w 0 (λ e. omega arith))

-- so a law of every read is one of looks and one of the others
pub read_either : (m : Memory) (key w : ℕ) (P : Outcome Reply Memory → Type 0) →
    (w ≡ 0 → P (peek_steps m key)) → (0 < w → P (warm_steps m key w)) → P (read_steps m key w)
unfolding read_steps
read_either m key w P look warm =
    elim (ℕ_discrete w 0) [
      | yes e ↦ rw e (look e)
      | no e ↦ let weighs : 0 < w = omega arith in rw (read_warms m key w weighs) (warm weighs)
    ]

-- | and changes nothing
pub peek_leaves : (m : Memory) (key : ℕ) → (read_outcome m key 0).after ≡ m
unfolding read_outcome read_steps peek_steps unless
peek_leaves m key = go (read_verdict m 0)
  where
    go : (v : Completion) → (unless v (leaving m) (peek_steps m key)).after ≡ m
    go (Ok u) = refl
    go (Err n) = refl

-- | an untracked key being passed
pub peek_untracked : (m : Memory) (key : ℕ) → plain_verdict m ≡ Ok tt → key_record key (places m) (size m) ≡ None →
    (read_outcome m key 0).answer ≡ Ok Passed
unfolding read_outcome read_steps peek_steps peek_answer unless
peek_untracked m key good missing = rw (peek_verdict m, good, missing)

-- ---- an answer is hit n exactly where line n is shown
abbrev Agree : ℕ → Reply → Option ℕ → Type 0
Agree n a shown = (a ≡ Ok (Hit n) → shown ≡ some n) × (shown ≡ some n → a ≡ Ok (Hit n))

not_shown : (n : ℕ) (a : Reply) → ¬ (a ≡ Ok (Hit n)) → Agree n a none
not_shown n a other = (λ e. absurd (other e), λ e. let z : ◌≡◌ {A = ℕ} 0 1 = cc in absurd (omega arith))

-- a tracked key
record_shows : (n i : ℕ) (r : Record) → Agree n (Ok (read_answer r)) (shown_line (looked_up (Some (i, r))))
unfolding read_answer looked_up shown_line is_filled
record_shows n i r = go (is_lined r) (eqb (r.state % 2) 1)
  where
    go : (lined odd : Bool) →
        Agree n (Ok (if lined && odd then Hit (line_of r) else if lined then Wanted (line_of r) r.ticket else Passed))
        (shown_line (if lined then Lined i (line_of r) (lined && odd) r.ticket else Unlined))
    go true true = (λ e. cc, λ e. cc)
    go true false = not_shown n _ (λ e. let z : ◌≡◌ {A = ℕ} 0 1 = cc in omega arith)
    go false odd = not_shown n _ (λ e. let z : ◌≡◌ {A = ℕ} 0 1 = cc in omega arith)

found_shows : (n : ℕ) (x : Found) → Agree n (Ok (peek_answer x)) (shown_line (looked_up x))
unfolding peek_answer looked_up shown_line
found_shows n None = not_shown n _ (λ e. let z : ◌≡◌ {A = ℕ} 0 1 = cc in omega arith)
found_shows n (Some (i, r)) = record_shows n i r

pub peek_shows : (m : Memory) (key n : ℕ) →
    ((read_outcome m key 0).answer ≡ Ok (Hit n) → show_line m key ≡ some n)
    × (show_line m key ≡ some n → (read_outcome m key 0).answer ≡ Ok (Hit n))
unfolding read_outcome read_steps peek_steps show_line lookup unless
peek_shows m key n = rw (peek_verdict m) (go (plain_verdict m))
  where
    go : (v : Completion) → Agree n (unless v (leaving m) (peek_steps m key)).answer (unless v (λ k. none) (shown_line (lookup (places m) (size m) key)))
    go (Ok u) = found_shows n (key_record key (places m) (size m))
    go (Err k) = not_shown n _ (λ e. let z : ◌≡◌ {A = ℕ} 0 1 = cc in omega arith)
