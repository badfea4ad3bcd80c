-- Pictures and tickets: what becomes of the lines' pictures, and of the tickets that are not stale, where records come to places, a
-- class's picture is forgotten or filled, and its tickets become stale. Assumes nothing.
use Prim.Native.Nat.{ℕ, ◌≤◌, ◌<◌}
use mathlib.Core.Path.{◌≡◌, sym, ◌∙◌}
use mathlib.Core.List.{List}
use mathlib.Core.Logic.{◌≢◌}
use mathlib.Core.Option.{Option, none, some}
use native.Mathlib.Decide.{ℕ_discrete}
use native.Mathlib.Omega.{arith}
use Rattle.rules.specs.declared.Record.{Record}
use Rattle.rules.specs.Table.{filled_state}
use Rattle.rules.specs.Replay.{Filled, filled_with, at, make_stale}
use Rattle.rules.proofs.Changes.{at_same, at_other, at_all}
use Rattle.rules.proofs.Invariant.{Shows}

-- the same class on the same line, empty or filled alike, with the same ticket
pub record SameShow (r s : Record) : Type 0 where
  pub key : r.key ≡ s.key
  pub state : r.state ≡ s.state
  pub ticket : r.ticket ≡ s.ticket

module _ (f : ℕ → Record) (n serial : ℕ) (shown : ℕ → List ℕ) (pictures : ℕ → Option Filled) (stale : ℕ → ℕ)
    (s : Shows f n serial shown pictures stale) where
  pub same_shows : (f' : ℕ → Record) → ((i : ℕ) → i < n → SameShow (f' i) (f i)) → Shows f' n serial shown pictures stale
  same_shows f' same =
      record {
        latest = λ i line h e. rw ((same i h).key, (same i h).ticket) (s.latest i line h (sym (same i h).state ∙ e));
        ticket_most = λ i h. omega (arith, (same i h).ticket, s.ticket_most i h);
        since = λ i h lined. rw ((same i h).key, (same i h).ticket) (s.since i h (omega (arith, (same i h).state)));
        stale_most = s.stale_most;
      }

  -- a record comes to place i: it shows the latest picture of its class, and has a ticket that was given and is not stale
  pub put_shows : (i serial' : ℕ) (r : Record) → serial ≤ serial' →
      ((line : ℕ) → r.state ≡ filled_state line → pictures r.key ≡ some (filled_with (shown line) r.ticket)) →
      r.ticket ≤ serial' → (1 < r.state → stale r.key < r.ticket) → Shows (at i r f) n serial' shown pictures stale
  put_shows i serial' r more latest given since =
      record {
        latest = λ j line h.
            at_all (λ j x. x.state ≡ filled_state line → pictures x.key ≡ some (filled_with (shown line) x.ticket)) i r f
            (latest line) j (λ other. s.latest j line h);
        ticket_most = λ j h. at_all (λ j x. x.ticket ≤ serial') i r f given j (λ other. omega (arith, s.ticket_most j h));
        since = λ j h. at_all (λ j x. 1 < x.state → stale x.key < x.ticket) i r f since j (λ other. s.since j h);
        stale_most = λ key. omega (arith, s.stale_most key);
      }

  -- a class that is on no filled line is forgotten
  pub forget_shows : (key : ℕ) → ((i line : ℕ) → i < n → (f i).state ≡ filled_state line → (f i).key ≢ key) →
      Shows f n serial shown (at key none pictures) stale
  forget_shows key unfilled =
      record {
        latest = λ i line h e. rw (at_other key (f i).key none pictures (unfilled i line h e)) (s.latest i line h e);
        ticket_most = s.ticket_most;
        since = s.since;
        stale_most = s.stale_most;
      }

  -- tickets become stale for a class that is on no line, or waits with a later one
  pub stale_shows : (key found : ℕ) → found ≤ serial →
      ((i : ℕ) → i < n → 1 < (f i).state → (f i).key ≡ key → found < (f i).ticket) →
      Shows f n serial shown pictures (make_stale stale key found)
  unfolding make_stale
  stale_shows key found most later =
      record {
        latest = s.latest;
        ticket_most = s.ticket_most;
        since = λ i h lined.
            elim (ℕ_discrete (f i).key key) [
              | yes e ↦ rw (e, at_same key found stale) (later i h lined e)
              | no e ↦ rw (at_other key (f i).key found stale e) (s.since i h lined)
            ];
        stale_most = λ k. at_all (λ k x. x ≤ serial) key found stale most k (λ other. s.stale_most k);
      }

  -- the line of a class shows a picture, and no other class is on that line
  pub store_shows : (key line ticket : ℕ) (picture : List ℕ) →
      ((i k : ℕ) → i < n → (f i).state ≡ filled_state k → (f i).key ≢ key) →
      ((i : ℕ) → i < n → (f i).state ≢ filled_state line) →
      Shows f n serial (at line picture shown) (at key (some (filled_with picture ticket)) pictures) stale
  store_shows key line ticket picture unfilled off =
      record {
        latest = λ i k h e.
            let other_line : k ≢ line = λ same. off i h (rw same at e) in
            rw (at_other key (f i).key _ pictures (unfilled i k h e), at_other line k picture shown other_line) (s.latest i k h e);
        ticket_most = s.ticket_most;
        since = s.since;
        stale_most = s.stale_most;
      }
