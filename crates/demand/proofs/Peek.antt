-- A look in a list: it leaves table, gauge and lines, by whomever they are lent, and counts for nothing in the replay. Assumes nothing.
use Prim.Native.Nat.{ℕ}
use mathlib.Core.Path.{◌≡◌, refl, ap}
use mathlib.Core.Bool.{Bool, true, false}
use Rattle.rules.specs.Calls.{read_outcome, HostMemory, held, stored}
use Rattle.rules.specs.Replay.{Truth, read_truth}
use Rattle.rules.proofs.Places.{gauge_kept}
use Rattle.rules.proofs.Peek.{peek_leaves}
use Rattle.rules.proofs.Refusals.{hosted_keeps, read_hosted_puts}
use Rattle.demand.specs.List.{read, call_outcome, host_made, Lent, rattle, host, made, HoldsBytes, ticket_put, heard, accepted_truth, heard_truth}

-- | and changes nothing
-- of table, gauge and lines
pub peek_leaves_lent : (key : ℕ) (lent : Lent) → HoldsBytes lent → (made (read key 0) lent).after ≡ ticket_put (made (read key 0) lent).answer lent
unfolding made host_made call_outcome ticket_put stored held
peek_leaves_lent key (rattle m) bytes = ap rattle (peek_leaves m key)
peek_leaves_lent key (host h) bytes =
    ap host
    (read_hosted_puts (λ m. read_outcome m key 0) h
    (hosted_keeps (λ m. read_outcome m key 0) h.memory (λ (s : HostMemory). s) (λ _. peek_leaves (held h.memory) key)
    (λ _. rw (gauge_kept h.memory.gauge bytes))))

-- | a look counts for nothing in the replay
pub peek_counts_nothing : (t : Truth) (key : ℕ) (refused : Bool) → heard_truth t (heard (read key 0) refused) ≡ t
unfolding heard_truth accepted_truth read_truth
peek_counts_nothing t key true = refl
peek_counts_nothing t key false = refl
