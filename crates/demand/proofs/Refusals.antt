-- A refused call leaves every byte and number that it was lent, and its number alone tells that it was refused: any call, by a Rattle
-- caller or by a C host, the lengths of its gauge and of a ticket's bytes included. By the laws of each call. Assumes nothing.
use Prim.Native.Nat.{ℕ, ◌≤◌, ◌<◌}
use mathlib.Core.Path.{◌≡◌, refl, sym, ◌∙◌, ap}
use mathlib.Core.Bool.{true, false, false≢true, and-false}
use mathlib.Core.List.{List}
use Rattle.rules.specs.Table.{Memory}
use borrow.Author.Tests.{lt-ltb, le-leb}
use lib.Dec.{leb}
use lib.ListN.{length}
use Rattle.std.specs.Prelude.{Ok, Err}
use Rattle.rules.specs.Answers.{Completion, is_refused, number_of, completion_number}
use Rattle.rules.specs.Refusals.{number}
use Rattle.rules.specs.Bytes.{IsBytes, gauge_size}
use Rattle.rules.specs.Steps.{Outcome}
use Rattle.rules.specs.Calls.{unless, HostMemory, HostRead, read_lent, held, stored, read_outcome, update_outcome, fill_outcome, age_outcome, withdraw_outcome}
use Rattle.rules.proofs.Places.{gauge_kept}
use Rattle.rules.proofs.Refusals.{read_leaves, update_leaves, fill_leaves, age_leaves, withdraw_leaves, hosted_leaves, read_hosted_leaves, every_told, number_few, number_some}
use Rattle.resizing.specs.Resize.{resize_outcome, hosted_resize}
use Rattle.demand.specs.List.{read, update, fill, age, withdraw, resize, Call, Replied, answered, completed, was_refused, number_told, moving, call_outcome, host_made, Lent, rattle, host, made, HoldsBytes, ToldApart}

-- ---- a Rattle caller's
-- (what a resize copies into is left by `resize_leaves`)
pub moving_leaves : {Lent : Type 0} (source : Lent) (o : Outcome Completion Lent) → was_refused (moving source o).answer ≡ true →
    (moving source o).after ≡ source
unfolding unless
moving_leaves source o = go o.answer
  where
    go : (c : Completion) → unless c (λ cause. true) false ≡ true → unless c (λ cause. source) o.after ≡ source
    go (Ok u) e = absurd (false≢true e)
    go (Err cause) e = refl

pub refused_leaves_all : (c : Call) (m : Memory) → was_refused (call_outcome c m).answer ≡ true → (call_outcome c m).after ≡ m
unfolding call_outcome
refused_leaves_all (read key w) m = read_leaves m key w
refused_leaves_all (update key w) m = update_leaves m key w
refused_leaves_all (fill key picture ticket) m = fill_leaves m key picture ticket
refused_leaves_all age m = age_leaves m
refused_leaves_all (withdraw key) m = withdraw_leaves m key
refused_leaves_all (resize target) m = moving_leaves m (resize_outcome m (held target))

-- ---- a C host's
-- what is seen of its memory stays, if putting the gauge back as it was read leaves it, and so do a ticket's bytes
pub host_leaves : {A : Type 0} (seen : HostMemory → A) (c : Call) (h : HostRead) →
    (length h.memory.gauge ≡ gauge_size → seen (stored h.memory (held h.memory)) ≡ seen h.memory) →
    was_refused (host_made c h).answer ≡ true →
    (seen (host_made c h).after.memory ≡ seen h.memory) × ((host_made c h).after.ticket ≡ h.ticket)
unfolding host_made
host_leaves seen (read key w) h put e =
    read_hosted_leaves (λ m. read_outcome m key w) h seen (read_leaves (held h.memory) key w) put e
host_leaves seen (update key w) h put e =
    (hosted_leaves (λ m. update_outcome m key w) h.memory seen (update_leaves (held h.memory) key w) put e, refl)
host_leaves seen (fill key picture ticket) h put e =
    (hosted_leaves (λ m. fill_outcome m key picture ticket) h.memory seen (fill_leaves (held h.memory) key picture ticket) put e, refl)
host_leaves seen age h put e = (hosted_leaves age_outcome h.memory seen (age_leaves (held h.memory)) put e, refl)
host_leaves seen (withdraw key) h put e =
    (hosted_leaves (λ m. withdraw_outcome m key) h.memory seen (withdraw_leaves (held h.memory) key) put e, refl)
host_leaves seen (resize target) h put e = (ap seen (moving_leaves h.memory (hosted_resize h.memory target) e), refl)

-- ---- anybody's
pub refused_leaves_lent : (c : Call) (lent : Lent) → HoldsBytes lent → was_refused (made c lent).answer ≡ true → (made c lent).after ≡ lent
unfolding made stored held
refused_leaves_lent c (rattle m) bytes e = ap rattle (refused_leaves_all c m e)
refused_leaves_lent c (host h) bytes e =
    let (memory, ticket) = host_leaves (λ (s : HostMemory). s) c h (λ _. rw (gauge_kept h.memory.gauge bytes)) e in
    ap (λ (m : HostMemory). host (read_lent m (host_made c h).after.ticket)) memory ∙ ap (λ (t : List ℕ). host (read_lent h.memory t)) ticket

-- ---- told by number
told_apart : (a : Replied) → ToldApart a
unfolding number_told completion_number number_of unless is_refused
told_apart (answered (Ok a)) = rw (every_told (Ok a)) (and-false (leb 1 (number_of (Ok a))))
told_apart (answered (Err cause)) = rw (le-leb 1 (number cause) (number_some cause), lt-ltb (number cause) 100 (number_few cause)) refl
told_apart (completed (Ok u)) = refl
told_apart (completed (Err cause)) = rw (le-leb 1 (number cause) (number_some cause), lt-ltb (number cause) 100 (number_few cause)) refl

pub told_by_number : (c : Call) (lent : Lent) → ToldApart (made c lent).answer
told_by_number c lent = told_apart (made c lent).answer

-- a host that is told a number from 1 to 99 finds all that it lent as it was (of a resize, its source; the rest: `hosted_resize_leaves`)
pub small_number_leaves : (c : Call) (h : HostRead) → IsBytes h.memory.gauge → 1 ≤ number_told (host_made c h).answer →
    number_told (host_made c h).answer < 100 → (host_made c h).after ≡ h
unfolding made
small_number_leaves c h bytes some small =
    let told = told_by_number c (host h) in
    ap host_of
    (refused_leaves_lent c (host h) bytes
    (sym told ∙ rw (le-leb 1 (number_told (host_made c h).answer) some) (lt-ltb (number_told (host_made c h).answer) 100 small)))
  where
    host_of : Lent → HostRead
    host_of (host g) = g
    host_of (rattle m) = h
