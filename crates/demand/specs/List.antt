-- The list of demand 3: its calls, what they are lent, how one follows another, what the replay makes of them, and which tickets they
-- leave stale.
use Rattle.std.specs.Prelude.{ℕ, ◌<◌, ◌^◌, ◌≡◌, List, [], ◌∷◌, Bool, true, false, ◌&&◌, ◌||◌, ltb, leb, eqb, if◌then◌else◌}
use Rattle.rules.specs.Answers.{Reply, Completion, is_refused, number_of, completion_number}
use Rattle.rules.specs.Table.{Memory, size}
use Rattle.rules.specs.Steps.{Outcome, outcome}
use Rattle.rules.specs.Bytes.{IsBytes}
use Rattle.rules.specs.Calls.{unless, HostMemory, held, hosted, HostRead, read_lent, put_ticket, hosted_read, age_outcome, read_outcome, update_outcome, fill_outcome, withdraw_outcome}
use Rattle.rules.specs.Replay.{Truth, age_truth, read_truth, update_truth, fill_truth, withdraw_truth, make_stale}
use Rattle.resizing.specs.Resize.{resize_truth, resize_outcome, hosted_resize}

-- ---- a call
-- with all that it is given besides the memory; a read of weight 0 is a look, and a resize is given what it copies into
pub data CallOf (Target : Type 0) : Type 0 where
  read : (key weight : ℕ) → CallOf Target
  update : (key weight : ℕ) → CallOf Target
  fill : (key : ℕ) (picture : List ℕ) (ticket : ℕ) → CallOf Target
  age : CallOf Target
  withdraw : (key : ℕ) → CallOf Target
  resize : (target : Target) → CallOf Target

abbrev pub Call : Type 0
Call = CallOf HostMemory

-- what a call says: an answer, or of a resize that it is done, or why it is refused
pub data Replied : Type 0 where
  answered : Reply → Replied
  completed : Completion → Replied

abbrev pub was_refused : Replied → Bool
was_refused (answered a) = is_refused a
was_refused (completed c) = unless c (λ cause. true) false

-- the number that a host is told
unfoldable pub number_told : Replied → ℕ
number_told (answered a) = number_of a
number_told (completed c) = completion_number c

-- A refusal's number is below 100, and no other call's answer is; done, 0 for a host, is no refusal's.
abbrev pub ToldApart : Replied → Type 0
ToldApart a = (leb 1 (number_told a) && ltb (number_told a) 100) ≡ was_refused a

abbrev pub answering : {Lent : Type 0} → Outcome Reply Lent → Outcome Replied Lent
answering o = outcome (answered o.answer) o.after

-- | every later accepted call lends the target in the source's place (document 02)
-- So the list goes on from the target that an accepted resize leaves, and from the source of a refused one.
abbrev pub moving : {Lent : Type 0} → Lent → Outcome Completion Lent → Outcome Replied Lent
moving source o = outcome (completed o.answer) (unless o.answer (λ cause. source) o.after)

-- (A Rattle caller's target gauge is what the bytes hold.)
unfoldable pub call_outcome : Call → Memory → Outcome Replied Memory
call_outcome (read key w) m = answering (read_outcome m key w)
call_outcome (update key w) m = answering (update_outcome m key w)
call_outcome (fill key picture ticket) m = answering (fill_outcome m key picture ticket)
call_outcome age m = answering (age_outcome m)
call_outcome (withdraw key) m = answering (withdraw_outcome m key)
call_outcome (resize target) m = moving m (resize_outcome m (held target))

-- (an aging and a resize have none)
unfoldable pub key_of : Call → ℕ
key_of (read key w) = key
key_of (update key w) = key
key_of (fill key picture ticket) = key
key_of age = 0
key_of (withdraw key) = key
key_of (resize target) = 0

-- ---- what it is lent: by a Rattle caller, or by a C host, whose gauge is bytes, and who lends a read bytes for a ticket
pub data Lent : Type 0 where
  rattle : Memory → Lent
  host : HostRead → Lent

unfoldable pub memory_of : Lent → Memory
memory_of (rattle m) = m
memory_of (host h) = held h.memory

-- no other call is lent a ticket's bytes
abbrev pub hosted_else : HostRead → Outcome Replied HostMemory → Outcome Replied HostRead
hosted_else h o = outcome o.answer (read_lent o.after h.ticket)

unfoldable pub host_made : Call → HostRead → Outcome Replied HostRead
host_made (read key w) h = answering (hosted_read (λ m. read_outcome m key w) h)
host_made (update key w) h = hosted_else h (answering (hosted (λ m. update_outcome m key w) h.memory))
host_made (fill key picture ticket) h = hosted_else h (answering (hosted (λ m. fill_outcome m key picture ticket) h.memory))
host_made age h = hosted_else h (answering (hosted age_outcome h.memory))
host_made (withdraw key) h = hosted_else h (answering (hosted (λ m. withdraw_outcome m key) h.memory))
host_made (resize target) h = hosted_else h (moving h.memory (hosted_resize h.memory target))

unfoldable pub made : Call → Lent → Outcome Replied Lent
made c (rattle m) = outcome (call_outcome c m).answer (rattle (call_outcome c m).after)
made c (host h) = outcome (host_made c h).answer (host (host_made c h).after)

-- what a resize leaves of what it copies into, of the list's memory or not
unfoldable pub target_left : HostMemory → Lent → Memory
target_left target (rattle m) = (resize_outcome m (held target)).after
target_left target (host h) = held (hosted_resize h.memory target).after

-- what a host lends for a gauge is bytes
abbrev pub HoldsBytes : Lent → Type 0
HoldsBytes (rattle m) = Unit {0}
HoldsBytes (host h) = IsBytes h.memory.gauge

-- the bytes that a host lends for a ticket get that of a wanted; nothing else changes
unfoldable pub ticket_put : Replied → Lent → Lent
ticket_put a (rattle m) = rattle m
ticket_put (answered a) (host h) = host (read_lent h.memory (put_ticket h.ticket a))
ticket_put (completed c) (host h) = host h

-- ---- the list
-- | The replay is fed each call's kind, key, weight and picture, and whether it was refused.
-- And a fill's ticket, which document 02 makes part of the picture; and of a resize the new K alone.
abbrev pub Fed : Type 0
Fed = CallOf ℕ

unfoldable pub fed_by : Call → Fed
fed_by (read key w) = read key w
fed_by (update key w) = update key w
fed_by (fill key picture ticket) = fill key picture ticket
fed_by age = age
fed_by (withdraw key) = withdraw key
fed_by (resize target) = resize (size (held target))

pub record Heard : Type 0 where
  pub call : Fed
  pub refused : Bool

abbrev pub heard : Fed → Bool → Heard
heard c was-refused = record { call = c; refused = was-refused }

-- what happened: what the replay is fed, and what it is not: the serial as the call came
pub record Event : Type 0 where
  pub heard : Heard
  pub serial : ℕ

abbrev pub happened : Fed → Bool → ℕ → Event
happened c was-refused serial = record { heard = heard c was-refused; serial = serial }

abbrev pub event : Call → Bool → Memory → Event
event c was-refused m = happened (fed_by c) was-refused m.gauge.serial

unfoldable pub told : List Event → List Heard
told [] = []
told (e ∷ es) = e.heard ∷ told es

-- | Calls come one after another. Each accepted one is lent that same table, gauge and lines, .. as the start or the call before
-- | left them. .. A refused call may be lent anything.
-- | A class has a 64-bit unsigned key.
-- Follows m es end: from m, calls of which es are the events leave end. Accepted or refused is what the call's outcome says. Nothing
-- but its key's size is assumed of a call.
pub data Follows : Memory → List Event → Memory → Type 0 where
  nothing : {m : Memory} → Follows m [] m
  -- lent the list's own memory, refused or accepted: the list goes on from what the call left (of an accepted resize, in its target)
  own : {m end : Memory} {es : List Event} (c : Call) (lent : Lent) → memory_of lent ≡ m → key_of c < 2 ^ 64 →
      Follows (memory_of (made c lent).after) es end → Follows m (event c (was_refused (made c lent).answer) m ∷ es) end
  -- a resize of anything into the list's own memory, refused: the list goes on from what it left there
  into : {m end : Memory} {es : List Event} (target : HostMemory) (lent : Lent) → held target ≡ m →
      was_refused (made (resize target) lent).answer ≡ true → Follows (target_left target lent) es end →
      Follows m (event (resize target) true m ∷ es) end
  -- refused, and lent anything else: the list's memory is not lent to it
  elsewhere : {m end : Memory} {es : List Event} (c : Call) (lent : Lent) → was_refused (made c lent).answer ≡ true →
      Follows m es end → Follows m (event c true m ∷ es) end

-- ---- its replay
unfoldable pub accepted_truth : Truth → Fed → Truth
accepted_truth t (read key w) = read_truth t key w
accepted_truth t (update key w) = update_truth t key w
accepted_truth t (fill key picture ticket) = fill_truth t key picture ticket
accepted_truth t age = age_truth t
accepted_truth t (withdraw key) = withdraw_truth t key
accepted_truth t (resize records) = resize_truth t records

-- | Refused call: no change.
unfoldable pub heard_truth : Truth → Heard → Truth
heard_truth t h = if h.refused then t else accepted_truth t h.call

unfoldable pub replay : Truth → List Heard → Truth
replay t [] = t
replay t (h ∷ hs) = replay (heard_truth t h) hs

-- ---- its stale tickets
-- for each class, the serial that its last accepted update or withdrawal found, tracked or not, and 0 where there is none
unfoldable pub accepted_stale : (ℕ → ℕ) → Fed → ℕ → ℕ → ℕ
accepted_stale stale (read key w) serial = stale
accepted_stale stale (update key w) serial = make_stale stale key serial
accepted_stale stale (fill key picture ticket) serial = stale
accepted_stale stale age serial = stale
accepted_stale stale (withdraw key) serial = make_stale stale key serial
accepted_stale stale (resize records) serial = stale

unfoldable pub event_stale : (ℕ → ℕ) → Event → ℕ → ℕ
event_stale stale e = if e.heard.refused then stale else accepted_stale stale e.heard.call e.serial

unfoldable pub stale_from : (ℕ → ℕ) → List Event → ℕ → ℕ
stale_from stale [] = stale
stale_from stale (e ∷ es) = stale_from (event_stale stale e) es

unfoldable pub stale_up_to : List Event → ℕ → ℕ
stale_up_to = stale_from (λ key. 0)

-- ---- who gave a ticket
-- whether a call, once accepted, makes void the tickets that a class has been given, which are stale then: an update or a withdrawal of it
unfoldable pub call_voids : ℕ → Fed → Bool
call_voids key (read k w) = false
call_voids key (update k w) = eqb k key
call_voids key (fill k picture ticket) = false
call_voids key age = false
call_voids key (withdraw k) = eqb k key
call_voids key (resize records) = false

unfoldable pub voids : ℕ → Event → Bool
voids key e = if e.heard.refused then false else call_voids key e.heard.call

unfoldable pub voided : ℕ → List Event → Bool
voided key [] = false
voided key (e ∷ es) = voids key e || voided key es

-- the serial that the next call finds, or that the list leaves
unfoldable pub next_serial : List Event → Memory → ℕ
next_serial [] end = end.gauge.serial
next_serial (e ∷ es) end = e.serial
