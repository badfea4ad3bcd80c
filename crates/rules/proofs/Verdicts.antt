-- What an accepted call has shown, and that a refused one leaves all it was lent. Assumes nothing.
use Prim.Native.Nat.{ℕ, ◌≤◌, ◌<◌}
use mathlib.Core.Path.{◌≡◌, refl}
use mathlib.Core.Bool.{Bool, true, false, true≢false}
use mathlib.Core.List.{List, ◌∷◌}
use mathlib.Core.Option.{none}
use native.Mathlib.Omega.{arith}
use borrow.Author.Tests.{ltb-true, leb-true, eqb-true, ne_eqb}
use lib.ListN.{length}
use lib.Dec.{leb}
use Rattle.rules.specs.declared.Refusal.{Refusal}
use Rattle.rules.specs.Answers.{Completion, Reply}
use Rattle.std.specs.Prelude.{Ok, Err}
use Rattle.rules.specs.Bytes.{line_size}
use Rattle.std.specs.Prelude.{if◌then◌else◌}
use Rattle.rules.specs.Table.{Memory}
use Rattle.rules.specs.Answers.{is_refused}
use Rattle.rules.specs.Steps.{Outcome}
use Rattle.rules.specs.Calls.{most_weight, serial_limit, sizes_good, read_weight_good, update_weight_good, picture_good, order_good, serial_good, Test, verdict, sizes_test, order_test, serial_test, unless, leaving, plain_verdict, read_verdict, update_verdict, fill_verdict, withdraw_verdict, age_outcome, levelled_outcome, show_line}
use Rattle.rules.proofs.Searches.{both}

-- the first test passes, and then the others
pub first_passes : (t : Test) (ts : List Test) → verdict (t ∷ ts) ≡ Ok tt → (t.passes ≡ true) × (verdict ts ≡ Ok tt)
unfolding verdict
first_passes t ts e = go t.passes refl e
  where
    go : (b : Bool) → t.passes ≡ b → (if b then verdict ts else Err t.cause) ≡ Ok tt →
        (t.passes ≡ true) × (verdict ts ≡ Ok tt)
    go true p q = (p, q)
    go false p q = let z : ◌≡◌ {A = ℕ} 0 1 = cc in absurd (omega arith)

pub record PlainAccepted (m : Memory) : Type 0 where
  pub sizes : sizes_good m.table m.lines ≡ true
  pub order : order_good m ≡ true

pub plain_accepted : (m : Memory) → plain_verdict m ≡ Ok tt → PlainAccepted m
unfolding plain_verdict sizes_test order_test
plain_accepted m e =
    let a = first_passes _ _ e in
    let b = first_passes _ _ a.1 in
    record { sizes = a.0; order = b.0 }

-- | Refusals 1 and 3. .. where cause 1 or 3 holds, it returns the stand-in too
pub plain_refused : (m : Memory) (n : Refusal) (key : ℕ) → plain_verdict m ≡ Err n →
    (age_outcome m ≡ leaving m n) × (levelled_outcome m ≡ Err n) × (show_line m key ≡ none)
unfolding age_outcome levelled_outcome show_line unless
plain_refused m n key e = (rw e, rw e, rw e)

-- a weight or a picture besides, and a serial
pub record MoreAccepted (m : Memory) (Good Serial : Type 0) : Type 0 where
  pub sizes : sizes_good m.table m.lines ≡ true
  pub good : Good
  pub order : order_good m ≡ true
  pub serial : Serial

-- a look wants no serial
pub read_accepted : (m : Memory) (w : ℕ) → read_verdict m w ≡ Ok tt →
    MoreAccepted m (w ≤ most_weight) (0 < w → m.gauge.serial < serial_limit)
unfolding read_verdict sizes_test order_test serial_test read_weight_good serial_good
read_accepted m w e =
    let a = first_passes _ _ e in
    let b = first_passes _ _ a.1 in
    let c = first_passes _ _ b.1 in
    let d = first_passes _ _ c.1 in
    record {
      sizes = a.0;
      good = leb-true w most_weight b.0;
      order = c.0;
      serial = λ warm. ltb-true m.gauge.serial serial_limit (rw (ne_eqb w 0 (omega arith)) at d.0);
    }

pub update_accepted : (m : Memory) (w : ℕ) → update_verdict m w ≡ Ok tt →
    MoreAccepted m (w ≤ most_weight) (m.gauge.serial < serial_limit)
unfolding update_verdict sizes_test order_test serial_test update_weight_good serial_good
update_accepted m w e =
    let a = first_passes _ _ e in
    let b = first_passes _ _ a.1 in
    let c = first_passes _ _ b.1 in
    let d = first_passes _ _ c.1 in
    record {
      sizes = a.0;
      good = leb-true w most_weight (both (leb 1 w) (leb w most_weight) b.0).1;
      order = c.0;
      serial = ltb-true m.gauge.serial serial_limit d.0;
    }

pub fill_accepted : (m : Memory) (picture : List ℕ) → fill_verdict m picture ≡ Ok tt →
    MoreAccepted m (length picture ≡ line_size) (m.gauge.serial < serial_limit)
unfolding fill_verdict sizes_test order_test serial_test picture_good serial_good
fill_accepted m picture e =
    let a = first_passes _ _ e in
    let b = first_passes _ _ a.1 in
    let c = first_passes _ _ b.1 in
    let d = first_passes _ _ c.1 in
    record {
      sizes = a.0;
      good = eqb-true (length picture) line_size b.0;
      order = c.0;
      serial = ltb-true m.gauge.serial serial_limit d.0;
    }

pub withdraw_accepted : (m : Memory) → withdraw_verdict m ≡ Ok tt → m.gauge.serial < serial_limit
unfolding withdraw_verdict sizes_test order_test serial_test serial_good
withdraw_accepted m e =
    let a = first_passes _ _ e in
    let b = first_passes _ _ a.1 in
    let c = first_passes _ _ b.1 in
    ltb-true m.gauge.serial serial_limit c.0

-- ---- accepted or refused is what the answer says
module _ {Lent : Type 0} (lent : Lent) (given : Outcome Reply Lent) where
  pub accepted_verdict : (v : Completion) → is_refused (unless v (leaving lent) given).answer ≡ false → v ≡ Ok tt
  unfolding unless is_refused
  accepted_verdict (Ok u) e = refl
  accepted_verdict (Err n) e = absurd (true≢false e)

  -- a refused call leaves all it was lent, if its steps do where they refuse
  pub refused_leaves : (v : Completion) → (is_refused given.answer ≡ true → given.after ≡ lent) →
      is_refused (unless v (leaving lent) given).answer ≡ true → (unless v (leaving lent) given).after ≡ lent
  unfolding unless
  refused_leaves (Ok u) steps e = steps e
  refused_leaves (Err n) steps e = refl
