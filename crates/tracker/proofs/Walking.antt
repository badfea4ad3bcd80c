-- The walk's step, by what the next record is, and what the walk holds where it ends. Assumes nothing.
use Prim.Native.Nat.{ℕ, ◌+◌, ◌<◌, ◌^◌}
use mathlib.Core.Path.{◌≡◌, refl, sym, ap, ◌∙◌}
use mathlib.Core.Bool.{Bool, true, false}
use mathlib.Core.Logic.{◌≢◌}
use native.Mathlib.Omega.{arith}
use Rattle.std.proofs.lemmas.Grind.{common_steps}
use borrow.Author.Tests.{eqb-true, eqb-false, lt-ltb}
use Rattle.rules.specs.declared.Record.{Record}
use Rattle.tracker.specs.declared.Held.{Held}
use Rattle.std.specs.Prelude.{Some, None, ◌&&◌, leb, eqb, if◌then◌else◌}
use Rattle.rules.specs.Pass.{Found, first, best}
use Rattle.rules.specs.Table.{is_free, is_tracked, is_unlined, has_key, colder, leaves, key_record, free_record, victim}
use Rattle.rules.specs.Walk.{Walk, walk}
use Rattle.rules.proofs.Searches.{clash, first_at, first_nowhere, first_found}
use Rattle.rules.proofs.Walks.{walk_holds}
use Rattle.rules.proofs.Finds.{key_found, free_found, victim_found}
use Rattle.tracker.specs.Claiming.{largest, heat_of}
use Rattle.tracker.specs.Walking.{at, held_records, slack_of, NumbersOf, walked}

-- a record that fails the test changes nothing
first_keeps : (test : Record → Bool) (held : Found) (i : ℕ) (r : Record) → test r ≡ false → held ≡ first test held i r
unfolding first
first_keeps test None i r fails = rw fails refl
first_keeps test (Some p) i r fails = refl

-- a free record has no key, and of another the key alone decides
module _ (r : Record) (key : ℕ) where
  pub key_of_free : (held : Found) (i : ℕ) → is_free r ≡ true → held ≡ first (has_key key) held i r
  unfolding is_free has_key is_tracked
  key_of_free held i free = first_keeps (has_key key) held i r (rw (eqb-true r.state 0 free) refl)

  pub key_alone : is_free r ≡ false → eqb r.key key ≡ has_key key r
  unfolding is_free has_key is_tracked
  key_alone taken =
      let tracked = eqb-false r.state 0 taken in
      rw (lt-ltb 0 r.state (omega arith)) refl

pub free_of_taken : (held : Found) (i : ℕ) (r : Record) → is_free r ≡ false → held ≡ first is_free held i r
free_of_taken = first_keeps is_free

-- the next record, at its place
pub held_here : (f : ℕ → Record) (i : ℕ) (r : Record) → r ≡ f i → i < largest →
    (Some (i, r) ≡ at f i) × (r.heat ≡ heat_of (at f i)) × (r.slack ≡ slack_of (at f i))
unfolding heat_of slack_of
held_here f i r read below =
    let inside = lt-ltb i largest below in
    (rw (inside, read) refl, rw (inside, read) refl, rw (inside, read) refl)

-- whether a record leaves before the one that is found, by the numbers that are held: where its heat, or one more if it has no more slack, is
-- at most the other's
pub leaves_by_numbers : (r : Record) (held : Held) (i : ℕ) (found : Found) (one : ℕ) → r.heat < largest → NumbersOf held found →
    one ≡ (if leb r.slack held.slack then 1 else 0) →
    best is_unlined leaves found i r ≡ (if is_unlined r && leb (r.heat + one) held.heat then Some (i, r) else found)
unfolding best leaves colder heat_of slack_of
leaves_by_numbers r held i None one below numbers is = grind (arith, common_steps)
leaves_by_numbers r held i (Some (j, s)) one below numbers is = grind (arith, common_steps)

-- where the walk stops, and what it has found then
module _ (key : ℕ) (f : ℕ → Record) where
  module _ (held : Held) where
    holds : (k : ℕ) → held_records f held ≡ walk key f k →
        held_records f held ≡ record { own = key_record key f k; free = free_record f k; victim = victim f k }
    holds k is = is ∙ walk_holds key f k

    own_by : (k : ℕ) → held_records f held ≡ walk key f k → at f held.own ≡ key_record key f k
    own_by k is = ap (λ (w : Walk). w.own) (holds k is)

    pub nowhere_yet : (k : ℕ) → held_records f held ≡ walk key f k → held.own ≡ largest → key_record key f k ≡ None
    nowhere_yet k is none = sym (own_by k is) ∙ rw none refl

  -- it stops at the key's record
  pub stops_here : (n i : ℕ) (held : Held) → i < n → key_record key f i ≡ None → held_records f held ≡ walk key f (i + 1) →
      held.own < 2 ^ 64 → held.own ≢ largest → held_records f held ≡ walk key f (walked n (key_record key f n))
  unfolding key_record
  stops_here n i held inside before is fits own =
      let test = has_key key in
      let place = held.own in
      let found : key_record key f (i + 1) ≡ Some (place, f place) = sym (own_by held (i + 1) is) ∙ rw (lt-ltb place largest (omega arith)) refl in
      let none = first_nowhere test f i before in
      let h = first_at test f (i + 1) place (f place) found in
      let not_before : ¬ (place < i) = λ l. clash h.passes (none place l) in
      let here : place ≡ i = omega (arith, h.inside) in
      rw (first_found test f n i inside (rw (← here) h.passes) none) is

  -- what it has found then: the key's record, or else all that it looks for
  module _ (n : ℕ) (held : Held) (is : held_records f held ≡ walk key f (walked n (key_record key f n))) where
    pub own_is : at f held.own ≡ key_record key f n
    unfolding key_record
    own_is = go (key_record key f n) refl
      where
        go : (x : Found) → key_record key f n ≡ x → at f held.own ≡ x
        go None e = own_by held n (rw e at is) ∙ e
        go (Some (i, r)) e =
            let h = first_at (has_key key) f n i r e in
            own_by held (i + 1) (rw e at is)
            ∙ first_found (has_key key) f (i + 1) i (omega arith) (rw (← h.is) h.passes) h.before
            ∙ rw h.is refl

    pub own_inside : (i : ℕ) → Some (i, f i) ≡ at f held.own → i < n
    own_inside i here = (key_found _ _ _ _ _ (sym own_is ∙ sym here)).inside

    module _ (untracked : None ≡ at f held.own) where
      all : held_records f held ≡ record { own = key_record key f n; free = free_record f n; victim = victim f n }
      all = holds held n (rw (sym own_is ∙ sym untracked) at is)

      pub free_is : at f held.free ≡ free_record f n
      free_is = ap (λ (w : Walk). w.free) all

      pub free_inside : (i : ℕ) → Some (i, f i) ≡ at f held.free → i < n
      free_inside i here = (free_found _ _ _ _ (sym free_is ∙ sym here)).inside

      pub victim_is : at f held.victim ≡ victim f n
      victim_is = ap (λ (w : Walk). w.victim) all

      pub victim_inside : (i : ℕ) → Some (i, f i) ≡ at f held.victim → i < n
      victim_inside i here = (victim_found _ _ _ _ (sym victim_is ∙ sym here)).inside
