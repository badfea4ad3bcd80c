-- What the searches of document 01 find, in numbers: the key's record, the first free one, the victim, the coldest on a line and the
-- hottest without one; and what a record that is all zero says. Assumes nothing.
use Prim.Native.Nat.{ℕ, ◌≤◌, ◌<◌}
use mathlib.Core.Path.{◌≡◌, refl, sym, ◌∙◌, ap}
use mathlib.Core.Bool.{true, false}
use mathlib.Core.Logic.{◌≢◌}
use native.Mathlib.Omega.{arith}
use Rattle.std.proofs.lemmas.Grind.{common_steps}
use borrow.Author.Tests.{ltb-true, ltb-false, lt-ltb, eqb-true, eqb-false, eq-eqb}
use Rattle.rules.specs.declared.Record.{Record}
use Rattle.std.specs.Prelude.{Some, None}
use Rattle.rules.specs.Pass.{Found}
use Rattle.rules.specs.Table.{is_free, is_zero, is_tracked, is_unlined, is_lined, has_key, key_record, free_record, colder, hotter, leaves, victim, coldest_lined, hottest_unlined}
use Rattle.rules.proofs.Searches.{both, clash, first_at, first_nowhere, IsBest, best_at, best_nowhere}

-- | (all .. numbers are 0)
pub zero_says : (r : Record) → is_zero r ≡ true →
    (r.key ≡ 0) × (r.heat ≡ 0) × (r.slack ≡ 0) × (r.state ≡ 0) × (r.ticket ≡ 0)
unfolding is_zero
zero_says r e =
    let (four, ticket) = both _ _ e in
    let (three, state) = both _ _ four in
    let (two, slack) = both _ _ three in
    let (key, heat) = both _ _ two in
    (eqb-true _ _ key, eqb-true _ _ heat, eqb-true _ _ slack, eqb-true _ _ state, eqb-true _ _ ticket)

-- a place below n with its record, of which something holds
pub record IsAt (f : ℕ → Record) (n i : ℕ) (r : Record) (P : Record → Type 0) : Type 0 where
  pub inside : i < n
  pub is : r ≡ f i
  pub has : P (f i)

module _ (f : ℕ → Record) (n : ℕ) where
  -- ---- the key's record
  pub key_found : (key i : ℕ) (r : Record) → key_record key f n ≡ Some (i, r) → IsAt f n i r (λ s. (0 < s.state) × (s.key ≡ key))
  unfolding key_record has_key is_tracked
  key_found key i r e =
      let h = first_at (has_key key) f n i r e in
      let p = both _ _ (ap (has_key key) (sym h.is) ∙ h.passes) in
      record { inside = h.inside; is = h.is; has = (ltb-true _ _ p.0, eqb-true _ _ p.1) }

  pub key_nowhere : (key : ℕ) → ((j : ℕ) → j < n → 0 < (f j).state → (f j).key ≢ key) → key_record key f n ≡ None
  key_nowhere key none = go (key_record key f n) refl
    where
      go : (x : Found) → key_record key f n ≡ x → x ≡ None
      go None e = refl
      go (Some (i, r)) e = let found = key_found key i r e in absurd (none i found.inside found.has.0 found.has.1)

  pub key_inside : (key i : ℕ) (r : Record) → Some (i, r) ≡ key_record key f n → i < n
  key_inside key i r e = (key_found key i r (sym e)).inside

  pub key_missing : (key : ℕ) → key_record key f n ≡ None → (j : ℕ) → j < n → 0 < (f j).state → (f j).key ≢ key
  unfolding key_record has_key is_tracked
  key_missing key e j below tracked same =
      let none = first_nowhere (has_key key) f n e j below in
      let found : has_key key (f j) ≡ true = rw (lt-ltb _ _ tracked) (eq-eqb _ _ same) in
      clash found none

  -- ---- the first free record
  pub free_found : (i : ℕ) (r : Record) → free_record f n ≡ Some (i, r) → IsAt f n i r (λ s. s.state ≡ 0)
  unfolding free_record is_free
  free_found i r e =
      let h = first_at is_free f n i r e in
      record { inside = h.inside; is = h.is; has = eqb-true _ _ (ap is_free (sym h.is) ∙ h.passes) }

  pub free_missing : free_record f n ≡ None → (j : ℕ) → j < n → (f j).state ≢ 0
  unfolding free_record is_free
  free_missing e j below = eqb-false _ _ (first_nowhere is_free f n e j below)

  -- ---- the victim, the coldest on a line, the hottest without one: each the first among equals of its order
  colder_over : (r s t : Record) → colder r s ≡ true → colder t s ≡ false → colder r t ≡ true
  unfolding colder
  colder_over r s t a b = grind (arith, common_steps)

  colder_one_way : (r s : Record) → colder r s ≡ true → colder s r ≡ false
  unfolding colder
  colder_one_way r s a = grind (arith, common_steps)

  colder_never : (r : Record) → colder r r ≡ false
  unfolding colder
  colder_never r = grind (arith, common_steps)

  leaves_over : (r s t : Record) → leaves r s ≡ true → leaves t s ≡ false → leaves r t ≡ true
  unfolding leaves colder
  leaves_over r s t a b = grind (arith, common_steps)

  leaves_one_way : (r s : Record) → leaves r s ≡ true → leaves s r ≡ false
  unfolding leaves colder
  leaves_one_way r s a = grind (arith, common_steps)

  -- of two equal in both, neither leaves before the other
  leaves_equal : (r s : Record) → s.heat ≡ r.heat → s.slack ≡ r.slack → leaves r s ≡ false
  unfolding leaves colder
  leaves_equal r s heat slack = grind (arith, common_steps)

  leaves_never : (r : Record) → leaves r r ≡ false
  leaves_never r = leaves_equal r r refl refl

  -- one that stays behind is no colder, and of two equally cold has no more slack
  leaves_stays : (r s : Record) → leaves r s ≡ false → (s.heat ≤ r.heat) × (r.heat ≡ s.heat → r.slack ≤ s.slack)
  unfolding leaves colder
  leaves_stays r s e = grind (arith, common_steps)

  hotter_over : (r s t : Record) → hotter r s ≡ true → hotter t s ≡ false → hotter r t ≡ true
  unfolding hotter
  hotter_over r s t a b = grind (arith, common_steps)

  hotter_one_way : (r s : Record) → hotter r s ≡ true → hotter s r ≡ false
  unfolding hotter
  hotter_one_way r s a = grind (arith, common_steps)

  hotter_never : (r : Record) → hotter r r ≡ false
  unfolding hotter
  hotter_never r = grind (arith, common_steps)

  pub victim_best : (i : ℕ) (r : Record) → victim f n ≡ Some (i, r) → IsBest is_unlined leaves f n i r
  unfolding victim
  victim_best i r e = best_at is_unlined leaves leaves_over leaves_one_way leaves_never f n i r e

  -- no record off the lines is colder than the victim, none equally cold has more slack, and none equal in both stands before it
  pub victim_first : (i : ℕ) (r : Record) → victim f n ≡ Some (i, r) → (j : ℕ) → j < n → (f j).state ≡ 1 →
      (r.heat ≤ (f j).heat)
      × ((f j).heat ≡ r.heat → (f j).slack ≤ r.slack)
      × ((f j).heat ≡ r.heat → (f j).slack ≡ r.slack → i ≤ j)
  unfolding is_unlined
  victim_first i r e j below waits =
      let h = victim_best i r e in
      let passes : is_unlined (f j) ≡ true = eq-eqb _ _ waits in
      let stays = leaves_stays (f j) r (h.unbeaten j below passes) in
      let ahead : (f j).heat ≡ r.heat → (f j).slack ≡ r.slack → ¬ (j < i) =
      λ heat slack before. clash (h.before j before passes) (leaves_equal r (f j) heat slack) in (
        stays.0,
        stays.1,
        λ heat slack. omega (arith, ahead heat slack),
      )

  pub victim_found : (i : ℕ) (r : Record) → victim f n ≡ Some (i, r) →
      IsAt f n i r (λ s. (s.state ≡ 1) × ((j : ℕ) → j < n → (f j).state ≡ 1 → s.heat ≤ (f j).heat))
  unfolding victim is_unlined
  victim_found i r e =
      let h = victim_best i r e in
      record {
        inside = h.inside;
        is = h.is;
        has = (
          eqb-true _ _ (ap is_unlined (sym h.is) ∙ h.passes),
          λ j below waits. rw h.is at (victim_first i r e j below waits).0,
        );
      }

  pub victim_inside : (i : ℕ) (r : Record) → Some (i, r) ≡ victim f n → i < n
  victim_inside i r e = (victim_found i r (sym e)).inside

  pub victim_missing : victim f n ≡ None → (j : ℕ) → j < n → (f j).state ≢ 1
  unfolding victim is_unlined
  victim_missing e j below = eqb-false _ _ (best_nowhere is_unlined leaves leaves_over leaves_one_way leaves_never f n e j below)

  pub coldest_best : (i : ℕ) (r : Record) → coldest_lined f n ≡ Some (i, r) → IsBest is_lined colder f n i r
  unfolding coldest_lined
  coldest_best i r e = best_at is_lined colder colder_over colder_one_way colder_never f n i r e

  pub coldest_found : (i : ℕ) (r : Record) → coldest_lined f n ≡ Some (i, r) →
      IsAt f n i r (λ s. (1 < s.state) × ((j : ℕ) → j < n → 1 < (f j).state → s.heat ≤ (f j).heat))
  unfolding coldest_lined colder is_lined
  coldest_found i r e =
      let h = coldest_best i r e in
      record {
        inside = h.inside;
        is = h.is;
        has = (
          ltb-true _ _ (ap is_lined (sym h.is) ∙ h.passes),
          λ j below lined. rw h.is at (ltb-false (f j).heat r.heat (h.unbeaten j below (lt-ltb _ _ lined))),
        );
      }

  pub coldest_inside : (i : ℕ) (r : Record) → Some (i, r) ≡ coldest_lined f n → i < n
  coldest_inside i r e = (coldest_found i r (sym e)).inside

  pub coldest_first : (i : ℕ) (r : Record) → coldest_lined f n ≡ Some (i, r) → (j : ℕ) → j < i → 1 < (f j).state → r.heat < (f j).heat
  unfolding colder is_lined
  coldest_first i r e j before lined = ltb-true r.heat (f j).heat ((coldest_best i r e).before j before (lt-ltb _ _ lined))

  pub coldest_missing : coldest_lined f n ≡ None → (j : ℕ) → j < n → (f j).state ≤ 1
  unfolding coldest_lined is_lined
  coldest_missing e j below = ltb-false _ _ (best_nowhere is_lined colder colder_over colder_one_way colder_never f n e j below)

  pub hottest_best : (i : ℕ) (r : Record) → hottest_unlined f n ≡ Some (i, r) → IsBest is_unlined hotter f n i r
  unfolding hottest_unlined
  hottest_best i r e = best_at is_unlined hotter hotter_over hotter_one_way hotter_never f n i r e

  pub hottest_found : (i : ℕ) (r : Record) → hottest_unlined f n ≡ Some (i, r) →
      IsAt f n i r (λ s. (s.state ≡ 1) × ((j : ℕ) → j < n → (f j).state ≡ 1 → (f j).heat ≤ s.heat))
  unfolding hottest_unlined hotter is_unlined
  hottest_found i r e =
      let h = hottest_best i r e in
      record {
        inside = h.inside;
        is = h.is;
        has = (
          eqb-true _ _ (ap is_unlined (sym h.is) ∙ h.passes),
          λ j below waits. rw h.is at (ltb-false r.heat (f j).heat (h.unbeaten j below (eq-eqb _ _ waits))),
        );
      }

  pub hottest_inside : (i : ℕ) (r : Record) → Some (i, r) ≡ hottest_unlined f n → i < n
  hottest_inside i r e = (hottest_found i r (sym e)).inside

  pub hottest_first : (i : ℕ) (r : Record) → hottest_unlined f n ≡ Some (i, r) → (j : ℕ) → j < i → (f j).state ≡ 1 → (f j).heat < r.heat
  unfolding hotter is_unlined
  hottest_first i r e j before waits = ltb-true (f j).heat r.heat ((hottest_best i r e).before j before (eq-eqb _ _ waits))

  pub hottest_missing : hottest_unlined f n ≡ None → (j : ℕ) → j < n → (f j).state ≢ 1
  unfolding hottest_unlined is_unlined
  hottest_missing e j below = eqb-false _ _ (best_nowhere is_unlined hotter hotter_over hotter_one_way hotter_never f n e j below)
