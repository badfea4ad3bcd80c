-- Records that go one by one, each time the best of those left in an order: those that have gone are the first of that order.
-- Assumes nothing.
use Prim.Native.Nat.{ℕ, zero, suc, ◌+◌, ◌<◌}
use mathlib.Core.Path.{◌≡◌, refl, sym, ◌∙◌}
use mathlib.Core.Bool.{Bool, true, false, or-true}
use mathlib.Core.Logic.{◌≢◌}
use native.Mathlib.Decide.{dec_lt, ℕ_discrete}
use native.Mathlib.Omega.{arith}
use borrow.Author.Tests.{lt-ltb}
use Rattle.std.specs.Prelude.{if◌then◌else◌}
use Rattle.rules.specs.declared.Record.{Record}
use Rattle.rules.specs.Pass.{pass, sum_of, count_of, count_where}
use Rattle.rules.specs.Replay.{at}
use Rattle.rules.proofs.Changes.{at_same, at_other}
use Rattle.rules.proofs.Chosen.{sum_same}
use Rattle.rules.proofs.Searches.{clash, IsBest}
use Rattle.resizing.specs.Kept.{goes_before, Foremost}
use Rattle.resizing.proofs.Counts.{count_at, count_before}

-- ---- counts of chosen places
pub count_is_where : {B : Type 0} (test : B → Bool) (f : ℕ → B) (chosen : ℕ → Bool) (n : ℕ) →
    ((i : ℕ) → i < n → test (f i) ≡ chosen i) → count_of test f n ≡ count_where chosen n
unfolding count_where count_of
count_is_where test f chosen n same =
    sum_same (λ r. if test r then 1 else 0) (λ i. if chosen i then 1 else 0) f (λ i. i) n (λ i below. rw (same i below))

pub count_none : {B : Type 0} (test : B → Bool) (f : ℕ → B) (n : ℕ) → ((i : ℕ) → i < n → test (f i) ≡ false) → count_of test f n ≡ 0
unfolding count_of sum_of pass
count_none test f zero none = refl
count_none test f (suc n) none =
    rw (none n (omega arith), count_none test f n (λ i below. none i (omega arith)))

pub none_counted : {B : Type 0} (test : B → Bool) (f : ℕ → B) (n : ℕ) → count_of test f n ≡ 0 → (i : ℕ) → i < n → test (f i) ≡ false
none_counted test f n none i below = go (test (f i)) refl
  where
    go : (b : Bool) → test (f i) ≡ b → b ≡ false
    go true e = absurd (omega (arith, count_before test f i n below e))
    go false e = refl

pub where_next : (chosen : ℕ → Bool) (n i : ℕ) → i < n → chosen i ≡ false → count_where (at i true chosen) n ≡ count_where chosen n + 1
where_next chosen n i below out =
    let e = count_at (λ (b : Bool). b) i true chosen n below in
    rw (
      ← count_is_where (λ (b : Bool). b) (at i true chosen) (at i true chosen) n (λ i below. refl),
      ← count_is_where (λ (b : Bool). b) chosen chosen n (λ i below. refl),
    ) (omega (arith, rw out at e))

-- ---- g is f but that some records have gone, the first of an order among those that pass a test, and are changed
module _ (test : Record → Bool) (beats : Record → Record → Bool) (change : Record → Record) where
  pub record Gone (f g : ℕ → Record) (n count : ℕ) : Type 0 where
    pub gone : ℕ → Bool
    pub foremost : Foremost (λ i. test (f i)) gone (goes_before beats f) n count
    pub each : (i : ℕ) → g i ≡ (if gone i then change (f i) else f i)
    -- so many are left of those that pass
    pub left : count_of test g n + count ≡ count_of test f n

  unfoldable pub gone_none : (f : ℕ → Record) (n : ℕ) → Gone f f n 0
  unfolding count_where
  gone_none f n =
      record {
        gone = λ i. false;
        foremost =
            record {
              many = count_none (λ (i : ℕ). false) (λ i. i) n (λ i below. refl);
              among = λ i below e. clash e refl;
              first = λ i j i_below j_below e. clash e refl;
            };
        each = λ i. refl;
        left = omega arith;
      }

  module _ (f g : ℕ → Record) (n count : ℕ) (x : Gone f g n count) where
    pub gone_changed : (i : ℕ) → x.gone i ≡ true → g i ≡ change (f i)
    gone_changed i e = rw e at (x.each i)

    pub gone_same : (i : ℕ) → x.gone i ≡ false → g i ≡ f i
    gone_same i e = rw e at (x.each i)

    -- what holds of the changed and of the others holds of all
    pub gone_all : (P : Record → Type 0) (i : ℕ) → (x.gone i ≡ true → P (change (f i))) → (x.gone i ≡ false → P (f i)) → P (g i)
    gone_all P i went stays = go (x.gone i) refl
      where
        go : (b : Bool) → x.gone i ≡ b → P (g i)
        go true e = rw (gone_changed i e) (went e)
        go false e = rw (gone_same i e) (stays e)

    -- as long as fewer have gone than pass, one is left
    pub gone_some : count < count_of test f n → ¬ ((i : ℕ) → i < n → test (g i) ≡ false)
    gone_some fewer none = omega (arith, x.left, count_none test g n none)

    -- one more step, where a changed record no longer passes
    module _ (fails : (r : Record) → test (change r) ≡ false) where
      pub here_still : (i : ℕ) → test (g i) ≡ true → x.gone i ≡ false
      here_still i passes = go (x.gone i) refl
        where
          go : (b : Bool) → x.gone i ≡ b → b ≡ false
          go true e = clash (rw (gone_changed i e) at passes) (fails (f i))
          go false e = refl

      -- it goes before those left
      pub before_rest : (i : ℕ) (r : Record) → IsBest test beats g n i r → f i ≡ r → (j : ℕ) → j < n → j ≢ i → test (f j) ≡ true →
          x.gone j ≡ false → goes_before beats f i j ≡ true
      unfolding goes_before
      before_rest i r b is j below other passes stays =
          let same : g j ≡ f j = gone_same j stays in
          let left : test (g j) ≡ true = rw same passes in
          let unbeaten : beats (f j) (f i) ≡ false = rw (same, ← is) at (b.unbeaten j below left) in
          elim (dec_lt j i) [
            | yes l ↦ rw (rw (same, ← is) at (b.before j l left))
            | no l ↦ rw (unbeaten, lt-ltb i j (omega arith)) (or-true (beats (f i) (f j)))
          ]

      pub gone_was : (i : ℕ) (r : Record) → IsBest test beats g n i r → f i ≡ r
      gone_was i r b = sym (gone_same i (here_still i (rw (← b.is) b.passes))) ∙ sym b.is

      unfoldable pub gone_next : (i : ℕ) (r : Record) → IsBest test beats g n i r → Gone f (at i (change r) g) n (count + 1)
      gone_next i r b =
          let here : test (g i) ≡ true = rw (← b.is) b.passes in
          let still : x.gone i ≡ false = here_still i here in
          let is : f i ≡ r = gone_was i r b in
          let rest : (j : ℕ) → j ≢ i → at i true x.gone j ≡ x.gone j = λ j. at_other i j true x.gone in
          let next = count_at test i (change r) g n b.inside in
          record {
            gone = at i true x.gone;
            foremost =
                record {
                  many = omega (arith, where_next x.gone n i b.inside still, x.foremost.many);
                  among = λ j below e.
                      elim (ℕ_discrete j i) [
                        | yes same_place ↦ rw (same_place, is) b.passes
                        | no other ↦ x.foremost.among j below (rw (rest j other) at e)
                      ];
                  first = λ j k j_below k_below went passes stays.
                      let k_other : k ≢ i = λ e. clash (at_same i true x.gone) (rw e at stays) in
                      let k_stays : x.gone k ≡ false = rw (rest k k_other) at stays in
                      elim (ℕ_discrete j i) [
                        | yes same_place ↦ rw same_place (before_rest i r b is k k_below k_other passes k_stays)
                        | no other ↦ x.foremost.first j k j_below k_below (rw (rest j other) at went) passes k_stays
                      ];
                };
            each = λ j.
                elim (ℕ_discrete j i) [
                  | yes e ↦ rw (e, at_same i (change r) g, at_same i true x.gone, is)
                  | no e ↦ rw (at_other i j (change r) g e, rest j e) (x.each j)
                ];
            left = omega (arith, x.left, rw (here, fails r) at next);
          }
