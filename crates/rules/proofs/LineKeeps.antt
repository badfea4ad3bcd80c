-- Giving an unused line, and handing a line on, keep the invariant; whom the lines then hold is decided by who took the line.
-- Of who gives a line or gets one only state and ticket change, so that what is said of keys, heats and slacks stays. Assumes nothing.
use Prim.Native.Nat.{ℕ, ◌+◌, ◌*◌, ◌≤◌, ◌<◌}
use mathlib.Core.Path.{◌≡◌, refl, sym, ◌∙◌}
use mathlib.Core.Bool.{Bool, true, false}
use mathlib.Core.Logic.{◌≢◌}
use native.Mathlib.Decide.{dec_lt, ℕ_discrete}
use native.Mathlib.Omega.{arith}
use borrow.Author.Tests.{lt-ltb, le-ltb, eq-eqb, ne_eqb, eqb-true}
use lib.Dec.{eqb}
use Rattle.rules.specs.declared.Record.{Record}
use Rattle.rules.specs.declared.Gauge.{Gauge}
use Rattle.rules.specs.Table.{is_free, is_zero, is_lined, is_on, line_of, empty_state, with_ticket, with_serial, unlined, on_empty_line, is_used}
use Rattle.rules.specs.Steps.{level}
use Rattle.rules.specs.Replay.{Truth, at}
use Rattle.rules.proofs.Searches.{clash, any_at, any_none}
use Rattle.rules.proofs.Chosen.{where_le}
use Rattle.rules.proofs.Changes.{at_same, at_other, at_all}
use Rattle.rules.proofs.Invariant.{Tracks, Full, FullBut, Hottest, HottestBut, HottestOver}

-- ---- lines in use
pub used_at : (f : ℕ → Record) (n j : ℕ) (r : Record) → j < n → f j ≡ r → 1 < r.state → is_used f n (line_of r) ≡ true
unfolding is_used is_on is_lined
used_at f n j r inside is lined =
    any_at (is_on (line_of r)) f n j inside (rw (is, lt-ltb 1 r.state lined) (eq-eqb (line_of r) (line_of r) refl))

pub none_on : (f : ℕ → Record) (n line : ℕ) → ((j : ℕ) → j < n → 1 < (f j).state → line_of (f j) ≢ line) → is_used f n line ≡ false
unfolding is_used is_on is_lined
none_on f n line off =
    any_none (is_on line) f n
    (λ j below. elim (dec_lt 1 (f j).state) [
      | yes l ↦ rw (lt-ltb 1 (f j).state l) (ne_eqb (line_of (f j)) line (off j below l))
      | no l ↦ rw (le-ltb 1 (f j).state (omega arith))
    ])

-- a line unused in g is unused in f, where each line of f is one of g
pub unused_before : (f g : ℕ → Record) (n : ℕ) → ((j : ℕ) → j < n → 1 < (f j).state → is_used g n (line_of (f j)) ≡ true) →
    (line : ℕ) → is_used g n line ≡ false → is_used f n line ≡ false
unused_before f g n each line unused =
    none_on f n line (λ j below lined e. clash (rw e at (each j below lined)) unused)

pub line_taken : (line ticket : ℕ) (r : Record) → line_of (on_empty_line line ticket r) ≡ line
unfolding line_of on_empty_line empty_state
line_taken line ticket r = omega arith

pub taken_used : (f : ℕ → Record) (n j line ticket : ℕ) (r : Record) → j < n → f j ≡ on_empty_line line ticket r → is_used f n line ≡ true
unfolding on_empty_line empty_state
taken_used f n j line ticket r inside is =
    rw (line_taken line ticket r) at (used_at f n j (on_empty_line line ticket r) inside is (omega arith))

-- ---- a tracked record gets another state over 0
-- what stays
record Kept (r q : Record) : Type 0 where
  key : q.key ≡ r.key
  heat : q.heat ≡ r.heat
  slack : q.slack ≡ r.slack
  free : is_free q ≡ is_free r

kept_free : (r q : Record) → is_free q ≡ is_free r → q.state ≡ 0 → r.state ≡ 0
unfolding is_free
kept_free r q free e = eqb-true r.state 0 (sym free ∙ eq-eqb q.state 0 e)

kept_tracked : (r q : Record) → is_free q ≡ is_free r → 0 < r.state → 0 < q.state
kept_tracked r q free tracked =
    elim (ℕ_discrete q.state 0) [ yes e ↦ absurd (omega (arith, kept_free r q free e)) | no e ↦ omega arith ]

kept_level : (ceiling : ℕ) (r q : Record) → Kept r q → level ceiling q ≤ level ceiling r
unfolding level
kept_level ceiling r q k = rw (k.free, k.heat) (omega arith)

-- another state over 0, and another ticket
record Restated (r q : Record) : Type 0 where
  key : q.key ≡ r.key
  heat : q.heat ≡ r.heat
  slack : q.slack ≡ r.slack
  tracked : 0 < q.state
  unlined_ticket : q.state ≤ 1 → q.ticket ≡ 0

module _ (f : ℕ → Record) (n c i : ℕ) (r : Record) (inside : i < n) (was : 0 < (f i).state) (becomes : Restated (f i) r) where
  kept : (j : ℕ) → Kept (f j) (at i r f j)
  unfolding is_free
  kept j =
      let free : eqb r.state 0 ≡ eqb (f i).state 0 =
      rw (ne_eqb r.state 0 (omega (arith, becomes.tracked)), ne_eqb (f i).state 0 (omega arith)) in
      at_all (λ j q. Kept (f j) q) i r f (record { key = becomes.key; heat = becomes.heat; slack = becomes.slack; free = free }) j
      (λ other. record { key = refl; heat = refl; slack = refl; free = refl })

  -- a state that is not a line's, or an unused line's
  state_tracks : (g : Gauge) (t : Truth) → r.state ≤ 1 + 2 * c →
      ((j : ℕ) → j < n → j ≢ i → 1 < r.state → 1 < (f j).state → line_of (f j) ≢ line_of r) →
      Tracks f n c g t → Tracks (at i r f) n c g t
  state_tracks g t most alone s =
      let before : (j : ℕ) → 0 < (at i r f j).state → 0 < (f j).state =
      λ j. kept_tracked (at i r f j) (f j) (sym (kept j).free) in
      let after : (j : ℕ) → 0 < (f j).state → 0 < (at i r f j).state = λ j. kept_tracked (f j) (at i r f j) (kept j).free in
      record {
        total_most = s.total_most;
        ceiling_most = s.ceiling_most;
        heat_most = λ j below. rw (kept j).heat (s.heat_most j below);
        state_most = λ j below. at_all (λ j q. q.state ≤ 1 + 2 * c) i r f most j (λ other. s.state_most j below);
        free_zero = λ j below.
            at_all (λ j q. q.state ≡ 0 → is_zero q ≡ true) i r f (λ free. absurd (omega (arith, becomes.tracked))) j
            (λ other. s.free_zero j below);
        unlined_ticket = λ j below.
            at_all (λ j q. q.state ≤ 1 → q.ticket ≡ 0) i r f becomes.unlined_ticket j (λ other. s.unlined_ticket j below);
        keys_apart = λ j k j-below k-below j-tracked k-tracked e.
            s.keys_apart j k j-below k-below (before j j-tracked) (before k k-tracked) (sym (kept j).key ∙ e ∙ (kept k).key);
        lines_apart = λ j k j-below k-below.
            at_all (λ j q. 1 < q.state → 1 < (at i r f k).state → line_of q ≡ line_of (at i r f k) → j ≡ k) i r f
            (λ lined. at_all (λ k q. 1 < q.state → line_of r ≡ line_of q → i ≡ k) i r f
            (λ _ e. refl) k (λ other k-lined e. absurd (alone k k-below other lined k-lined (sym e))))
            j
            (λ other j-lined. at_all (λ k q. 1 < q.state → line_of (f j) ≡ line_of q → j ≡ k) i r f
            (λ lined e. absurd (alone j j-below other lined j-lined e)) k (λ other. s.lines_apart j k j-below k-below j-lined));
        not_below = λ j below tracked. rw ((kept j).key, (kept j).heat) (s.not_below j below (before j tracked));
        not_above = λ j below tracked.
            rw ((kept j).key, (kept j).heat, (kept j).slack) (s.not_above j below (before j tracked));
        untracked = λ key none. s.untracked key (λ j below tracked. rw (kept j).key at (none j below (after j tracked)));
        few = s.few;
        levels = λ chosen many.
            omega (
              arith,
              s.levels chosen many,
              where_le chosen (level g.ceiling) (level g.ceiling) (at i r f) f n
                  (λ j below. kept_level g.ceiling (f j) (at i r f j) (kept j)),
            );
        total = s.total;
      }

-- the serial is none of what is known of keys, heats and lines
serial_tracks : (f : ℕ → Record) (n c serial : ℕ) (g : Gauge) (t : Truth) → Tracks f n c g t → Tracks f n c (with_serial serial g) t
serial_tracks f n c serial g t s =
    record {
      total_most = s.total_most;
      ceiling_most = s.ceiling_most;
      heat_most = s.heat_most;
      state_most = s.state_most;
      free_zero = s.free_zero;
      unlined_ticket = s.unlined_ticket;
      keys_apart = s.keys_apart;
      lines_apart = s.lines_apart;
      not_below = s.not_below;
      not_above = s.not_above;
      untracked = s.untracked;
      few = s.few;
      levels = s.levels;
      total = s.total;
    }

-- ---- the record at i keeps its line, and gets another ticket
pub renew_tracks : (f : ℕ → Record) (n c i ticket : ℕ) → i < n → 1 < (f i).state → (g : Gauge) (t : Truth) → Tracks f n c g t →
    Tracks (at i (with_ticket ticket (f i)) f) n c (with_serial ticket g) t
unfolding line_of
renew_tracks f n c i ticket inside lined g t s =
    let renewed : Restated (f i) (with_ticket ticket (f i)) =
    record { key = refl; heat = refl; slack = refl; tracked = omega arith; unlined_ticket = λ low. absurd (omega arith) } in
    serial_tracks _ n c ticket g t
    (state_tracks f n c i (with_ticket ticket (f i)) inside (omega arith) renewed g t (s.state_most i inside)
    (λ j below other here there e. other (s.lines_apart j i below inside there here e)) s)

-- ---- an unused line goes to the record at i, with a ticket
module _ (f : ℕ → Record) (n c i line ticket : ℕ) (inside : i < n) (waits : (f i).state ≡ 1) (there : line < c)
    (unused : is_used f n line ≡ false) where
  taken : Restated (f i) (on_empty_line line ticket (f i))
  unfolding on_empty_line empty_state
  taken = record { key = refl; heat = refl; slack = refl; tracked = omega arith; unlined_ticket = λ low. absurd (omega arith) }

  pub give_tracks : (g : Gauge) (t : Truth) → Tracks f n c g t →
      Tracks (at i (on_empty_line line ticket (f i)) f) n c (with_serial ticket g) t
  unfolding on_empty_line empty_state
  give_tracks g t s =
      serial_tracks _ n c ticket g t
      (state_tracks f n c i (on_empty_line line ticket (f i)) inside (omega arith) taken g t (omega arith)
      (λ j below _ _ lined e. clash (rw (e, line_taken) at (used_at f n j (f j) below refl lined)) unused) s)

  pub give_full : FullBut i f n c → Full (at i (on_empty_line line ticket (f i)) f) n c
  unfolding on_empty_line empty_state
  give_full h =
      record {
        none_waits = λ l below free j inside.
            at_all (λ j r. r.state ≢ 1) i _ f (omega arith) j
            (h.none_waits l below (unused_before f _ n each l free) j inside);
      }
    where
      each : (j : ℕ) → j < n → 1 < (f j).state → is_used (at i (on_empty_line line ticket (f i)) f) n (line_of (f j)) ≡ true
      each j below lined =
          used_at _ n j (f j) below (at_other i j _ f (λ e. omega (arith, rw e at lined))) lined

  pub give_hottest : FullBut i f n c → Hottest (at i (on_empty_line line ticket (f i)) f) n
  unfolding on_empty_line empty_state
  give_hottest h =
      record {
        hottest = λ j k j-below k-below lined waits.
            absurd (at_all (λ k r. r.state ≢ 1) i _ f (omega arith) k (h.none_waits line there unused k k-below) waits);
      }

-- where one waits, every line is used
pub all_used : (f : ℕ → Record) (n c : ℕ) → Full f n c → (j : ℕ) → j < n → (f j).state ≡ 1 → (line : ℕ) → line < c →
    is_used f n line ≡ true
all_used f n c h j inside waits line below = go (is_used f n line) refl
  where
    go : (b : Bool) → is_used f n line ≡ b → b ≡ true
    go true e = refl
    go false e = absurd (h.none_waits line below e j inside waits)

-- ---- the record at a becomes one without a line, and its line goes to the record at b, with a ticket
abbrev pub handed : (ℕ → Record) → ℕ → ℕ → Record → ℕ → ℕ → Record
handed f ticket a left b = at b (on_empty_line (line_of (f a)) ticket (f b)) (at a left f)

-- what becomes of a record that gives its line up
pub record Off (left : Record) : Type 0 where
  pub state : left.state ≤ 1
  pub ticket : left.ticket ≡ 0

pub unlined_off : (r : Record) → Off (unlined r)
unfolding unlined
unlined_off r = record { state = omega arith; ticket = refl }

-- it stays tracked
pub unlined_tracks : (f : ℕ → Record) (n c a : ℕ) → a < n → 1 < (f a).state → (g : Gauge) (t : Truth) → Tracks f n c g t →
    Tracks (at a (unlined (f a)) f) n c g t
unfolding unlined
unlined_tracks f n c a inside lined g t =
    let loses : Restated (f a) (unlined (f a)) =
    record { key = refl; heat = refl; slack = refl; tracked = omega arith; unlined_ticket = λ low. refl } in
    state_tracks f n c a (unlined (f a)) inside (omega arith) loses g t (omega arith) (λ j below other l. absurd (omega arith))

module _ (f : ℕ → Record) (n ticket a b : ℕ) (left : Record) (off : Off left) (a-inside : a < n) (b-inside : b < n)
    (lined : 1 < (f a).state) (waits : (f b).state ≡ 1) where
  -- its line is then unused, and b gets it
  pub hand_tracks : (c : ℕ) (g : Gauge) (t was : Truth) → Tracks f n c g was → Tracks (at a left f) n c g t →
      Tracks (handed f ticket a left b) n c (with_serial ticket g) t
  unfolding line_of
  hand_tracks c g t was s without_tracks =
      let without : ℕ → Record = at a left f in
      let unused : is_used without n (line_of (f a)) ≡ false =
      none_on without n (line_of (f a))
      (λ j below. at_all (λ j r. 1 < r.state → line_of r ≢ line_of (f a)) a left f (λ l. absurd (omega (arith, off.state))) j
      (λ other j-lined e. other (s.lines_apart j a below a-inside j-lined lined e))) in
      let same : without b ≡ f b = at_other a b left f (λ e. omega (arith, rw e at waits)) in
      rw same at
      (give_tracks without n c b (line_of (f a)) ticket b-inside (rw same waits) (omega (arith, s.state_most a a-inside)) unused
      g t without_tracks)

  -- every line that was used is used
  pub hand_full : (c : ℕ) → ((line : ℕ) → line < c → is_used f n line ≡ true) → Full (handed f ticket a left b) n c
  hand_full c all =
      record { none_waits = λ line below unused. clash (all line below) (unused_before f (handed f ticket a left b) n each line unused) }
    where
      each : (j : ℕ) → j < n → 1 < (f j).state → is_used (handed f ticket a left b) n (line_of (f j)) ≡ true
      each j below j-lined =
          elim (ℕ_discrete j a) [
            | yes e ↦ rw e (taken_used (handed f ticket a left b) n b (line_of (f a)) ticket (f b) b-inside (at_same b _ _))
            | no e ↦
                let not_b : j ≢ b = λ e. omega (arith, rw e at j-lined) in
                used_at (handed f ticket a left b) n j (f j) below (at_other b j _ _ not_b ∙ at_other a j _ f e) j-lined
          ]

  handed_all : (P : ℕ → Record → Type 0) → P a left → P b (on_empty_line (line_of (f a)) ticket (f b)) →
      (j : ℕ) → (j ≢ a → j ≢ b → P j (f j)) → P j (handed f ticket a left b j)
  handed_all P at_a at_b j there = at_all P b _ _ at_b j (λ not_b. at_all P a _ f at_a j (λ not_a. there not_a not_b))

  -- none without a line is hotter than a heat, if what a becomes is not and no other without one was
  none_over : (heat : ℕ) → (left.state ≡ 1 → left.heat ≤ heat) → (j : ℕ) → (j ≢ b → (f j).state ≡ 1 → (f j).heat ≤ heat) →
      (handed f ticket a left b j).state ≡ 1 → (handed f ticket a left b j).heat ≤ heat
  unfolding on_empty_line empty_state
  none_over heat a-under j under =
      handed_all (λ j r. r.state ≡ 1 → r.heat ≤ heat) a-under (λ e. absurd (omega arith)) j (λ not_a. under)

  pub hand_hottest : ((i j : ℕ) → i < n → j < n → 1 < (f i).state → (f j).state ≡ 1 → i ≢ a → j ≢ b → (f j).heat ≤ (f i).heat) →
      (left.state ≡ 1 → (i : ℕ) → i < n → 1 < (f i).state → i ≢ a → left.heat ≤ (f i).heat) →
      ((j : ℕ) → j < n → (f j).state ≡ 1 → j ≢ b → (f j).heat ≤ (f b).heat) →
      (left.state ≡ 1 → left.heat ≤ (f b).heat) → Hottest (handed f ticket a left b) n
  unfolding on_empty_line
  hand_hottest others over under hotter =
      record {
        hottest = λ i j i-below j-below.
            handed_all (λ i r. 1 < r.state → (handed f ticket a left b j).state ≡ 1 → (handed f ticket a left b j).heat ≤ r.heat)
            (λ l. absurd (omega (arith, off.state)))
            (λ l. none_over (f b).heat hotter j (λ not_b e. under j j-below e not_b))
            i
            (λ not_a not_b l. none_over (f i).heat (λ e. over e i i-below l not_a) j
            (λ not_b e. others i j i-below j-below l e not_a not_b));
      }

-- the hotter one takes the line of the coldest
module _ (f : ℕ → Record) (n ticket a b : ℕ) (a-inside : a < n) (b-inside : b < n) (lined : 1 < (f a).state) (waits : (f b).state ≡ 1)
    (hotter : (f a).heat < (f b).heat) where
  pub take_hottest : HottestBut b f n → ((j : ℕ) → j < n → 1 < (f j).state → (f a).heat ≤ (f j).heat) →
      Hottest (handed f ticket a (unlined (f a)) b) n
  unfolding unlined
  take_hottest h coldest =
      hand_hottest f n ticket a b (unlined (f a)) (unlined_off (f a)) a-inside b-inside lined waits
      (λ i j i-below j-below l e not_a. h.hottest i j i-below j-below l e)
      (λ _ i below l not_a. coldest i below l)
      (λ j below e not_b. omega (arith, h.hottest a j a-inside below lined e not_b))
      (λ _. omega arith)

  -- the colder one is demoted for the hottest
  pub demote_hottest : HottestOver a f n → ((j : ℕ) → j < n → (f j).state ≡ 1 → (f j).heat ≤ (f b).heat) →
      Hottest (handed f ticket a (unlined (f a)) b) n
  unfolding unlined
  demote_hottest h hottest =
      hand_hottest f n ticket a b (unlined (f a)) (unlined_off (f a)) a-inside b-inside lined waits
      (λ i j i-below j-below l e not_a not_b. h.hottest i j i-below j-below l e not_a)
      (λ _ i below l not_a. omega (arith, h.hottest i b below b-inside l waits not_a))
      (λ j below e not_b. hottest j below e)
      (λ _. omega arith)
