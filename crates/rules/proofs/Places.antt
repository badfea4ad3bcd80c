-- Laws of records in a table, of lines and of a host's gauge: what was put is read, other places keep what they had, lengths stay.
-- Everything above the formats rests on these and not on sizes or offsets. Assumes nothing.
use Prim.Native.Nat.{ℕ, zero, suc, ◌+◌, ◌*◌, ◌-◌, ◌≤◌, ◌<◌, ◌^◌}
use mathlib.Core.Path.{◌≡◌, refl, sym, ◌∙◌, ap}
use mathlib.Core.List.{List, ◌++◌}
use mathlib.Core.Logic.{◌⊎◌, inl, inr, ⊎_elim, ◌≢◌}
use native.Mathlib.Nat.{add-zero, add_assoc}
use native.Mathlib.Decide.{dec_lt, ℕ_discrete}
use native.Mathlib.Omega.{arith}
use lib.ListN.{length, get_or, take, drop, replicate, length-append, length-drop, take-append-drop, drop_of_length-le}
use lib.Dec.{lit<}
use lib.Seq.{get_or-drop, get_or-take, take_at, drop_at, length-take-le, take-append-le, drop-append-le, drop-append-add, drop-drop}
use Rattle.rules.specs.declared.Record.{Record}
use Rattle.rules.specs.declared.Gauge.{Gauge}
use Rattle.rules.specs.Bytes.{IsBytes, get64, put64, record_size, heat_place, slack_place, state_place, ticket_place, ceiling_place, serial_place, record_at, put_record, record_count, line_size, line_at, put_line, line_count, gauge_size, gauge_at, put_gauge}
use Rattle.rules.specs.Table.{change_all, fresh_gauge}
use Rattle.rules.proofs.Words.{bytes8, put64_over, length-put64, get-put64_same, get-put64_other, put64_bytes, get64_below, put_get64}

-- 64-bit numbers
pub record IsRecord (r : Record) : Type 0 where
  pub key : r.key < 2 ^ 64
  pub heat : r.heat < 2 ^ 64
  pub slack : r.slack < 2 ^ 64
  pub state : r.state < 2 ^ 64
  pub ticket : r.ticket < 2 ^ 64

-- ---- records
pub length-put_record : (t : List ℕ) (i : ℕ) (r : Record) → length (put_record t i r) ≡ length t
unfolding put_record
length-put_record t i r = simp length-put64

pub record_count_put : (t : List ℕ) (i : ℕ) (r : Record) → record_count (put_record t i r) ≡ record_count t
unfolding record_count
record_count_put t i r = rw length-put_record

pub put_record_bytes : (t : List ℕ) (i : ℕ) (r : Record) → IsBytes t → IsBytes (put_record t i r)
unfolding put_record
put_record_bytes t i r bytes =
    put64_bytes _ _ _ (put64_bytes _ _ _ (put64_bytes _ _ _ (put64_bytes _ _ _ (put64_bytes _ _ _ bytes))))

pub record_at_is : (t : List ℕ) (i : ℕ) → IsBytes t → IsRecord (record_at t i)
unfolding record_at
record_at_is t i bytes =
    record {
      key = get64_below t _ bytes;
      heat = get64_below t _ bytes;
      slack = get64_below t _ bytes;
      state = get64_below t _ bytes;
      ticket = get64_below t _ bytes;
    }

-- two places apart are one before the other
apart : (i j : ℕ) → j ≢ i → (j < i) ⊎ (i < j)
apart i j h = elim (dec_lt j i) [ yes l ↦ inl l | no l ↦ inr (omega arith) ]

-- the record lies inside the table
pub record_inside : (t : List ℕ) (i : ℕ) → i < record_count t → record_size * i + record_size ≤ length t
unfolding record_count
record_inside t i h = omega arith

-- a record's numbers put one after the other from a place
abbrev row : List ℕ → ℕ → Record → List ℕ
row t a r =
    put64
    (put64
    (put64
    (put64
    (put64 t a r.key)
    (a + heat_place) r.heat)
    (a + slack_place) r.slack)
    (a + state_place) r.state)
    (a + ticket_place) r.ticket

row_elsewhere : (t : List ℕ) (a : ℕ) (r : Record) (b : ℕ) → (b + 8 ≤ a) ⊎ (a + record_size ≤ b) → get64 (row t a r) b ≡ get64 t b
row_elsewhere t a r b apart =
    let past : (x : ℕ) → x + 8 ≤ record_size → (b + 8 ≤ a + x) ⊎ (a + x + 8 ≤ b) =
    λ x small. ⊎_elim (λ l. inl (omega arith)) (λ l. inr (omega arith)) apart in
    rw (
      get-put64_other _ (a + ticket_place) r.ticket b (past ticket_place (omega arith)),
      get-put64_other _ (a + state_place) r.state b (past state_place (omega arith)),
      get-put64_other _ (a + slack_place) r.slack b (past slack_place (omega arith)),
      get-put64_other _ (a + heat_place) r.heat b (past heat_place (omega arith)),
    )
    (get-put64_other t a r.key b (⊎_elim (λ l. inl l) (λ l. inr (omega arith)) apart))

module _ (t : List ℕ) (a : ℕ) (r : Record) (room : a + record_size ≤ length t) where
  row_key : r.key < 2 ^ 64 → get64 (row t a r) a ≡ r.key
  row_key fits =
      rw (
        get-put64_other _ (a + ticket_place) r.ticket a (inl (omega arith)),
        get-put64_other _ (a + state_place) r.state a (inl (omega arith)),
        get-put64_other _ (a + slack_place) r.slack a (inl (omega arith)),
        get-put64_other _ (a + heat_place) r.heat a (inl (omega arith)),
      )
      (get-put64_same t a r.key (omega arith) fits)

  row_heat : r.heat < 2 ^ 64 → get64 (row t a r) (a + heat_place) ≡ r.heat
  row_heat fits =
      rw (
        get-put64_other _ (a + ticket_place) r.ticket (a + heat_place) (inl (omega arith)),
        get-put64_other _ (a + state_place) r.state (a + heat_place) (inl (omega arith)),
        get-put64_other _ (a + slack_place) r.slack (a + heat_place) (inl (omega arith)),
      )
      (get-put64_same _ (a + heat_place) r.heat (simp length-put64 (omega arith)) fits)

  row_slack : r.slack < 2 ^ 64 → get64 (row t a r) (a + slack_place) ≡ r.slack
  row_slack fits =
      rw (
        get-put64_other _ (a + ticket_place) r.ticket (a + slack_place) (inl (omega arith)),
        get-put64_other _ (a + state_place) r.state (a + slack_place) (inl (omega arith)),
      )
      (get-put64_same _ (a + slack_place) r.slack (simp length-put64 (omega arith)) fits)

  row_state : r.state < 2 ^ 64 → get64 (row t a r) (a + state_place) ≡ r.state
  row_state fits =
      rw (get-put64_other _ (a + ticket_place) r.ticket (a + state_place) (inl (omega arith)))
      (get-put64_same _ (a + state_place) r.state (simp length-put64 (omega arith)) fits)

  row_ticket : r.ticket < 2 ^ 64 → get64 (row t a r) (a + ticket_place) ≡ r.ticket
  row_ticket fits = get-put64_same _ (a + ticket_place) r.ticket (simp length-put64 (omega arith)) fits

pub record_same : (t : List ℕ) (i : ℕ) (r : Record) → i < record_count t → IsRecord r → record_at (put_record t i r) i ≡ r
unfolding record_at put_record
record_same t i r h fits =
    let room : record_size * i + record_size ≤ length t = record_inside t i h in
    let a = record_size * i in
    rw (
      row_key t a r room fits.key,
      row_heat t a r room fits.heat,
      row_slack t a r room fits.slack,
      row_state t a r room fits.state,
      row_ticket t a r room fits.ticket,
    )

pub record_other : (t : List ℕ) (i j : ℕ) (r : Record) → j ≢ i → record_at (put_record t i r) j ≡ record_at t j
unfolding record_at put_record
record_other t i j r h =
    let kept : (x : ℕ) → x + 8 ≤ record_size →
    get64 (row t (record_size * i) r) (record_size * j + x) ≡ get64 t (record_size * j + x) =
    λ x small. row_elsewhere t (record_size * i) r (record_size * j + x)
    (⊎_elim (λ l. inl (omega arith)) (λ l. inr (omega arith)) (apart i j h)) in
    rw (
      rw add-zero at (kept 0 (omega arith)),
      kept heat_place (omega arith),
      kept slack_place (omega arith),
      kept state_place (omega arith),
      kept ticket_place (omega arith),
    )

-- a zero byte is read at every place of a cleared table
zero_at : (n i : ℕ) → get_or {A = ℕ} (replicate n 0) i 0 ≡ 0
zero_at zero i = refl
zero_at (suc n) zero = refl
zero_at (suc n) (suc i) = zero_at n i

pub record_zero : (n i : ℕ) → record_at (replicate n 0) i ≡ record { key = 0; heat = 0; slack = 0; state = 0; ticket = 0 }
unfolding record_at get64
record_zero n i = simp zero_at

pub zero_bytes : (n : ℕ) → IsBytes (replicate n 0)
zero_bytes n = record { below = λ i. rw (zero_at n i) (lit< tt) }

pub get_part : (t : List ℕ) (a at : ℕ) → get64 (drop a t) at ≡ get64 t (a + at)
unfolding get64
get_part t a at = simp (get_or-drop, add_assoc)

pub record_part : (t : List ℕ) (m i : ℕ) → record_at (drop (record_size * m) t) i ≡ record_at t (m + i)
unfolding record_at
record_part t m i =
    let e : record_size * (m + i) ≡ record_size * m + record_size * i = omega arith in
    rw e (simp (get_part, add_assoc))

pub get_front : (t : List ℕ) (n at : ℕ) → at + 8 ≤ n → get64 (take n t) at ≡ get64 t at
unfolding get64
get_front t n at room =
    let same : (k : ℕ) → k < 8 → get_or (take n t) (at + k) 0 ≡ get_or t (at + k) 0 = λ k small. get_or-take n t (at + k) 0 (omega arith) in
    rw (
      rw add-zero at (same 0 (omega arith)),
      same 1 (omega arith),
      same 2 (omega arith),
      same 3 (omega arith),
      same 4 (omega arith),
      same 5 (omega arith),
      same 6 (omega arith),
      same 7 (omega arith),
    )

pub record_front : (t : List ℕ) (m i : ℕ) → i < m → record_at (take (record_size * m) t) i ≡ record_at t i
unfolding record_at
record_front t m i below =
    let same : (x : ℕ) → x ≤ ticket_place → get64 (take (record_size * m) t) (record_size * i + x) ≡ get64 t (record_size * i + x) =
    λ x small. get_front t (record_size * m) (record_size * i + x) (omega arith) in
    rw (
      rw add-zero at (same 0 (omega arith)),
      same heat_place (omega arith),
      same slack_place (omega arith),
      same state_place (omega arith),
      same ticket_place (omega arith),
    )

-- ---- lines
-- a line lies inside the lines, and parts them
module _ (lines : List ℕ) (n : ℕ) (picture : List ℕ) (h : n < line_count lines) (e : length picture ≡ line_size) where
  line_room : line_size * n + line_size ≤ length lines
  unfolding line_count
  line_room = omega arith

  front : length (take (line_size * n) lines) ≡ line_size * n
  front = length-take-le (line_size * n) lines (omega (arith, line_room))

  pub length-put_line : length (put_line lines n picture) ≡ length lines
  unfolding put_line
  length-put_line = simp (length-append, length-drop) (omega (arith, line_room, front))

  pub line_same : line_at (put_line lines n picture) n ≡ picture
  unfolding line_at put_line
  line_same =
      rw (drop_at (take (line_size * n) lines) (picture ++ drop line_size (drop (line_size * n) lines)) (line_size * n) front)
      (take_at picture (drop line_size (drop (line_size * n) lines)) line_size e)

  -- a line before it lies in the front, and one after it in the rest
  before : (k : ℕ) (rest : List ℕ) → k < n →
      take line_size (drop (line_size * k) (take (line_size * n) lines ++ rest))
      ≡ take line_size (drop (line_size * k) (take (line_size * n) lines))
  before k rest l =
      rw (drop-append-le (line_size * k) (take (line_size * n) lines) rest (omega (arith, front)))
      (take-append-le line_size (drop (line_size * k) (take (line_size * n) lines)) rest (simp length-drop (omega (arith, front))))

  after : (k : ℕ) → n < k → drop (line_size * k) (put_line lines n picture) ≡ drop (line_size * k) lines
  unfolding put_line
  after k l =
      let x = line_size * k - line_size * n - line_size in
      let past : line_size * k ≡ length (take (line_size * n) lines) + (length picture + x) = omega (arith, front) in
      let there : line_size * n + (line_size + x) ≡ line_size * k = omega arith in
      ap (λ (m : ℕ). drop m (put_line lines n picture)) past
      ∙ drop-append-add (take (line_size * n) lines) _ (length picture + x)
      ∙ drop-append-add picture _ x
      ∙ drop-drop x line_size (drop (line_size * n) lines)
      ∙ drop-drop (line_size + x) (line_size * n) lines
      ∙ ap (λ (m : ℕ). drop m lines) there

  pub line_other : (k : ℕ) → k ≢ n → line_at (put_line lines n picture) k ≡ line_at lines k
  unfolding line_at put_line
  line_other k differ =
      ⊎_elim
      (λ l.
      before k (picture ++ drop line_size (drop (line_size * n) lines)) l
      ∙ sym (before k (drop (line_size * n) lines) l)
      ∙ ap (λ (ls : List ℕ). take line_size (drop (line_size * k) ls)) (take-append-drop (line_size * n) lines))
      (λ l. ap (take line_size) (after k l))
      (apart n k differ)

-- ---- a host's gauge
pub record IsGauge (g : Gauge) : Type 0 where
  pub total : g.total < 2 ^ 64
  pub ceiling : g.ceiling < 2 ^ 64
  pub serial : g.serial < 2 ^ 64

pub gauge_same : (b : List ℕ) (g : Gauge) → length b ≡ gauge_size → IsGauge g → gauge_at (put_gauge b g) ≡ g
unfolding gauge_at put_gauge
gauge_same b g e fits =
    let one = put64 b 0 g.total in
    let two = put64 one ceiling_place g.ceiling in
    rw (
      get-put64_other two serial_place g.serial 0 (inl (omega arith)),
      get-put64_other two serial_place g.serial ceiling_place (inl (omega arith)),
      get-put64_other one ceiling_place g.ceiling 0 (inl (omega arith)),
      get-put64_same b 0 g.total (omega arith) fits.total,
      get-put64_same one ceiling_place g.ceiling (simp length-put64 (omega arith)) fits.ceiling,
      get-put64_same two serial_place g.serial (simp length-put64 (omega arith)) fits.serial,
    )

-- put as zero, it is zero in every byte
pub gauge_zeroed : (b : List ℕ) → length b ≡ gauge_size → put_gauge b fresh_gauge ≡ replicate gauge_size 0
unfolding put_gauge fresh_gauge bytes8
gauge_zeroed b e =
    let one = put64 b 0 0 in
    let two = put64 one ceiling_place 0 in
    let one_long : length one ≡ gauge_size = length-put64 b 0 0 ∙ e in
    let two_long : length two ≡ gauge_size = length-put64 one ceiling_place 0 ∙ one_long in
    let one_front : take ceiling_place one ≡ bytes8 0 = rw (put64_over b 0 0 (omega arith)) (take_at (bytes8 0) (drop 8 b) ceiling_place refl) in
    let two_front : take serial_place two ≡ bytes8 0 ++ bytes8 0 =
    rw (put64_over one ceiling_place 0 (omega arith), one_front)
    (take_at (bytes8 0 ++ bytes8 0) (drop serial_place one) serial_place refl) in
    rw (put64_over two serial_place 0 (omega arith), two_front, drop_of_length-le two {i = serial_place + 8} (omega arith)) refl

pub gauge_kept : (b : List ℕ) → IsBytes b → put_gauge b (gauge_at b) ≡ b
unfolding gauge_at put_gauge
gauge_kept b bytes = rw (put_get64 b 0 bytes, put_get64 b ceiling_place bytes) (put_get64 b serial_place bytes)

-- ---- each record changed alike
module _ (change : Record → Record) (kept : (r : Record) → IsRecord r → IsRecord (change r)) where
  pub change_all_length : (t : List ℕ) (n : ℕ) → length (change_all change t n) ≡ length t
  unfolding change_all
  change_all_length t zero = refl
  change_all_length t (suc n) = rw length-put_record (change_all_length t n)

  pub change_all_count : (t : List ℕ) (n : ℕ) → record_count (change_all change t n) ≡ record_count t
  unfolding record_count
  change_all_count t n = rw (change_all_length t n)

  pub change_all_bytes : (t : List ℕ) (n : ℕ) → IsBytes t → IsBytes (change_all change t n)
  unfolding change_all
  change_all_bytes t zero bytes = bytes
  change_all_bytes t (suc n) bytes = put_record_bytes _ n _ (change_all_bytes t n bytes)

  pub change_all_above : (t : List ℕ) (n i : ℕ) → n ≤ i → record_at (change_all change t n) i ≡ record_at t i
  unfolding change_all
  change_all_above t zero i h = refl
  change_all_above t (suc n) i h = record_other _ n i _ (omega arith) ∙ change_all_above t n i (omega arith)

  pub change_all_at : (t : List ℕ) (n i : ℕ) → IsBytes t → i < n → n ≤ record_count t →
      record_at (change_all change t n) i ≡ change (record_at t i)
  unfolding change_all
  change_all_at t zero i bytes h whole = absurd (omega arith)
  change_all_at t (suc n) i bytes h whole =
      let t' = change_all change t n in
      let room : n < record_count t' = rw (change_all_count t n) whole in
      let is : IsRecord (change (record_at t' n)) = kept (record_at t' n) (record_at_is t' n (change_all_bytes t n bytes)) in
      elim (ℕ_discrete i n) [
        | yes e ↦ rw (e, record_same t' n (change (record_at t' n)) room is) (ap change (change_all_above t n n (omega arith)))
        | no e ↦ record_other t' n i (change (record_at t' n)) e ∙ change_all_at t n i bytes (omega arith) (omega arith)
      ]
