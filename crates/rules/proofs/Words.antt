-- Laws of 64-bit numbers in bytes: what was put is got, elsewhere nothing changes, and what was got, put back, changes nothing.
-- A put is a run of eight stores, so what lies at an index after it goes by induction on the stores; the digits are arithmetic.
-- Assumes nothing.
use Prim.Native.Nat.{ℕ, zero, suc, ◌+◌, ◌*◌, ◌/◌, ◌%◌, ◌≤◌, ◌<◌, ◌^◌}
use mathlib.Core.Path.{◌≡◌, refl, sym, ◌∙◌, ap}
use mathlib.Core.List.{List, [], ◌∷◌, ◌++◌, append_assoc}
use mathlib.Core.Logic.{◌⊎◌, inl, inr, ⊎_elim}
use native.Mathlib.Nat.{mod-lt, mod-add-div, div-div-eq-div-mul, div-eq_of_lt, div-lt_iff_lt-mul, add-zero, zero-add, add-mul-div_left, add-mul-mod_self_left, mod-eq_of_lt, div-one}
use native.Mathlib.Numerals.{towards_suc}
use native.Mathlib.Omega.{arith}
use lib.ListN.{length, get_or, take, drop, set, length-set}
use lib.Seq.{sets, length-sets, sets-eq, get_or-set_same, get_or-set_other, set-get_or}
use lib.Dec.{lit<}
use Rattle.rules.specs.Bytes.{IsBytes, get64, put64}

-- ---- a run of stores
stores_below : (vs l : List ℕ) (i j : ℕ) → j < i → get_or (sets l i vs) j 0 ≡ get_or l j 0
stores_below [] l i j h = refl
stores_below (v ∷ vs) l i j h =
    stores_below vs (set l i v) (suc i) j (omega arith) ∙ get_or-set_other l i j v 0 (omega arith)

stores_above : (vs l : List ℕ) (i j : ℕ) → i + length vs ≤ j → get_or (sets l i vs) j 0 ≡ get_or l j 0
stores_above [] l i j h = refl
stores_above (v ∷ vs) l i j h =
    stores_above vs (set l i v) (suc i) j (omega arith) ∙ get_or-set_other l i j v 0 (omega arith)

stores_in : (vs l : List ℕ) (i k : ℕ) → i + length vs ≤ length l → k < length vs → get_or (sets l i vs) (i + k) 0 ≡ get_or vs k 0
stores_in [] l i k h below = absurd (omega arith)
stores_in (v ∷ vs) l i zero h below =
    rw add-zero (stores_below vs (set l i v) (suc i) i (omega arith) ∙ get_or-set_same l i v 0 (omega arith))
stores_in (v ∷ vs) l i (suc k) h below =
    let e : i + suc k ≡ suc i + k = omega arith in
    rw e (stores_in vs (set l i v) (suc i) k (simp length-set (omega arith)) (omega arith))

-- ---- digits
unfoldable pub bytes8 : ℕ → List ℕ
bytes8 n =
    n % 256
    ∷ n / 256 % 256
    ∷ n / 65536 % 256
    ∷ n / 16777216 % 256
    ∷ n / 4294967296 % 256
    ∷ n / 1099511627776 % 256
    ∷ n / 281474976710656 % 256
    ∷ n / 72057594037927936 % 256
    ∷ []

put_stores : (l : List ℕ) (at n : ℕ) → put64 l at n ≡ sets l at (bytes8 n)
unfolding put64 bytes8
put_stores l at n = simp towards_suc

bytes8_length : (n : ℕ) → length (bytes8 n) ≡ 8
unfolding bytes8
bytes8_length n = refl

-- the number is its digits
level : (n c d : ℕ) → c * 256 ≡ d → n / c % 256 + 256 * (n / d) ≡ n / c
level n c d e = rw (← e, ← (div-div-eq-div-mul n c 256)) (mod-add-div (n / c) 256)

digits_add : (d0 d1 d2 d3 d4 d5 d6 d7 q1 q2 q3 q4 q5 q6 q7 q8 n : ℕ) →
    d0 + 256 * q1 ≡ n → d1 + 256 * q2 ≡ q1 → d2 + 256 * q3 ≡ q2 → d3 + 256 * q4 ≡ q3 →
    d4 + 256 * q5 ≡ q4 → d5 + 256 * q6 ≡ q5 → d6 + 256 * q7 ≡ q6 → d7 + 256 * q8 ≡ q7 → q8 ≡ 0 →
    d0 + d1 * 256 + d2 * 65536 + d3 * 16777216 + d4 * 4294967296 + d5 * 1099511627776
    + d6 * 281474976710656 + d7 * 72057594037927936 ≡ n
digits_add d0 d1 d2 d3 d4 d5 d6 d7 q1 q2 q3 q4 q5 q6 q7 q8 n e0 e1 e2 e3 e4 e5 e6 e7 e8 = omega arith

bytes8_sum : (n : ℕ) → n < 2 ^ 64 →
    n % 256
    + n / 256 % 256 * 256
    + n / 65536 % 256 * 65536
    + n / 16777216 % 256 * 16777216
    + n / 4294967296 % 256 * 4294967296
    + n / 1099511627776 % 256 * 1099511627776
    + n / 281474976710656 % 256 * 281474976710656
    + n / 72057594037927936 % 256 * 72057594037927936
    ≡ n
bytes8_sum n h =
    digits_add _ _ _ _ _ _ _ _ _ _ _ _ _ _ _ _ n
    (mod-add-div n 256)
    (level n 256 65536 refl)
    (level n 65536 16777216 refl)
    (level n 16777216 4294967296 refl)
    (level n 4294967296 1099511627776 refl)
    (level n 1099511627776 281474976710656 refl)
    (level n 281474976710656 72057594037927936 refl)
    (mod-add-div (n / 72057594037927936) 256)
    (div-eq_of_lt ((div-lt_iff_lt-mul (lit< tt)).1 h))

-- ---- the laws
pub length-put64 : (l : List ℕ) (at n : ℕ) → length (put64 l at n) ≡ length l
length-put64 l at n = rw put_stores (length-sets l at (bytes8 n))

-- eight bytes are written over
pub put64_over : (l : List ℕ) (at n : ℕ) → at + 8 ≤ length l → put64 l at n ≡ take at l ++ (bytes8 n ++ drop (at + 8) l)
put64_over l at n room = rw (put_stores, ← bytes8_length n) (sets-eq (bytes8 n) l at (rw (bytes8_length n) room) ∙ append_assoc (take at l) (bytes8 n) _)

pub put64_other : (l : List ℕ) (at n j : ℕ) → (j < at) ⊎ (at + 8 ≤ j) → get_or (put64 l at n) j 0 ≡ get_or l j 0
put64_other l at n j (inl h) = rw put_stores (stores_below (bytes8 n) l at j h)
put64_other l at n j (inr h) = rw put_stores (stores_above (bytes8 n) l at j (rw (bytes8_length n) h))

digit_at : (l : List ℕ) (at n k : ℕ) → at + 8 ≤ length l → k < 8 → get_or (put64 l at n) (at + k) 0 ≡ get_or (bytes8 n) k 0
digit_at l at n k room below =
    rw put_stores (stores_in (bytes8 n) l at k (rw (bytes8_length n) room) (rw (bytes8_length n) below))

pub get-put64_same : (l : List ℕ) (at n : ℕ) → at + 8 ≤ length l → n < 2 ^ 64 → get64 (put64 l at n) at ≡ n
unfolding get64 bytes8
get-put64_same l at n room fits =
    rw (
      sym (ap (λ (k : ℕ). get_or (put64 l at n) k 0) (add-zero at)) ∙ digit_at l at n 0 room (lit< tt),
      digit_at l at n 1 room (lit< tt),
      digit_at l at n 2 room (lit< tt),
      digit_at l at n 3 room (lit< tt),
      digit_at l at n 4 room (lit< tt),
      digit_at l at n 5 room (lit< tt),
      digit_at l at n 6 room (lit< tt),
      digit_at l at n 7 room (lit< tt),
    )
    (bytes8_sum n fits)

pub get-put64_other : (l : List ℕ) (at n j : ℕ) → (j + 8 ≤ at) ⊎ (at + 8 ≤ j) → get64 (put64 l at n) j ≡ get64 l j
unfolding get64
get-put64_other l at n j apart =
    let same : (k : ℕ) → k < 8 → get_or (put64 l at n) (j + k) 0 ≡ get_or l (j + k) 0 =
    λ k below. put64_other l at n (j + k) (⊎_elim (λ h. inl (omega arith)) (λ h. inr (omega arith)) apart) in
    rw (
      put64_other l at n j (⊎_elim (λ h. inl (omega arith)) (λ h. inr (omega arith)) apart),
      same 1 (lit< tt),
      same 2 (lit< tt),
      same 3 (lit< tt),
      same 4 (lit< tt),
      same 5 (lit< tt),
      same 6 (lit< tt),
      same 7 (lit< tt),
    )

set_below : (l : List ℕ) (i v j : ℕ) → v < 256 → get_or l j 0 < 256 → get_or (set l i v) j 0 < 256
set_below [] i v j small below = below
set_below (x ∷ l) zero v zero small below = small
set_below (x ∷ l) zero v (suc j) small below = below
set_below (x ∷ l) (suc i) v zero small below = below
set_below (x ∷ l) (suc i) v (suc j) small below = set_below l i v j small below

set_bytes : (l : List ℕ) (i v : ℕ) → v < 256 → IsBytes l → IsBytes (set l i v)
set_bytes l i v small bytes = record { below = λ j. set_below l i v j small (bytes.below j) }

pub put64_bytes : (l : List ℕ) (at n : ℕ) → IsBytes l → IsBytes (put64 l at n)
unfolding put64
put64_bytes l at n bytes =
    let digit : (x : ℕ) → x % 256 < 256 = λ x. mod-lt x (lit< tt) in
    set_bytes _ _ _ (digit _)
    (set_bytes _ _ _ (digit _)
    (set_bytes _ _ _ (digit _)
    (set_bytes _ _ _ (digit _)
    (set_bytes _ _ _ (digit _)
    (set_bytes _ _ _ (digit _)
    (set_bytes _ _ _ (digit _)
    (set_bytes _ _ _ (digit _) bytes)))))))

pub get64_below : (l : List ℕ) (at : ℕ) → IsBytes l → get64 l at < 2 ^ 64
unfolding get64
get64_below l at bytes =
    let b = bytes.below in
    omega (arith, b at, b (at + 1), b (at + 2), b (at + 3), b (at + 4), b (at + 5), b (at + 6), b (at + 7))

-- the digits are the bytes
byte_of : (low high b n c : ℕ) → low < c → b < 256 → n ≡ low + c * (b + 256 * high) → 0 < c → n / c % 256 ≡ b
byte_of low high b n c small below e pos =
    rw (e, add-mul-div_left low (b + 256 * high) pos, div-eq_of_lt small, zero-add)
    (add-mul-mod_self_left b 256 high ∙ mod-eq_of_lt below)

-- a put of the digits that are there changes nothing
put_same : (l : List ℕ) (at n : ℕ) → n % 256 ≡ get_or l at 0 →
    n / 256 % 256 ≡ get_or l (at + 1) 0 →
    n / 65536 % 256 ≡ get_or l (at + 2) 0 →
    n / 16777216 % 256 ≡ get_or l (at + 3) 0 →
    n / 4294967296 % 256 ≡ get_or l (at + 4) 0 →
    n / 1099511627776 % 256 ≡ get_or l (at + 5) 0 →
    n / 281474976710656 % 256 ≡ get_or l (at + 6) 0 →
    n / 72057594037927936 % 256 ≡ get_or l (at + 7) 0 →
    put64 l at n ≡ l
unfolding put64
put_same l at n e0 e1 e2 e3 e4 e5 e6 e7 =
    rw (e0, e1, e2, e3, e4, e5, e6, e7)
    (simp set-get_or)

pub put_get64 : (l : List ℕ) (at : ℕ) → IsBytes l → put64 l at (get64 l at) ≡ l
unfolding get64
put_get64 l at bytes =
    let b0 : get_or l at 0 < 256 = bytes.below at in
    let b1 : get_or l (at + 1) 0 < 256 = bytes.below (at + 1) in
    let b2 : get_or l (at + 2) 0 < 256 = bytes.below (at + 2) in
    let b3 : get_or l (at + 3) 0 < 256 = bytes.below (at + 3) in
    let b4 : get_or l (at + 4) 0 < 256 = bytes.below (at + 4) in
    let b5 : get_or l (at + 5) 0 < 256 = bytes.below (at + 5) in
    let b6 : get_or l (at + 6) 0 < 256 = bytes.below (at + 6) in
    let b7 : get_or l (at + 7) 0 < 256 = bytes.below (at + 7) in
    put_same l at (get64 l at)
    (sym (ap (λ (m : ℕ). m % 256) (div-one (get64 l at))) ∙ byte_of 0 (get_or l (at + 1) 0 + get_or l (at + 2) 0 * 256 + get_or l (at + 3) 0 * 65536 + get_or l (at + 4) 0 * 16777216 + get_or l (at + 5) 0 * 4294967296 + get_or l (at + 6) 0 * 1099511627776 + get_or l (at + 7) 0 * 281474976710656) (get_or l at 0) (get64 l at) 1 (omega arith) b0 (omega arith) (omega arith))
    (byte_of (get_or l at 0) (get_or l (at + 2) 0 + get_or l (at + 3) 0 * 256 + get_or l (at + 4) 0 * 65536 + get_or l (at + 5) 0 * 16777216 + get_or l (at + 6) 0 * 4294967296 + get_or l (at + 7) 0 * 1099511627776) (get_or l (at + 1) 0) (get64 l at) 256 (omega arith) b1 (omega arith) (omega arith))
    (byte_of (get_or l at 0 + get_or l (at + 1) 0 * 256) (get_or l (at + 3) 0 + get_or l (at + 4) 0 * 256 + get_or l (at + 5) 0 * 65536 + get_or l (at + 6) 0 * 16777216 + get_or l (at + 7) 0 * 4294967296) (get_or l (at + 2) 0) (get64 l at) 65536 (omega arith) b2 (omega arith) (omega arith))
    (byte_of (get_or l at 0 + get_or l (at + 1) 0 * 256 + get_or l (at + 2) 0 * 65536) (get_or l (at + 4) 0 + get_or l (at + 5) 0 * 256 + get_or l (at + 6) 0 * 65536 + get_or l (at + 7) 0 * 16777216) (get_or l (at + 3) 0) (get64 l at) 16777216 (omega arith) b3 (omega arith) (omega arith))
    (byte_of (get_or l at 0 + get_or l (at + 1) 0 * 256 + get_or l (at + 2) 0 * 65536 + get_or l (at + 3) 0 * 16777216) (get_or l (at + 5) 0 + get_or l (at + 6) 0 * 256 + get_or l (at + 7) 0 * 65536) (get_or l (at + 4) 0) (get64 l at) 4294967296 (omega arith) b4 (omega arith) (omega arith))
    (byte_of (get_or l at 0 + get_or l (at + 1) 0 * 256 + get_or l (at + 2) 0 * 65536 + get_or l (at + 3) 0 * 16777216 + get_or l (at + 4) 0 * 4294967296) (get_or l (at + 6) 0 + get_or l (at + 7) 0 * 256) (get_or l (at + 5) 0) (get64 l at) 1099511627776 (omega arith) b5 (omega arith) (omega arith))
    (byte_of (get_or l at 0 + get_or l (at + 1) 0 * 256 + get_or l (at + 2) 0 * 65536 + get_or l (at + 3) 0 * 16777216 + get_or l (at + 4) 0 * 4294967296 + get_or l (at + 5) 0 * 1099511627776) (get_or l (at + 7) 0) (get_or l (at + 6) 0) (get64 l at) 281474976710656 (omega arith) b6 (omega arith) (omega arith))
    (byte_of (get_or l at 0 + get_or l (at + 1) 0 * 256 + get_or l (at + 2) 0 * 65536 + get_or l (at + 3) 0 * 16777216 + get_or l (at + 4) 0 * 4294967296 + get_or l (at + 5) 0 * 1099511627776 + get_or l (at + 6) 0 * 281474976710656) (0) (get_or l (at + 7) 0) (get64 l at) 72057594037927936 (omega arith) b7 (omega arith) (omega arith))
