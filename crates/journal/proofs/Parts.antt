-- A record's bytes are those of the journal from its position on.
use Rattle.std.proofs.Common.{◌≡◌, ℕ, zero, suc, ◌+◌, ◌*◌, ◌<◌, ◌≤◌, Bool, ◌&&◌, List, length, get_or, take, drop, nat_eq, refl, sym, ◌∙◌, arith, add-one, add-zero, add_assoc, length-take, length-drop}
use Rattle.std.proofs.lemmas.List.{get_or-take, get_or-drop}
use Rattle.std.proofs.lemmas.List.Folds.{list_all_more}
use Rattle.std.specs.List.{list_all}
use Rattle.rules.specs.Bytes.{get64}
use Rattle.rules.proofs.Places.{get_front, get_part}
use Rattle.rules.specs.Journal.{entry_size, zeros, kind_at, weight_at, key_at, ticket_at, gaps_zero, picture_zero, picture_place}

abbrev pub all_zero : List ℕ → Bool
all_zero bytes = list_all (λ b. nat_eq b 0) bytes

module _ (j : List ℕ) (at : ℕ) where
  abbrev pub cut : List ℕ
  cut = take entry_size (drop at j)

  byte : (k : ℕ) → k < entry_size → get_or cut k 0 ≡ get_or j (at + k) 0
  byte k inside = get_or-take _ (drop at j) _ 0 inside ∙ get_or-drop at j _ 0

  number : (from : ℕ) → from + 8 ≤ entry_size → get64 j (at + from) ≡ get64 cut from
  number from inside = sym (get_front (drop at j) entry_size from inside ∙ get_part j at from)

  zeros_cut : (from n : ℕ) → from + n ≤ length cut → zeros j (at + from) n ≡ all_zero (take n (drop from cut))
  unfolding zeros
  zeros_cut from zero inside = refl
  zeros_cut from (suc n) inside =
      let below : n < length (drop from cut) = rw length-drop (omega arith) in
      let here : from + n < entry_size = omega (arith, length-take entry_size (drop at j)) in
      rw (← add-one n, list_all_more (λ b. nat_eq b 0) (drop from cut) n 0 below, get_or-drop from cut n 0, byte (from + n) here, zeros_cut from n (omega arith), add_assoc)

  pub kind_part : kind_at j at ≡ get_or cut 0 0
  unfolding kind_at
  kind_part = rw add-zero at (sym (byte 0 (omega arith)))

  pub weight_part : weight_at j at ≡ get_or cut 2 0 + get_or cut 3 0 * 256
  unfolding weight_at
  weight_part = rw (byte 2 (omega arith), byte 3 (omega arith))

  pub key_part : key_at j at ≡ get64 cut 8
  unfolding key_at
  key_part = number 8 (omega arith)

  pub ticket_part : ticket_at j at ≡ get64 cut 80
  unfolding ticket_at
  ticket_part = number 80 (omega arith)

  pub gaps_part : entry_size ≤ length cut → gaps_zero j at ≡ (all_zero (take 1 (drop 1 cut)) && all_zero (take 4 (drop 4 cut)))
  unfolding gaps_zero
  gaps_part whole = rw (zeros_cut 1 1 (omega arith), zeros_cut 4 4 (omega arith))

  pub picture_part : entry_size ≤ length cut → picture_zero j at ≡ all_zero (take 64 (drop 16 cut))
  unfolding picture_zero picture_place
  picture_part whole = zeros_cut 16 64 (omega arith)

pub ruleset parts = (kind_part, weight_part, key_part, ticket_part, gaps_part, picture_part)
