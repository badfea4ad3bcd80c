-- A number is put where its eight bytes, lowest first, are copied over a part of the list.
use Rattle.std.proofs.Common.{ℕ, List, length, ◌≡◌, ◌+◌, ◌-◌, ◌≤◌, arith, refl, w64, drop-drop}
use Rattle.std.specs.Int.{to_le_bytes}
use borrow.Rule.Slice.PartMut.{put_mid}
use Rattle.rules.specs.Bytes.{put64}
use Rattle.rules.proofs.Words.{put64_over, bytes8}

pub put64_part : (l : List ℕ) (at n : ℕ) → at + 8 ≤ length l → put64 l at n ≡ put_mid at (at + 8 - at) l (to_le_bytes w64 n)
unfolding bytes8
put64_part l at n room =
    let eight : at + 8 - at ≡ 8 = omega arith in
    rw (put64_over l at n room, eight, drop-drop) refl
