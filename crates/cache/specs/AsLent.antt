-- Show gives back what was lent, and not a copy of it.
use Rattle.std.specs.Prelude.{ℕ, ◌+◌, ◌*◌, ◌≡◌, List}
use Rattle.std.proofs.Math.Option.{Option, none, some}
use Rattle.std.specs.Borrow.{Bor}
use Rattle.rules.specs.Bytes.{line_size, line_at}

-- | It returns the line's own 64 bytes, or the caller's stand-in, each as lent
-- The stand-in itself, or the part of the lines that begins where the line does, in the same memory.
abbrev pub AsLent : Bor (List ℕ) → Bor (List ℕ) → Bor (List ℕ) → Option ℕ → Type 0
AsLent returned lines standIn none = returned ≡ standIn
AsLent returned lines standIn (some n) =
    (returned.now ≡ line_at lines.now n) × (returned.ref_ptr ≡ (lines.ref_ptr.0, lines.ref_ptr.1 + line_size * n))
