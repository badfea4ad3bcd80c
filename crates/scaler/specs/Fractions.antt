-- One fraction, written in several ways: the words of the promise that an answer does not depend on it.
use Rattle.std.specs.Prelude.{ℕ, ◌*◌, ◌≡◌}
use Rattle.scaler.specs.declared.Ratio.{Ratio}
use Rattle.scaler.specs.declared.Epoch.{Epoch}
use Rattle.scaler.specs.Scale.{ratio}

-- as halves and as quarters
abbrev pub Equals : Ratio → Ratio → Type 0
Equals a b = a.over * b.under ≡ b.over * a.under

-- both parts times one number
unfoldable pub times : ℕ → Ratio → Ratio
times n r = ratio (n * r.over) (n * r.under)

-- the same epoch with other fractions
unfoldable pub with_fractions : Ratio → Ratio → Epoch → Epoch
with_fractions imbalance target e = record e { imbalance = imbalance; target = target }
