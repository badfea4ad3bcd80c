-- What Algorithm 3 compares, with each cross product written out: the words of the promises.
use Rattle.std.specs.Prelude.{ℕ, ◌*◌, ◌-◌, ◌≤◌, ◌<◌, ◌≡◌, ◌⊎◌, List}
use Rattle.scaler.specs.declared.Epoch.{Epoch}
use Rattle.scaler.specs.Scale.{greatest, least}

-- | I_c > I_t
abbrev pub Over : List ℕ → Epoch → Type 0
Over lookups e = e.imbalance.over * least lookups < greatest lookups * e.imbalance.under

-- [or not]
abbrev pub Within : List ℕ → Epoch → Type 0
Within lookups e = greatest lookups * e.imbalance.under ≤ e.imbalance.over * least lookups

-- | α_c ≥ α_k-c
abbrev pub AsWarm : Epoch → Type 0
AsWarm e = e.off * e.lines ≤ e.on * (e.records - e.lines)

-- | Unless grow is due
abbrev pub NotDue : List ℕ → Epoch → Type 0
NotDue lookups e = Within lookups e ⊎ (e.on * (e.records - e.lines) < e.off * e.lines)

-- | α_c < (1 − ε) · α_t
abbrev pub OnBelow : Epoch → Type 0
OnBelow e = e.on * (1000 * e.target.under) < (1000 - e.tolerance) * e.target.over * e.lines

-- [or not]
abbrev pub OnEnough : Epoch → Type 0
OnEnough e = (1000 - e.tolerance) * e.target.over * e.lines ≤ e.on * (1000 * e.target.under)

-- | α_k-c < (1 − ε) · α_t
abbrev pub OffBelow : Epoch → Type 0
OffBelow e = e.off * (1000 * e.target.under) < (1000 - e.tolerance) * e.target.over * (e.records - e.lines)

-- | α_k-c > (1 − ε) · α_t
abbrev pub OffAbove : Epoch → Type 0
OffAbove e = (1000 - e.tolerance) * e.target.over * (e.records - e.lines) < e.off * (1000 * e.target.under)

-- | an off-line average exactly at the tolerated target
abbrev pub OffExact : Epoch → Type 0
OffExact e = e.off * (1000 * e.target.under) ≡ (1000 - e.tolerance) * e.target.over * (e.records - e.lines)
