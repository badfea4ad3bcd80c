-- The byte of each kind of record, and what reading it gives.
use Rattle.std.specs.Prelude.{ℕ, ◌≡◌, ◌<◌, Result, MatchResult}
use Rattle.journal.specs.declared.Kind.{Kind}
use Rattle.journal.specs.declared.Kind.TheVariants.{Read, Update, Fill, Age, Withdraw}
use Rattle.rules.specs.declared.Refusal.{Refusal}
use Rattle.rules.specs.declared.Refusal.TheVariants.{UnknownForm}
use Rattle.rules.specs.Answers.{read_kind, update_kind, fill_kind, age_kind, withdraw_kind}

-- | Byte 0 is the kind: 1 read, 2 update, 3 fill, 4 age. .. [A withdrawal's] journal kind is 5 (document 02)
abbrev pub byte_of : Kind → ℕ
byte_of Read = read_kind
byte_of Update = update_kind
byte_of Fill = fill_kind
byte_of Age = age_kind
byte_of Withdraw = withdraw_kind

-- the kind of this byte, or a refusal, for a byte that no kind has
abbrev pub Decodes : ℕ → Result Kind Refusal → Type 0
Decodes byte r =
    MatchResult r (λ kind. byte_of kind ≡ byte) (λ cause. (cause ≡ UnknownForm) × (0 < byte → withdraw_kind < byte))
