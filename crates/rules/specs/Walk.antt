-- One walk over the table for a key that may be untracked: all that steps 2 to 4 of a read look for (document 02).
use Rattle.std.specs.Prelude.{ℕ, None}
use Rattle.rules.specs.declared.Record.{Record}
use Rattle.rules.specs.Pass.{Found, pass, first, best}
use Rattle.rules.specs.Table.{has_key, is_free, is_unlined, leaves}

-- | it holds exactly the key's record, the first free one and step 4's victim .., none where there is none
pub record Walk : Type 0 where
  pub own : Found
  pub free : Found
  pub victim : Found

-- before the first record
abbrev pub nothing_held : Walk
nothing_held = record { own = None; free = None; victim = None }

-- | the key, what it holds and the next record with its place alone decide what it holds next
unfoldable pub walk_step : ℕ → Walk → ℕ → Record → Walk
walk_step key held i r =
    record {
      own = first (has_key key) held.own i r;
      free = first is_free held.free i r;
      victim = best is_unlined leaves held.victim i r;
    }

-- | After its first n records
unfoldable pub walk : ℕ → (ℕ → Record) → ℕ → Walk
walk key = pass (walk_step key) nothing_held
