-- What a call does to a count of faults.
use Rattle.std.specs.Prelude.{◌≡◌, ℕ, ◌+◌, ◌-◌, ◌^◌, ◌≤◌, min, Result, MatchResult}

-- one more, short of the last value of a u64
abbrev pub next_of : ℕ → ℕ
next_of n = min (n + 1) (2 ^ 64 - 1)

-- the count is greater than before, or stands at the last value of a u64; it never falls
pub record Rose (before now : ℕ) : Type 0 where
  pub no_less : before ≤ now
  pub more : next_of before ≤ now

-- the count rose in exactly the call that failed
abbrev pub Counts : {T E : Type 0} → ℕ → ℕ → Result T E → Type 0
Counts before now result = MatchResult result (λ _. now ≡ before) (λ _. Rose before now)
