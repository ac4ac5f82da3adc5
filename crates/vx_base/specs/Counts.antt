-- Counts of faults, which stand still at the last value of their type.
use Rattle.std.specs.Prelude.{ℕ, ◌+◌, ◌-◌, ◌^◌, ◌<◌, ◌≤◌, min, ◌⊎◌}

-- the last value of a count
abbrev pub last_count : ℕ
last_count = 2 ^ 64 - 1

-- a count went up by at least this much, or to its last value
pub record Rises (by before now : ℕ) : Type 0 where
  pub later : before ≤ now
  pub risen : min (before + by) last_count ≤ now

-- a count is greater now, or stands at its last value
abbrev pub Rose : ℕ → ℕ → Type 0
Rose before now = (before < now) ⊎ (last_count ≤ now)

-- one more, up to the last value
abbrev pub next_count : ℕ → ℕ
next_count n = min (n + 1) last_count
