-- Counts that never fall and stand still at their last value.
use Rattle.std.specs.Prelude.{ℕ, ◌+◌, ◌-◌, ◌^◌, ◌≤◌, min}

-- the value at which a count stands still
abbrev pub last_count : ℕ
last_count = 2 ^ 64 - 1

-- a count after one more
abbrev pub one_more : ℕ → ℕ
one_more count = min (count + 1) last_count

-- a count after so many more
abbrev pub raised_by : ℕ → ℕ → ℕ
raised_by amount count = min (count + amount) last_count

-- the count rose, or stands at its last value
abbrev pub Rose : ℕ → ℕ → Type 0
Rose before now = one_more before ≤ now

-- the count grew by at least that amount, or stands at its last value
abbrev pub Grew : ℕ → ℕ → ℕ → Type 0
Grew before amount now = raised_by amount before ≤ now
