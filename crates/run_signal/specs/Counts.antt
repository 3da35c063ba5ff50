-- What one rail of a timed cell counts.
use Rattle.std.specs.Prelude.{ℕ, ◌+◌, ◌-◌, Bool, min, max, nat_lt, if◌then◌else◌, List, fold}

-- run: for how many ticks the input has been on without a break, up to one more than the pickup.
-- left: for how many ticks, the last one counted, the element stays on if the input is off from
-- now on; 0 where it is off.
pub record Counts : Type 0 where
  pub run : ℕ
  pub left : ℕ

-- before the first tick
abbrev pub none : Counts
none = record { run = 0; left = 0 }

-- the run after n more ticks, all with this input
abbrev pub run_after : ℕ → ℕ → ℕ → Bool → ℕ
run_after p n run on = if on then min (run + n) (p + 1) else 0

-- what is left after n more ticks, where `run` is the run after them
abbrev pub left_after : ℕ → ℕ → ℕ → ℕ → ℕ → ℕ
left_after p d n run left = if nat_lt p run then d + 1 else left - n

abbrev pub counts_after : ℕ → ℕ → ℕ → Counts → Bool → Counts
counts_after p d n c on = record {
  run = run_after p n c.run on;
  left = left_after p d n (run_after p n c.run on) c.left;
}

-- the counts of a recorded history
abbrev pub counts : ℕ → ℕ → List Bool → Counts
counts p d recorded = fold (counts_after p d 1) none recorded

-- how many of the next ticks, all with this input, come before a hold
abbrev pub wait_of : ℕ → ℕ → Bool → ℕ
wait_of p run on = if on then p - run else 4000

-- for how many of them the answers stay the same, up to 4,000
abbrev pub steady_of : ℕ → ℕ → ℕ → Bool → ℕ
steady_of p run left on =
    if nat_lt (wait_of p run on) (max left 1) then 4000
    else (if nat_lt 1 left then left - 1 else wait_of p run on)
