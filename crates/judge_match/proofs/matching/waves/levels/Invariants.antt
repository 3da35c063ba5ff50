use Rattle.std.proofs.Common.{◌≡◌, ◌<◌, ◌≤◌, ℕ, false, length, get_or, take}
use Rattle.run_signal.specs.declared.tern.Tern.TheVariants.{Zero}
use Rattle.judge_match.specs.{matching.Heads.level_by, matching.Waves.tern_by}
use Rattle.judge_match.proofs.matching.waves.levels.Given as goal

-- the ticks from `end` on are set; at those before it the changes that are left decide
abbrev pub invariant-from_the_last : goal.invariant-from_the_last
invariant-from_the_last l = record {
  left : l.rest ≤ length l.changes;
  inside : l.end ≤ l.horizon;
  long : length l.levels.items ≡ l.horizon;
  set : (t : ℕ) → l.end ≤ t → t < l.horizon
      → get_or l.levels.items t Zero ≡ tern_by l.changes l.trip l.terminal t;
  free : (t : ℕ) → t < l.end → get_or l.levels.items t Zero ≡ Zero;
  decide : (t : ℕ) → t < l.end
      → level_by l.terminal l.trip t l.changes false
      ≡ level_by l.terminal l.trip t (take l.rest l.changes) false;
}

abbrev pub decreases-from_the_last : goal.decreases-from_the_last
decreases-from_the_last l = l.rest
