use Rattle.std.proofs.Common.{◌≡◌, ◌<◌, ◌*◌, ℕ, length}
use Rattle.judge_cases.specs.Rows.{row_count}
use Rattle.judge_cases.specs.Puts.{PutIn, view_below, view_level}
use Rattle.judge_cases.proofs.levels.masks_of.Given as goal

abbrev pub invariant-loop-lane : goal.invariant-loop-lane
invariant-loop-lane l =
    let line = l.compiled.line.now in
    record {
      count : length l.masks.items ≡ line.horizon * row_count line;
      puts : (k : ℕ) → k < 64 → PutIn line l.compiled.net.now l.rows.items l.masks.items k
          (view_level line (view_below l.views l.lane k));
    }
