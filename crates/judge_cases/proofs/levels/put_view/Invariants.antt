use Rattle.std.proofs.Common.{◌≡◌, ◌-◌, ◌*◌, length, drop}
use Rattle.model_settle.specs.Assumed.{assumed_level}
use Rattle.judge_cases.specs.{Rows.row_count, Views.view_box}
use Rattle.judge_cases.specs.Puts.{ArePutStill, PutIn, no_level}
use Rattle.judge_cases.proofs.levels.put_view.Given as goal

abbrev pub invariant-loop-back : goal.invariant-loop-back
invariant-loop-back l =
    let line = l.compiled.line.now in
    record {
      count : length l.masks.items ≡ line.horizon * row_count line;
      lane : PutIn line l.compiled.net.now l.rows l.initial.masks.items l.lane no_level
          → PutIn line l.compiled.net.now l.rows l.masks.items l.lane
          (assumed_level line (view_box line l.view)
          (drop (length l.assumed - l.back) l.assumed));
      others : ArePutStill line l.compiled.net.now l.rows l.lane l.initial.masks.items
          l.masks.items;
    }
