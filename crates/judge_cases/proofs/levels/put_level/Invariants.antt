use Rattle.std.proofs.Common.{◌≡◌, ◌*◌, length}
use Rattle.model_logic.specs.Tree.{Tree}
use Rattle.judge_cases.specs.Rows.{IsRowOf, row_count}
use Rattle.judge_cases.specs.Puts.{ArePutStill, LevelOf, PutIn, with_level}
use Rattle.judge_cases.proofs.levels.put_level.Given as goal

abbrev pub invariant-loop-t : goal.invariant-loop-t
invariant-loop-t l = record {
  count : length l.masks.items ≡ l.compiled.line.now.horizon * row_count l.compiled.line.now;
  lane : (x : Tree) (before : LevelOf) → IsRowOf l.compiled.net.now l.rows x l.row
      → PutIn l.compiled.line.now l.compiled.net.now l.rows l.initial.masks.items l.lane before
      → PutIn l.compiled.line.now l.compiled.net.now l.rows l.masks.items l.lane
      (with_level before x l.from l.t l.level);
  others : ArePutStill l.compiled.line.now l.compiled.net.now l.rows l.lane
      l.initial.masks.items l.masks.items;
}
