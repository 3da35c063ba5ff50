-- Lines that are the same in every field, and lists by their items.
use Rattle.std.specs.Prelude.{◌≡◌}
use Rattle.model_line.specs.{declared.line.Line.Line, SetBounds.SameButParams}

pub record SameLine (line copy : Line) : Type 0 where
  pub rest : SameButParams line copy
  pub params : copy.params.items ≡ line.params.items
