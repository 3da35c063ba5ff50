-- A line with another interval for one parameter, and all else the same.
use Rattle.std.specs.Prelude.{ℕ}
use Rattle.model_line.specs.SetBounds.{WithBounds, SameButParams}
use Rattle.model_line.specs.declared.line.Line.{Line}

pub record IsWithBounds (line : Line) (param least greatest : ℕ) (other : Line) : Type 0 where
  pub params : WithBounds line.params.items other.params.items param least greatest
  pub rest : SameButParams line other
