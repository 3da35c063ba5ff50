-- The declared box with another greatest number for one parameter.
use Rattle.std.specs.Prelude.{ℕ}
use Rattle.model_line.specs.{declared.line.Line.Line, Parameters.declared_ends}
use Rattle.model_logic.specs.{Choice.Box, Boxes.declared_with}

abbrev pub raised : Line → ℕ → ℕ → Box
raised line param greatest =
    declared_with line param
    (record { least = (declared_ends line param).least; greatest = greatest })
