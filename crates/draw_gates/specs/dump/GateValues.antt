-- The value of each gate in a line's history at a choice.
use Rattle.std.specs.Prelude.{ℕ, Bool}
use Rattle.model_line.specs.{declared.line.Line.Line, declared.script.Script.Script}
use Rattle.model_logic.specs.Choice.{Choice, world_of}
use Rattle.model_logic.specs.{Mean.mean, Histories.History}
use Rattle.net_gates.specs.{NetOf.NetOf, Formulas.formula_of}

-- the value of the tree that a gate stands for, over the keys of the history
abbrev pub gate_levels : Line → Script → Choice → History → NetOf → ℕ → ℕ → Bool
gate_levels line script choice h net gate t =
    mean (world_of line script choice) h.key (formula_of net.gates gate) t
