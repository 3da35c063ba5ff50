-- The rails and the ends of the model that those of the code are.
use Rattle.model_settle.specs.Sides as model
use Rattle.judge_settle.specs.declared.corner.rail.Rail.{Rail}
use Rattle.judge_settle.specs.declared.corner.rail.Rail.TheVariants.{Must, May}
use Rattle.judge_settle.specs.declared.corner.rail.End.{End}
use Rattle.judge_settle.specs.declared.corner.rail.End.TheVariants.{Least, Greatest}

abbrev pub rail_named : Rail → model.Rail
rail_named Must = model.Must
rail_named May = model.May

abbrev pub end_named : End → model.End
end_named Least = model.Least
end_named Greatest = model.Greatest
