-- Whether a fault is external.
use Rattle.std.specs.Prelude.{Bool, true, false}
use Rattle.model_line.specs.declared.script.Kind.{Kind}
use Rattle.model_line.specs.declared.script.Kind.TheVariants.{Internal, External}

abbrev pub is_external : Kind → Bool
is_external Internal = false
is_external External = true
