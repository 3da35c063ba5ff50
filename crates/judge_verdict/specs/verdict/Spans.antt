-- The spans of the declared intervals.
use Rattle.std.specs.Prelude.{List, map}
use Rattle.model_history.specs.Rails.{Ends}
use Rattle.run_signal.specs.Spans.{ends_of}
use Rattle.model_line.specs.{declared.line.Line.Line, declared.line.Param.Param}

-- the declared interval of a parameter
abbrev pub declared_span : Param → Ends
declared_span p = ends_of p.least p.greatest

-- those of all parameters, in order
abbrev pub declared_spans : Line → List Ends
declared_spans line = map declared_span line.params.items
