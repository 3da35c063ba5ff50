-- Whether a script fits a line.
use Rattle.std.specs.Prelude.{◌≤◌, ◌&&◌, ◌==◌, ℕ, Bool, length, IsTrue, nat_le, nat_lt}
use Rattle.std.specs.List.{list_all}
use Rattle.model_line.specs.declared.script.Kind.TheVariants.{Internal, External}
use Rattle.model_line.specs.{declared.line.Line.Line, declared.script.Kind.Kind}
use Rattle.model_line.specs.{declared.script.What.What, declared.script.SeenSpan.SeenSpan}
use Rattle.model_line.specs.{declared.script.Script.Script, PlainNames.is_plain_name}
use Rattle.model_line.specs.declared.script.What.TheVariants as what

-- the line has that terminal or channel
abbrev pub exists_in : Line → What → Bool
exists_in line (what.Element place) = nat_lt place.terminal (length line.terminals.items)
exists_in line (what.Loss channel) = nat_lt channel (length line.channels.items)

-- a span of what the line has, with from < to <= horizon
abbrev pub span_fits : Line → SeenSpan → Bool
span_fits line span =
    exists_in line span.what && (nat_lt span.from span.to && nat_le span.to line.horizon)

-- an internal deadline is below the horizon, an external one is 0
abbrev pub deadline_fits : ℕ → Kind → ℕ → Bool
deadline_fits horizon Internal deadline = nat_lt deadline horizon
deadline_fits horizon External deadline = deadline == 0

pub record Fits (line : Line) (script : Script) : Type 0 where
  pub plain_name : IsTrue (is_plain_name script.name)
  pub few_spans : length script.spans.items ≤ 200
  pub deadline : IsTrue (deadline_fits line.horizon script.kind script.deadline)
  pub spans : IsTrue (list_all (span_fits line) script.spans.items)
