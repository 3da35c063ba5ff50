-- The times of a line, and how far the ends of each can be moved.
use Rattle.std.specs.Prelude.{◌≡◌, ℕ, List, option_map, length}
use Rattle.model_line.specs.{declared.line.Line.Line, declared.script.Script.Script}
use Rattle.model_line.specs.Parameters.{declared_ends, param_count}
use Rattle.model_line.specs.NamesByNumber.{parameter_name}
use Rattle.judge_report.specs.declared.upper_end.Lost.{Lost}
use Rattle.judge_margins.specs.{margins.Ends.IsEnd, margins.Today.AreToday}
use Rattle.judge_margins.specs.declared.margins.end.{End.End, Side.Side}
use Rattle.judge_margins.specs.declared.margins.end.Side.TheVariants.{Above, Below}
use Rattle.judge_verdict.specs.verdict.OneEach.{OneEach}
use Rattle.draw_page.specs.declared.page.{Slack.Slack, Time.Time}
use Rattle.call_facts.specs.Least.{at_words}

-- an end of parameter i: how far it can be moved with what is held today held still, and what is
-- lost first beyond
pub record IsSlackOf (line : Line) (scripts : List Script) (held : List Lost) (i : ℕ) (side : Side)
    (slack : Slack) : Type 0 where
  pub end : End
  pub is : IsEnd line scripts held (length held) i side end
  pub ticks : slack.ticks ≡ end.slack
  pub lost : option_map (λ words. words.items) slack.lost
      ≡ option_map (λ o. at_words line scripts o.script o.terminal) end.lost

pub record IsTimeOf (line : Line) (scripts : List Script) (held : List Lost) (i : ℕ) (time : Time)
    : Type 0 where
  pub name : time.name.items ≡ parameter_name line i
  pub low : time.low ≡ (declared_ends line i).least
  pub high : time.high ≡ (declared_ends line i).greatest
  pub above : IsSlackOf line scripts held i Above time.above
  pub below : IsSlackOf line scripts held i Below time.below

-- each, over the obligations that are held today
pub record AreTimes (line : Line) (scripts : List Script) (times : List Time) : Type 0 where
  pub held : List Lost
  pub others : List Lost
  pub today : AreToday line scripts (length scripts) 0 held others
  pub each : OneEach (IsTimeOf line scripts held) (param_count line) times
