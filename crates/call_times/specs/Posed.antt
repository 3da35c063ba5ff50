-- A question as it is put to the search: over a line that is played on.
use Rattle.std.specs.Prelude.{◌≡◌, ◌≤◌, ◌<◌, ◌+◌, ◌*◌, ℕ, List, length}
use Rattle.model_history.specs.Rails.{Ends}
use Rattle.model_fine.specs.Onward.{IsPlayedOn}
use Rattle.model_borders.specs.Borders.{stands}
use Rattle.judge_verdict.specs.verdict.Spans.{declared_spans}
use Rattle.judge_borders.specs.Parts.{IsPart, line_of}
use Rattle.judge_times.specs.Answers.{CanAnswer, exact_of}
use Rattle.judge_times.specs.declared.fault.Uncertain.{Uncertain}
use Rattle.call_times.specs.Question.{Question}

-- what is asked over the line itself
abbrev pub asked_of : Uncertain → List Ends → Question
asked_of of whole = record {
  line = exact_of of;
  script = of.fault.script.now;
  part = whole;
  kind = of.fault.asked.kind;
  counted = of.fault.asked.counted;
  within = of.fault.asked.within;
  end = of.fault.asked.end;
}

-- the search goes over the line played on, and all that is asked ends before the line itself does
pub record IsPosed (of : Uncertain) (whole : List Ends) : Type 0 where
  pub can : CanAnswer of
  pub part : IsPart whole
  pub some : 1 ≤ length whole
  pub on : IsPlayedOn (exact_of of) (line_of of.fault)
  pub spans : of.fault.spans.now ≡ declared_spans (exact_of of)
  pub before : (n : ℕ) (x : ℕ → ℕ) → 1 ≤ n
      → stands n of.fault.script.now.borders.items (length whole) x of.fault.asked.counted
      + of.fault.asked.within * n
      < (exact_of of).horizon * n
  pub end : of.fault.asked.end ≤ (exact_of of).horizon
