-- The answer of `margin` rests on the values of a line and of scripts alone.
use Rattle.std.proofs.Common.{◌≡◌, ℕ, Bool, true, false, List, map, sym, ◌∙◌}
use Rattle.model_line.specs.Laws.{CountsRestOnNoInterval}
use Rattle.model_line.specs.{declared.line.Line.Line, declared.script.Script.Script}
use Rattle.model_logic.specs.IntervalLaws.{HistoriesRestOnNoInterval}
use Rattle.file_line.specs.Lines.{line_values}
use Rattle.file_tables.specs.script.Values.{values_of}
use Rattle.judge_report.specs.Answer.{IsMarginAnswer}
use Rattle.call_pilot.specs.commands.Margin.{margin_answer}
use Rattle.call_answer.specs.declared.done.Done.{Done}
use Rattle.call_answer.specs.declared.done.Done.TheVariants as done
use Rattle.call_pilot.specs.{top.SameFactLaws.same_params, top.SameHeldLaws.upper_end_on}
use Rattle.call_pilot.specs.{top.SameTextLaws.margin_same, top.SameValueLaws.same_but_params}

module _ (counts : CountsRestOnNoInterval) (histories : HistoriesRestOnNoInterval) (a b : Line)
    (lines : line_values b ≡ line_values a) (xs ys : List Script)
    (scripts : map values_of ys ≡ map values_of xs) (param : ℕ) where
  answer_on : (found : Bool) (text : List ℕ) → IsMarginAnswer a xs param found text
      → IsMarginAnswer b ys param found text
  answer_on found text is = record {
    end = is.end;
    is = upper_end_on counts histories a b lines xs ys scripts param is.end is.is;
    found_is = is.found_is;
    text_is = is.text_is
        ∙ sym (margin_same a b (same_but_params a b lines) (same_params a b lines) xs ys scripts
        param is.end);
  }

  pub margin_on : (d : Done) (text : List ℕ) → margin_answer a xs param d text
      → margin_answer b ys param d text
  margin_on done.Good text is = answer_on true text is
  margin_on done.SomeUndecided text is = answer_on false text is
  margin_on done.SomeNo text is = absurd is
  margin_on done.Rejected text is = absurd is
