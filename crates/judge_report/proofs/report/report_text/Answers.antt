use Rattle.std.proofs.Common.{◌++◌, ℕ, List, take, map, sym, ◌∙◌, ap}
use Rattle.std.proofs.lemmas.List.{take_all}
use Rattle.std.specs.List.{concat}
use Rattle.base_text.specs.PieceLaws.{one_piece_more}
use Rattle.model_line.specs.declared.script.Script.{Script}
use Rattle.model_logic.specs.Histories.{PairHistory, IsPairHistory}
use Rattle.model_logic.specs.Choice.{declared_box}
use Rattle.judge_report.specs.ReportText.{report_header, script_rows, report_text_of, AreHistories}
use Rattle.judge_report.proofs.Texts.{grown}
use Rattle.judge_report.proofs.report.report_text.Goals as goal

pub loop-script-preserved : goal.loop-script-preserved
loop-script-preserved c = λ histories are.
    let scripts = c.args.scripts.now in
    let i = c.loop-script.script-index in
    let script = c.script-item.result in
    let f : Script → List ℕ = λ s. script_rows c.args.compiled.now.line.now s (histories s) in
    grown report_header c.loop-script.text.items c.extend_from_slice.new.self.items
    (concat (map f (take i scripts))) _ (f script) (c.loop-script.invariant histories are)
    c.in_ok-extend_from_slice.ensures.items
    (c.deref.ensures.value ∙ c.in_ok-rows.ensures (histories script) (are script))
    ∙ ap (λ (l : List ℕ). report_header ++ l)
    (sym (one_piece_more f scripts i script c.loop-script-test.true
    ∙ ap (λ (s : Script). concat (map f (take i scripts)) ++ f s) (sym c.script-item.is)))

pub returns-clause-is : goal.returns-clause-is
returns-clause-is c =
    let line = c.args.compiled.now.line.now in
    let scripts = c.args.scripts.now in
    let one : (script : Script)
    → (w : PairHistory) × IsPairHistory line script (declared_box line) w =
    λ script. c.each_box_has_one_interval_history.ensures.exists line script (declared_box line)
    (c.each_line_has_a_choice_inside.ensures.declared line) in
    let histories : Script → PairHistory = λ script. (one script).0 in
    let are : AreHistories line histories = λ script. (one script).1 in
    record {
      histories = histories;
      are_histories = are;
      text_is = c.loop-script.invariant histories are
          ∙ ap (λ (xs : List Script). report_text_of line xs histories)
          (take_all c.loop-script.script-index scripts c.loop-script-test.false);
    }
