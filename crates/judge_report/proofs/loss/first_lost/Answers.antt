use Rattle.std.proofs.Common.{ℕ, Option, subst}
use Rattle.std.specs.Prelude.{MatchOption}
use Rattle.model_history.specs.ListLaws.{at_index}
use Rattle.model_line.specs.Parameters.{terminal_count}
use Rattle.model_logic.specs.Choice.{declared_box}
use Rattle.judge_report.specs.Lost.{IsScriptHeld, IsFirstTerminal}
use Rattle.judge_report.proofs.LossLaws.{one_script_more, all_scripts}
use Rattle.judge_report.proofs.loss.first_lost.Goals as goal

pub returns-in-Some : goal.returns-in-Some
returns-in-Some c =
    let line = c.args.compiled.now.line.now in
    record {
      script = c.index-scripts-s.result;
      at = at_index c.args.scripts.now c.loop-s.s c.index-scripts-s.result c.loop-s-test.true
          c.index-scripts-s.is;
      terminal = subst (λ (o : Option ℕ). MatchOption o
          (IsScriptHeld line c.index-scripts-s.result (declared_box line) (terminal_count line))
          (λ k. IsFirstTerminal line c.index-scripts-s.result (declared_box line) k))
          c.in-Some.is c.in_ok-terminal.ensures;
      before = c.loop-s.invariant;
    }

pub loop-s-preserved : goal.loop-s-preserved
loop-s-preserved c =
    let line = c.args.compiled.now.line.now in
    one_script_more line c.args.scripts.now (declared_box line) c.loop-s.s
    c.index-scripts-s.result
    (at_index c.args.scripts.now c.loop-s.s c.index-scripts-s.result c.loop-s-test.true
    c.index-scripts-s.is)
    c.loop-s.invariant
    (subst (λ (o : Option ℕ). MatchOption o
    (IsScriptHeld line c.index-scripts-s.result (declared_box line) (terminal_count line))
    (λ k. IsFirstTerminal line c.index-scripts-s.result (declared_box line) k))
    c.in_default.is c.in_ok-terminal.ensures)

pub returns : goal.returns
returns c =
    all_scripts c.args.compiled.now.line.now c.args.scripts.now
    (declared_box c.args.compiled.now.line.now) c.loop-s.s
    c.loop-s-test.false c.loop-s.invariant
