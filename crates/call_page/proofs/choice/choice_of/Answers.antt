use Rattle.std.proofs.Common.{◌≡◌, ◌∙◌, ℕ, Bool, List, sym, subst}
use Rattle.call_why.specs.Reasons.{IsToldWhy}
use Rattle.model_line.specs.{declared.line.Line.Line, declared.script.Script.Script}
use Rattle.model_timing.specs.declared.step.Step.{Step}
use Rattle.draw_page.specs.declared.page.FailingChoice.{FailingChoice}
use Rattle.call_page.specs.Choices.{IsChoiceFor}
use Rattle.call_facts.specs.{Told.IsToldStep, Lists.EachOf}
use Rattle.call_facts.specs.Drawings.{IsPlayOf}
use Rattle.call_facts.specs.SideLaws.{one_at}
use Rattle.call_page.proofs.choice.choice_of.Goals as goal

pub returns : goal.returns
returns c = λ whole is_cut why scripts rows at stretch last.
    let line : Line = c.args.compiled.now.line.now in
    let row = c.args.row.now in
    let script : Script = c.args.of.now in
    let cut = c.args.named.now.timing in
    let made : FailingChoice = record {
      fault = c.part_of_script-fault.result;
      script = c.in_ok-script.script;
      terminal = c.in_ok-terminal.terminal;
      scripts = c.args.told.count;
      last = c.args.told.last;
      every = c.fails_for_every-every.result;
      why = c.args.told.why;
      told = c.in_ok-times.times;
      least = c.in_ok-least.least;
      steps = c.in_ok-steps.steps;
      play = c.in_ok-play.play;
    } in
    let chosen : IsChoiceFor line script row.terminal made = record {
      whole = whole;
      cut = cut;
      is_cut = is_cut;
      why = subst (λ (every : Bool). IsToldWhy line script row.terminal whole every c.args.told.why.items)
          (sym c.fails_for_every-every.ensures) why;
      told = c.in_ok-times.ensures;
      least = c.in_ok-least.ensures;
      steps = subst (λ (l : List (Step ℕ)). EachOf (IsToldStep line) l c.in_ok-steps.steps.items)
          c.steps-moves.ensures.same c.in_ok-steps.ensures;
      play = subst (λ (name : List ℕ).
          IsPlayOf line script (record { name = name; timing = cut }) c.in_ok-play.play)
          c.requires.name c.in_ok-play.ensures;
    } in
    record {
      fault = c.part_of_script-fault.ensures;
      script = λ (s : Script) there.
          subst (λ (t : Script). c.in_ok-script.script.items ≡ t.name)
          (sym (one_at scripts row.script script s at there))
          (c.in_ok-script.ensures.items ∙ c.bytes.ensures.same);
      terminal = c.in_ok-terminal.ensures.items ∙ c.name_of_terminal.ensures;
      stretch = stretch;
      last = last;
      every = c.fails_for_every-every.ensures;
      choice = λ (s : Script) there.
          subst (λ (t : Script). IsChoiceFor line t row.terminal made)
          (sym (one_at scripts row.script script s at there)) chosen;
    }
