use Rattle.std.proofs.Common.{◌≡◌, ◌++◌, ℕ, List, ap, ◌∙◌}
use Rattle.std.specs.Prelude.{codes}
use Rattle.model_history.specs.Each.{each_below}
use Rattle.model_line.specs.Parameters.{param_count}
use Rattle.model_timing.specs.declared.step.Step.{Step}
use Rattle.call_why.specs.Times.{choice_line, number_words, steps_words}
use Rattle.call_why.proofs.ToldLaws.{four_pieces}
use Rattle.call_why.proofs.times.push_choice.Goals as goal

pub returns : goal.returns
unfolding choice_line
returns c =
    let line = c.args.line.now in
    let timing = c.args.timing.now in
    let t2 : List ℕ = c.push_numbers.new.text.items in
    let moved : c.push_steps.new.text.items ≡ t2 ++ steps_words line timing.steps =
    c.in_ok-push_steps.ensures
    ∙ ap (λ (l : List (Step ℕ)). t2 ++ steps_words line l) c.steps.ensures.same in
    four_pieces c.args.text.now.items c.extend_from_slice.new.self.items t2
    c.push_steps.new.text.items c.extend_from_slice-2.new.self.items
    (codes "times in the middle of their intervals")
    (each_below (param_count line) (number_words line timing)) (steps_words line timing.steps)
    (codes "\n") c.in_ok-extend_from_slice.ensures.items c.in_ok-push_numbers.ensures moved
    c.in_ok-extend_from_slice-2.ensures.items
