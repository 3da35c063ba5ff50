use Rattle.std.proofs.Common.{◌&&◌, ◌==◌, ◌∙◌, ℕ, List, Option, None, get_or, sym, ap, arith}
use Rattle.std.specs.{List.list_any, Option.is_some}
use Rattle.model_timing.specs.declared.step.Step.{Step}
use Rattle.file_tables.proofs.timing_lemmas.TableLaws.{has_at}
use Rattle.file_tables.proofs.timing.steps.Steps.has.Goals as goal

pub returns : goal.returns
returns c =
    let t : List (Option ℕ) = c.self.inside.table.items in
    c.is_taken.ensures
    ∙ ap (λ (l : List (Option ℕ)). is_some (get_or l c.place_in.result None)) c.deref.ensures.value
    ∙ sym (has_at c.args.param c.args.from c.requires.early 0 c.place_in.result t
    (omega (arith, c.place_in.ensures)))
    ∙ ap (λ (steps : List (Step ℕ)).
    list_any (λ s. (s.param == c.args.param) && (s.from == c.args.from)) steps) c.self.view_is
