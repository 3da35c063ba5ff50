use Rattle.std.proofs.Common.{◌≡◌, ◌&&◌, ◌==◌, ◌<◌, ◌∙◌, ℕ, List, Option, None, get_or, length, sym, ap}
use Rattle.std.proofs.Common.{arith}
use Rattle.std.specs.List.{list_any}
use Rattle.model_timing.specs.declared.step.Step.{Step}
use Rattle.model_timing.specs.Timing.{with_step}
use Rattle.file_tables.specs.timing.Table.{listed, place_of, step_of}
use Rattle.file_tables.proofs.timing_lemmas.TableLaws.{entered, has_at, none_of, step_is}
use Rattle.file_tables.proofs.timing.steps.Steps.insert.Goals as goal

pub returns : goal.returns
returns c =
    let old : List (Option ℕ) = c.self.inside.table.items in
    let new : List (Option ℕ) = c.make_room.new.table.items in
    let step : Step ℕ = c.args.step in
    let place : ℕ = c.place_in-place.result in
    let is : place ≡ place_of step.param step.from = c.place_in-place.ensures in
    let free : get_or new place None ≡ None =
    c.in_ok-make_room.ensures.places place
    ∙ none_of (get_or old place None)
    (sym (has_at step.param step.from c.requires.early 0 place old (omega (arith, is)))
    ∙ ap (λ (steps : List (Step ℕ)).
    list_any (λ s. (s.param == step.param) && (s.from == step.from)) steps) c.self.view_is
    ∙ c.requires.once) in
    let inside : place < length new =
    omega (arith, is, c.in_ok-make_room.ensures.room, c.requires.early) in
    entered 0 place place step.value new (omega arith) inside free
    ∙ ap (λ (s : Step ℕ). with_step s (listed 0 new))
    (ap (λ (p : ℕ). step_of p step.value) is ∙ step_is step.param step.from step.value c.requires.early)
    ∙ ap (with_step step) (c.in_ok-make_room.ensures.same ∙ c.self.view_is)
