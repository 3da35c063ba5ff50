use Rattle.std.proofs.Common.{refl, sym, ap, ◌∙◌, List, ℕ}
use Rattle.file_study.specs.times.Names.{params_of}
use Rattle.file_study.specs.times.Parts.{names_of}
use Rattle.call_work.proofs.map_lemmas.Params.{are_params}
use Rattle.call_work.proofs.map.axes.axis_of.Goals as goal

pub returns-in_ok-params-in-Ok-clause-is : goal.returns-in_ok-params-in-Ok-clause-is
returns-in_ok-params-in-Ok-clause-is c = (
  record {
    params = params_of c.args.line.now (names_of c.args.words.now);
    steps = c.in-Ok.steps;
  },
  rw (sym c.in-Ok.ensures.is) refl,
  record {
    params = c.in_ok-params-in-Ok.ensures.are
        ∙ ap (λ (names : List ℕ). params_of c.args.line.now names) c.names_of.ensures;
    first = refl;
    last = refl;
    step = refl;
  },
)

pub returns-in_ok-params-in-Ok-clause-axis : goal.returns-in_ok-params-in-Ok-clause-axis
returns-in_ok-params-in-Ok-clause-axis c = record {
  params = are_params c.args.line.now c.in_ok-params-in-Ok.params.items
      c.in_ok-params-in-Ok.ensures.exist;
  step = c.in-Ok.ensures.are.some;
  ordered = c.in-Ok.ensures.are.ordered;
  limit = c.in-Ok.ensures.are.limit;
}
