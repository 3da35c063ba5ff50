use Rattle.std.proofs.Common.{refl, ◌∙◌, ap}
use Rattle.std.proofs.Math.Seq.{map-set_same}
use Rattle.model_line.proofs.Intervals.{param_intervals_set, delays_set, with_bounds}
use Rattle.model_line.proofs.line.Line.set_bounds.Goals as goal

pub invariant_of-self-clause-param_names : goal.invariant_of-self-clause-param_names
invariant_of-self-clause-param_names c =
    map-set_same (λ q. q.name) c.args.self.now.params.items c.args.param _ c.index-old.result.now
    (ap (λ q. q.name) c.index-old.ensures)
    ∙ c.args.self.now.param_names

pub invariant_of-self-clause-ends_in_range : goal.invariant_of-self-clause-ends_in_range
invariant_of-self-clause-ends_in_range c =
    param_intervals_set c.args.self.now.params.items c.args.param _ c.requires.exists
    c.args.self.now.ends_in_range c.requires.ordered c.requires.within

pub invariant_of-self-clause-delays_from_one : goal.invariant_of-self-clause-delays_from_one
invariant_of-self-clause-delays_from_one c =
    delays_set c.args.self.now c.args.param _ c.requires.exists c.requires.delay

pub returns-clause-params : goal.returns-clause-params
returns-clause-params c =
    with_bounds c.args.self.now.params.items c.args.param c.index-old.result.now _
    c.index-old.ensures refl
