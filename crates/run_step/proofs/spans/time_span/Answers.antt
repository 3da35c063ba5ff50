use Rattle.std.proofs.Common.{ℕ, ◌<◌, length, refl, sym, ◌∙◌, ap, subst}
use Rattle.std.proofs.Math.Nat.{le_of_lt}
use Rattle.std.proofs.lemmas.Option.{slice_get_read}
use Rattle.model_logic.specs.Names.{HasTime}
use Rattle.run_step.specs.LaneBox.{ends_in, time_ends}
use Rattle.run_step.proofs.spans.time_span.Goals as goal

pub offset_bounds-spans-i : goal.offset_bounds-spans-i
offset_bounds-spans-i g c =
    le_of_lt (subst (λ (n : ℕ). c.in-Param.i < n) (sym c.requires.spans)
    (subst (HasTime c.args.line.now) c.in-Param.is c.requires.exists))

pub bounds-spans-i : goal.bounds-spans-i
bounds-spans-i g c =
    subst (λ (n : ℕ). c.in-Param.i < n) (sym c.requires.spans)
    (subst (HasTime c.args.line.now) c.in-Param.is c.requires.exists)

pub returns-in-Param : goal.returns-in-Param
returns-in-Param g c = λ lane inside.
    let ends = g.V.Signal.signal.ends in
    let spans = c.args.spans.now in
    let there : c.in-Param.i < length spans =
    subst (λ (n : ℕ). c.in-Param.i < n) (sym c.requires.spans)
    (subst (HasTime c.args.line.now) c.in-Param.is c.requires.exists) in
    ap (ends_in ends lane) (sym (slice_get_read spans (length spans) c.in-Param.i
    c.index-spans-i.result refl there c.index-spans-i.is))
    ∙ ap (time_ends ends lane spans) (sym c.in-Param.is)
