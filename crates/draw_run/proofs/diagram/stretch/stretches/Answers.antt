use Rattle.std.proofs.Common.{ℕ, List, refl, sym, subst, ◌∙◌, arith}
use Rattle.model_history.specs.Rails.{Rails}
use Rattle.draw_run.specs.declared.diagram.stretch.Stretch.{Stretch}
use Rattle.draw_run.specs.{diagram.Stretches.IsStretch, diagram.Stretches.AreStretches, diagram.Traces.trace_pair}
use Rattle.draw_run.proofs.diagram_lemmas.StretchLaws.{AreStretches-push}
use Rattle.draw_run.proofs.diagram.stretch.stretches.Goals as goal

pub loop-from-preserved : goal.loop-from-preserved
loop-from-preserved g c =
    let pair : ℕ → Rails =
    trace_pair c.args.script.now (g.H.Shown.pairs c.args.shown.now) c.args.trace in
    let from = c.loop-from.from in
    let to = c.end_of-to.result in
    let s : Stretch = record { from = from; to = to; value = c.value_at-value.result } in
    let is : IsStretch pair s = record {
      some = c.end_of-to.ensures.after;
      same = c.end_of-to.ensures.same;
      change = λ t before same.
          c.loop-from.invariant.change c.loop-from-test.true t before
          (same ∙ c.value_at-value.ensures);
    } in
    record {
      are =
          subst (λ (xs : List Stretch). AreStretches pair 0 xs to) (sym c.in_ok-push.ensures.items)
          (AreStretches-push pair 0 c.loop-from.all.items from s c.loop-from.invariant.are is refl);
      within = c.end_of-to.ensures.within;
      change = λ early t before same.
          c.end_of-to.ensures.other early
          (sym same ∙ c.end_of-to.ensures.same t (omega (arith, c.end_of-to.ensures.after))
          (omega arith));
    }
