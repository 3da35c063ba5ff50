use Rattle.std.proofs.Common.{ℕ, ◌<◌, subst}
use Rattle.model_line.specs.Parameters.{param_count}
use Rattle.file_study.specs.times.Names.{is_meant}
use Rattle.file_study.proofs.times_lemmas.Meant.{those_more, all_more}
use Rattle.file_study.proofs.times.names.params_of.Goals as goal

pub loop-i-preserved : goal.loop-i-preserved
loop-i-preserved c = (
  those_more (is_meant c.args.line.now c.args.names.now) c.loop-i.i c.is_meant.result
      c.loop-i.params.items c.push_if.new.params.items c.loop-i.invariant.0 c.is_meant.ensures
      c.in_ok-push_if.ensures,
  all_more (λ i. i < param_count c.args.line.now) c.loop-i.i c.is_meant.result
      c.loop-i.params.items c.push_if.new.params.items c.loop-i.invariant.1
      (subst (λ (n : ℕ). c.loop-i.i < n) c.param_count-i-end.ensures.count c.loop-i-test.true)
      c.in_ok-push_if.ensures,
)
