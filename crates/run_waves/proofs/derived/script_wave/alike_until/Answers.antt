use Rattle.std.proofs.Common.{◌<◌, List, length, arith, subst}
use Rattle.std.proofs.lemmas.List.{take_all}
use Rattle.std.proofs.lemmas.List.Elements.{All-nil}
use Rattle.std.specs.List.{All}
use Rattle.model_line.specs.declared.script.SeenSpan.{SeenSpan}
use Rattle.run_waves.specs.derived.Stretches.{ShowsAlike}
use Rattle.run_waves.proofs.derived_lemmas.StretchLaws.{one_span_more}
use Rattle.run_waves.proofs.derived.script_wave.alike_until.Goals as goal

pub loop-i-init : goal.loop-i-init
loop-i-init c = record {
  later = omega arith;
  inside = omega arith;
  alike = All-nil (ShowsAlike c.args.what c.args.t c.args.horizon);
}

pub loop-i-preserved : goal.loop-i-preserved
loop-i-preserved c =
    let inside : c.loop-i.i < length c.args.spans.now = omega (arith, c.loop-i-test.true) in
    record {
      later = c.sooner-end.ensures.later;
      inside = omega (arith, c.sooner-end.ensures.inside, c.loop-i.invariant.inside);
      alike = one_span_more c.args.what c.args.spans.now c.loop-i.i c.args.t c.loop-i.end
          c.sooner-end.result _ inside c.sooner-end.ensures.inside
          c.loop-i.invariant.alike c.sooner-end.ensures.alike;
    }

pub returns-clause-alike : goal.returns-clause-alike
returns-clause-alike c =
    let P : List SeenSpan → Type 0 = λ l. All (ShowsAlike c.args.what c.args.t c.loop-i.end) l in
    subst P (take_all c.loop-i.i c.args.spans.now (omega (arith, c.loop-i-test.false)))
    c.loop-i.invariant.alike
