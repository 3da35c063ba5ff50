use Rattle.std.proofs.Common.{[], map, arith}
use Rattle.std.proofs.lemmas.Result.{err_from_is_err_and}
use Rattle.file_comtrade.specs.Config.{values_of}
use Rattle.file_comtrade.specs.Data.{sample_after}
use Rattle.file_comtrade.specs.{Views.texts, SampleViews.sample_values}
use Rattle.file_comtrade.proofs.Steps.{steps_fail, steps_more}
use Rattle.std.proofs.lemmas.List.{length-map}
use Rattle.file_comtrade.specs.declared.data_reader.Sample.{Sample}
use Rattle.file_comtrade.proofs.Later.{falls_never, one_more}
use Rattle.file_comtrade.proofs.data_reader.all_samples.Goals as goal

pub returns-in_err-samples-clause-said : goal.returns-in_err-samples-clause-said
returns-in_err-samples-clause-said c =
    let told = err_from_is_err_and c.from_residual.result c.from_residual.ensures.1 in
    rw (told.1, told.2) (steps_fail (sample_after (values_of c.args.config.now) c.args.chosen.now
    (texts c.args.lines.now) c.args.bytes.now) [] c.in_err-samples.field-0.0
    c.loop-k.k c.args.config.now.sampling.samples (map sample_values c.loop-k.samples.items)
    c.loop-k-test.true c.loop-k.invariant.said c.in_err-samples.ensures.said)

pub loop-k-preserved : goal.loop-k-preserved
loop-k-preserved c = record {
  said = steps_more (sample_after (values_of c.args.config.now) c.args.chosen.now
      (texts c.args.lines.now) c.args.bytes.now) [] c.loop-k.k _ _ c.loop-k.invariant.said
      c.in_ok-samples.ensures.said;
  many = omega (
    arith,
    one_more _ _ c.in_ok-samples.ensures.more,
    length-map c.in_ok-samples.samples.items (λ (s : Sample). s.time),
    length-map c.loop-k.samples.items (λ (s : Sample). s.time),
  );
  later = falls_never _ _ c.loop-k.invariant.later c.in_ok-samples.ensures.more;
}
