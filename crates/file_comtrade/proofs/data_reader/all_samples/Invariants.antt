use Rattle.std.proofs.Common.{◌≡◌, Ok, [], map, length}
use Rattle.file_comtrade.specs.Config.{values_of}
use Rattle.file_comtrade.specs.Data.{sample_after}
use Rattle.file_comtrade.specs.{Levels.NeverFalls, Steps.steps, Views.texts, SampleViews.sample_values, SampleViews.times_in}
use Rattle.file_comtrade.proofs.data_reader.all_samples.Given as goal

abbrev pub invariant-loop-k : goal.invariant-loop-k
invariant-loop-k l = record {
  said : steps (sample_after (values_of l.config) l.chosen (texts l.lines) l.bytes) [] l.k
      ≡ Ok (map sample_values l.samples.items);
  many : length l.samples.items ≡ l.k;
  later : NeverFalls (times_in l.samples.items);
}
