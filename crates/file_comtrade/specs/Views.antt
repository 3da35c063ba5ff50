-- What definitions see of the code's values.
use Rattle.std.specs.Prelude.{ℕ, List, map}
use Rattle.std.specs.Borrow.{Bor}
use Rattle.file_comtrade.specs.{ConfigLines.Counts, Config.End, Config.Tail, Config.sampling_values}
use Rattle.file_comtrade.specs.declared.config_lines.Channels.{Channels}
use Rattle.file_comtrade.specs.declared.ending.Ending.{Ending}
use Rattle.file_comtrade.specs.RawSample.{RawSample}
use Rattle.file_comtrade.specs.declared.config_reader.Tail as code_tail
use Rattle.file_comtrade.specs.declared.raw_sample.RawSample as code

abbrev pub texts : List (Bor (List ℕ)) → List (List ℕ)
texts fields = map (λ f. f.now) fields

abbrev pub counts_of_channels : Channels → Counts
counts_of_channels c = record { analog = c.analog; digital = c.digital }

abbrev pub end_of : Ending → End
end_of e = record { first = e.first; form = e.form; unit = e.unit; factor = e.factor }

abbrev pub tail_of : code_tail.Tail → Tail
tail_of t = record { sampling = sampling_values t.sampling; ending = end_of t.ending }

abbrev pub raw_of : code.RawSample → RawSample
raw_of r = record { number = r.number; stamp = r.stamp; levels = r.levels.items }
