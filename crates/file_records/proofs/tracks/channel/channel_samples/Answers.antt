use Rattle.std.proofs.Common.{refl}
use Rattle.std.proofs.lemmas.Result.{err_from_is_err_and}
use Rattle.file_comtrade.specs.Config.{values_of}
use Rattle.file_comtrade.specs.Record.{files_of}
use Rattle.file_records.specs.map.Sources.{channel_said}
use Rattle.file_records.proofs.tracks_lemmas.Refused.{data_refused, none_named}
use Rattle.file_records.proofs.tracks.channel.channel_samples.Goals as goal

pub returns-in_err-index-clause-refused : goal.returns-in_err-index-clause-refused
returns-in_err-index-clause-refused c = λ ticks.
    let told = err_from_is_err_and c.from_residual.result c.from_residual.ensures.1 in
    rw (told.1, told.2)
    (none_named (files_of c.args.files) (channel_said c.args.channel.now) ticks (values_of c.args.config.now) _ c.in_err-index.field-0.0 c.requires.said
    c.in_err-index.ensures refl)

pub returns-in-Err-clause-refused : goal.returns-in-Err-clause-refused
returns-in-Err-clause-refused c = λ ticks.
    data_refused (files_of c.args.files) (channel_said c.args.channel.now) ticks (values_of c.args.config.now) c.in_ok-index.index c.in-Err.why
    c.of_data.result (record { says = c.requires.said; names = c.in_ok-index.ensures })
    c.of_data.ensures c.in-Err.ensures.said
