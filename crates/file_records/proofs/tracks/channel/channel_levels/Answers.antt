use Rattle.std.proofs.Common.{map}
use Rattle.std.proofs.lemmas.Result.{MatchResult-weaker, err_from_is_err_and}
use Rattle.file_comtrade.specs.{Config.values_of, SampleViews.sample_values}
use Rattle.file_comtrade.specs.Record.{files_of}
use Rattle.file_records.specs.map.Sources.{channel_said}
use Rattle.file_records.proofs.tracks_lemmas.Refused.{config_refused, gap_refused}
use Rattle.file_records.proofs.tracks.channel.channel_levels.Goals as goal

pub returns-in-Err : goal.returns-in-Err
returns-in-Err c =
    config_refused (files_of c.args.files) (channel_said c.args.channel.now) c.args.ticks c.in-Err.why c.of_config.result c.of_config.ensures
    c.in-Err.ensures.said

pub returns-in_err-samples : goal.returns-in_err-samples
returns-in_err-samples c =
    let told = err_from_is_err_and c.from_residual.result c.from_residual.ensures.1 in
    rw (told.1, told.2) (c.in_err-samples.ensures.refused c.args.ticks)

pub returns : goal.returns
returns c =
    let config = values_of c.in-Ok.config in
    let samples = map sample_values c.in_ok-samples.samples.items in
    let said = c.in_ok-samples.ensures.samples in
    let there = rw c.deref.ensures.value at c.at_ticks.ensures in
    MatchResult-weaker c.at_ticks.result there
    (λ v are. (
      record { config = config; samples = samples; said = said; there = are.0 },
      record { config = config; samples = samples; said = said; are = are.1 },
    ))
    (λ why gap. gap_refused (files_of c.args.files) (channel_said c.args.channel.now) c.args.ticks config samples why said gap)
