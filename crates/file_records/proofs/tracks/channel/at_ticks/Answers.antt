use Rattle.std.proofs.Common.{◌≡◌, ◌∙◌, ℕ, List, ap, map}
use Rattle.file_comtrade.specs.{Levels.levels_at, Record.times_of, SampleViews.sample_values}
use Rattle.file_records.proofs.{tracks_lemmas.AtTicks.are_at, tracks_lemmas.AtTicks.times_are}
use Rattle.file_records.proofs.tracks_lemmas.Refused.{gap_seen}
use Rattle.file_records.proofs.tracks.channel.at_ticks.Goals as goal

pub returns-in-Err : goal.returns-in-Err
returns-in-Err c =
    let samples = c.args.samples.now in
    let same : c.deref.result.now ≡ times_of (map sample_values samples) =
    cc (times_are samples, c.deref.ensures.value, c.in_ok-times.ensures) in
    gap_seen c.args.first c.deref.result.now (map sample_values samples) c.args.ticks c.in-Err.why
    c.of_ticks.result same c.of_ticks.ensures c.in-Err.ensures

pub by_samples-requires-clause-times : goal.by_samples-requires-clause-times
by_samples-requires-clause-times c =
    cc (times_are c.args.samples.now, c.deref-3.ensures.value, c.in_ok-times.ensures)

pub returns : goal.returns
returns c =
    let samples = c.args.samples.now in
    let same : c.deref.result.now ≡ times_of (map sample_values samples) =
    cc (times_are samples, c.deref.ensures.value, c.in_ok-times.ensures) in
    let found : c.deref-2.result.now ≡ c.in-Ok.at.items = cc (c.deref-2.ensures.value) in
    let is = c.in_ok-levels.ensures
    ∙ ap (λ (at : List ℕ). levels_at (map sample_values samples) 0 at) found in (
      are_at (map sample_values samples) c.deref.result.now c.args.first c.args.ticks
          c.in-Ok.at.items c.in_ok-levels.levels.items same c.in-Ok.ensures is,
      c.by_samples.ensures,
    )
