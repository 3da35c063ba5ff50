use Rattle.std.proofs.Common.{◌≡◌, length}
use Rattle.run_waves.specs.{waves.Waves.runs_from, waves.Text.items_text, waves.Text.runs_text}
use Rattle.run_waves.proofs.waves_lemmas.LongestRuns.{items_are_text}
use Rattle.run_waves.proofs.waves.text.print_runs.Goals as goal

pub returns : goal.returns
returns c =
    let same : items_text (runs_from 0 c.stretches.result.now) ≡ runs_text c.args.runs.now =
    items_are_text (runs_from 0 c.stretches.result.now) c.args.runs.now (length c.args.runs.now)
    c.stretches.ensures.runs c.stretches.ensures.levels in
    rw same at c.print_items.ensures
