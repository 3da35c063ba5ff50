use Rattle.std.proofs.Common.{◌≡◌, take}
use Rattle.run_waves.specs.{waves.Waves.runs_from, waves.Text.items_text}
use Rattle.run_waves.proofs.waves_lemmas.RunLaws.{end_from}
use Rattle.run_waves.proofs.waves.text.print_items.Given as goal

-- the runs so far are written, and end at `from`
abbrev pub invariant-loop-i : goal.invariant-loop-i
invariant-loop-i l = record {
  written : l.text.items ≡ items_text (runs_from 0 (take l.i l.stretches));
  ends : l.from ≡ end_from 0 (take l.i l.stretches);
}
