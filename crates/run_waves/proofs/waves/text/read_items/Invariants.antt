use Rattle.std.proofs.Common.{◌≡◌, ◌≤◌, List, length}
use Rattle.run_waves.specs.{declared.waves.runs.Run.Run, waves.Waves.AreRunsOf, waves.Text.items_text}
use Rattle.run_waves.proofs.{waves_lemmas.TextLaws.ReadsOn, waves_lemmas.ReadLaws.HasRead}
use Rattle.run_waves.proofs.waves.text.read_items.Given as goal

-- the first runs are read, and of any wave with this text they are the first
abbrev pub invariant-items : goal.invariant-items
invariant-items l = record {
  short : length l.wave ≤ l.horizon;
  has_read : HasRead l.text l.wave l.last l.rest;
  reads : (runs : List Run) → AreRunsOf runs l.horizon → items_text runs ≡ l.text
      → ReadsOn runs l.horizon l.wave l.rest;
}

abbrev pub decreases-items : goal.decreases-items
decreases-items l = length l.rest
