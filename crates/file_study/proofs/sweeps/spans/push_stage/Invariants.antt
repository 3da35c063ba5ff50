use Rattle.std.proofs.Common.{◌≡◌, drop}
use Rattle.file_study.specs.sweeps.Spans.{stage_spans}
use Rattle.file_study.proofs.sweeps.spans.push_stage.Given as goal

abbrev pub invariant-loop-shown : goal.invariant-loop-shown
invariant-loop-shown l =
    stage_spans l.begin l.lasts (drop l.shown-index l.shows) l.spans.items
    ≡ stage_spans l.begin l.lasts l.shows l.initial.spans.items
