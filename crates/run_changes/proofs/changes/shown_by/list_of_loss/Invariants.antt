use Rattle.std.proofs.Common.{◌≡◌, ◌++◌, take}
use Rattle.std.specs.List.{filter}
use Rattle.model_line.specs.Seen.{is_of_loss}
use Rattle.model_line.specs.declared.script.SeenSpan.{SeenSpan}
use Rattle.run_changes.proofs.changes.shown_by.list_of_loss.Given as goal

abbrev pub invariant-loop-span : goal.invariant-loop-span
invariant-loop-span l =
    l.spans.items
    ≡ l.initial.spans.items ++ filter (λ (s : SeenSpan). is_of_loss l.channel s.what) (take l.span-index l.all)
