use Rattle.std.proofs.Common.{sym, ◌∙◌}
use Rattle.std.proofs.lemmas.List.{append-nil}
use Rattle.base_text.specs.lines.Milliseconds.{ticks_text}
use Rattle.call_verdicts.proofs.fields.times_from.Goals as goal

pub loop-t-init : goal.loop-t-init
loop-t-init c =
    c.in_ok-text.ensures ∙ sym (append-nil (ticks_text c.args.tick_us c.args.first))
