use Rattle.std.proofs.Common.{◌≡◌, IfOk, take}
use Rattle.std.specs.List.{flat_map}
use Rattle.draw_page.specs.Choices.{step_row_html}
use Rattle.draw_page.proofs.choice.step_rows.Given as goal

abbrev pub invariant-loop-step : goal.invariant-loop-step
invariant-loop-step l =
    IfOk l.made (λ html. html.text.items
    ≡ flat_map (step_row_html l.tick_us) (take l.step-index l.steps))
