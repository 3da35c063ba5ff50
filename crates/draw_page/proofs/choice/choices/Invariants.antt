use Rattle.std.proofs.Common.{◌≡◌, IfOk, take}
use Rattle.std.specs.List.{flat_map}
use Rattle.draw_page.specs.Choices.{choice_html}
use Rattle.draw_page.proofs.choice.choices.Given as goal

abbrev pub invariant-loop-choice : goal.invariant-loop-choice
invariant-loop-choice l =
    IfOk l.made (λ html. html.text.items
    ≡ flat_map (choice_html l.tick_us) (take l.choice-index l.failing))
