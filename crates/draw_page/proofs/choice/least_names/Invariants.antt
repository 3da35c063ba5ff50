use Rattle.std.proofs.Common.{◌≡◌, IfOk, take}
use Rattle.std.specs.List.{flat_map}
use Rattle.draw_page.specs.Choices.{least_name_html}
use Rattle.draw_page.proofs.choice.least_names.Given as goal

abbrev pub invariant-loop-name : goal.invariant-loop-name
invariant-loop-name l =
    IfOk l.made (λ html. html.text.items
    ≡ flat_map least_name_html (take l.name-index l.least))
