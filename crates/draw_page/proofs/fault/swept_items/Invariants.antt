use Rattle.std.proofs.Common.{◌≡◌, IfOk, take}
use Rattle.std.specs.List.{flat_map}
use Rattle.draw_page.specs.Faults.{swept_item_html}
use Rattle.draw_page.proofs.fault.swept_items.Given as goal

abbrev pub invariant-loop-one : goal.invariant-loop-one
invariant-loop-one l =
    IfOk l.made (λ html. html.text.items
    ≡ flat_map (λ one. swept_item_html one.items) (take l.one-index l.swept))
