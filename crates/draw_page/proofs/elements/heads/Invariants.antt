use Rattle.std.proofs.Common.{◌≡◌, map, take}
use Rattle.std.specs.List.{flat_map}
use Rattle.draw_page.specs.Elements.{column_html}
use Rattle.draw_page.proofs.elements.heads.Given as goal

abbrev pub invariant-loop-words : goal.invariant-loop-words
invariant-loop-words l =
    l.made.text.items ≡ flat_map column_html (map (λ words. words.now) (take l.words-index l.all))
