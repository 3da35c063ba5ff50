use Rattle.std.proofs.Common.{◌≡◌, ◌++◌, take}
use Rattle.base_markup.specs.html.Attributes.{attributes_text, said}
use Rattle.base_markup.proofs.html.attribute.put_attributes.Given as goal

abbrev pub invariant-loop-attribute : goal.invariant-loop-attribute
invariant-loop-attribute l =
    l.text.items
    ≡ l.initial.text.items ++ attributes_text (said (take l.attribute-index l.attributes))
