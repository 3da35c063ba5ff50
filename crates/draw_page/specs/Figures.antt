-- Drawings within the page, and what they share: the looks and the hatchings, which stand once.
use Rattle.std.specs.Prelude.{◌++◌, ℕ, List, [], ◌∷◌, codes}
use Rattle.base_markup.specs.svg.Content as svg_content
use Rattle.base_markup.specs.declared.svg.tag.Tag.TheVariants as svg_tag
use Rattle.base_markup.specs.declared.svg.attribute.Key.TheVariants as svg_key
use Rattle.base_markup.specs.declared.html.tag.Tag.TheVariants as tag
use Rattle.base_markup.specs.declared.html.attribute.Key.TheVariants as key
use Rattle.base_markup.specs.html.Content.{element_text}
use Rattle.draw_shapes.specs.declared.class.Class.{Class}
use Rattle.draw_shapes.specs.Seen.{SeenDrawing}
use Rattle.draw_shapes.specs.Svg.{end_of_line, hatchings_text, root_attributes, rule_text}
use Rattle.draw_shapes.specs.Svg.{shapes_text, title_text}
use Rattle.draw_page.specs.Elements.{classed_html}

-- its title and its shapes
abbrev pub drawn_inside : SeenDrawing → List ℕ
drawn_inside d = end_of_line ++ title_text d.title ++ shapes_text d.shapes

-- a drawing as one element
unfoldable pub drawing_html : SeenDrawing → List ℕ
drawing_html d =
    svg_content.element_text svg_tag.Svg (root_attributes d.height) (drawn_inside d)

unfoldable pub figure_html : SeenDrawing → List ℕ
figure_html d = classed_html tag.Figure (codes "drawing") (drawing_html d)

-- the rule of a look, for drawings alone
unfoldable pub look_rule : Class → List ℕ
look_rule look = codes "svg " ++ rule_text look

-- the hatchings that the looks name, in a drawing without size
unfoldable pub patterns_html : List ℕ
patterns_html =
    element_text tag.Division ((key.Class, codes "patterns") ∷ ((key.AriaHidden, codes "true") ∷ []))
    (svg_content.element_text svg_tag.Svg
    ((svg_key.Xmlns, codes "http://www.w3.org/2000/svg")
    ∷ ((svg_key.Width, codes "0") ∷ ((svg_key.Height, codes "0") ∷ [])))
    hatchings_text)
