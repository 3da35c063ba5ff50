-- The text of a drawing as SVG: one element.
use Rattle.std.specs.Prelude.{◌++◌, ◌/◌, ℕ, List, [], ◌∷◌, codes, decimal}
use Rattle.std.specs.List.{flat_map}
use Rattle.base_markup.specs.declared.svg.tag.Tag.TheVariants as tag
use Rattle.base_markup.specs.declared.svg.attribute.Key.{Key}
use Rattle.base_markup.specs.declared.svg.attribute.Key.TheVariants as key
use Rattle.base_markup.specs.{svg.Attributes.tenths_said, svg.Content.leaf_text, svg.Content.element_text}
use Rattle.base_markup.specs.svg.Escape.{escaped}
use Rattle.draw_shapes.specs.declared.class.Class.{Class}
use Rattle.draw_shapes.specs.declared.class.Class.TheVariants as class
use Rattle.draw_shapes.specs.declared.class.TheConstants.{CLASSES}
use Rattle.draw_shapes.specs.Classes.{class_name, look_of}
use Rattle.draw_shapes.specs.Seen.{SeenFigure, rectangle, line, text, SeenShape, plain, titled}
use Rattle.draw_shapes.specs.Seen.{SeenDrawing}

-- ---- figures, each an element on a line of its own

abbrev pub end_of_line : List ℕ
end_of_line = codes "\n"

abbrev pub figure_attributes : SeenFigure → List (Key × List ℕ)
figure_attributes (rectangle class x y width height) =
    (key.Class, class_name class) ∷ ((key.X, tenths_said x) ∷ ((key.Y, tenths_said y)
    ∷ ((key.Width, tenths_said width) ∷ ((key.Height, tenths_said height) ∷ []))))
figure_attributes (line class x1 y1 x2 y2) =
    (key.Class, class_name class) ∷ ((key.X1, tenths_said x1) ∷ ((key.Y1, tenths_said y1)
    ∷ ((key.X2, tenths_said x2) ∷ ((key.Y2, tenths_said y2) ∷ []))))
figure_attributes (text class x y words) =
    (key.Class, class_name class) ∷ ((key.X, tenths_said x) ∷ ((key.Y, tenths_said y) ∷ []))

-- the element of a figure with these attributes
abbrev pub figure_element : List (Key × List ℕ) → SeenFigure → List ℕ
figure_element attributes (rectangle class x y width height) = leaf_text tag.Rectangle attributes
figure_element attributes (line class x1 y1 x2 y2) = leaf_text tag.Line attributes
figure_element attributes (text class x y words) =
    element_text tag.Text attributes (escaped words)

unfoldable pub figure_text : SeenFigure → List ℕ
figure_text f = figure_element (figure_attributes f) f ++ end_of_line

abbrev pub figures_text : List SeenFigure → List ℕ
figures_text figures = flat_map figure_text figures

-- ---- shapes

unfoldable pub title_text : List ℕ → List ℕ
title_text title = element_text tag.Title [] (escaped title) ++ end_of_line

-- figures under a title are a group
unfoldable pub group_text : List ℕ → List SeenFigure → List ℕ
group_text title figures =
    element_text tag.Group [] (title_text title ++ figures_text figures) ++ end_of_line

abbrev pub shape_text : SeenShape → List ℕ
shape_text (plain figures) = figures_text figures
shape_text (titled title figures) = group_text title figures

abbrev pub shapes_text : List SeenShape → List ℕ
shapes_text shapes = flat_map shape_text shapes

-- what made a drawing, in words that are not drawn
unfoldable pub description_text : List ℕ → List ℕ
description_text made =
    element_text tag.Description [] (escaped made) ++ end_of_line

-- ---- the style

-- words without a look of their own
abbrev pub plain_rule : List ℕ
plain_rule = codes "\ntext { font: 12px sans-serif; fill: #1b2733 }\n"

-- the rule of a class: what the sheet says of it
unfoldable pub rule_text : Class → List ℕ
rule_text look = codes "." ++ class_name look ++ codes " { " ++ look_of look ++ codes " }\n"

-- a rule for each look, in order
abbrev pub rules_text : List ℕ
rules_text = plain_rule ++ flat_map rule_text CLASSES

unfoldable pub sheet_text : List ℕ
sheet_text = element_text tag.Style [] (escaped rules_text) ++ end_of_line

-- stripes over a pale ground, under a name that the style sheet cites
abbrev pub hatching_attributes : List ℕ → List ℕ → List (Key × List ℕ)
hatching_attributes name turn =
    (key.Id, name) ∷ ((key.Width, codes "6") ∷ ((key.Height, codes "6")
    ∷ ((key.PatternUnits, codes "userSpaceOnUse") ∷ ((key.PatternTransform, turn) ∷ []))))

abbrev pub stripes_text : Class → Class → List ℕ
stripes_text pale stripe =
    figure_text (rectangle pale 0 0 60 60) ++ figure_text (rectangle stripe 0 0 30 60)

unfoldable pub hatching_text : List ℕ → List ℕ → Class → Class → List ℕ
hatching_text name turn pale stripe =
    element_text tag.Pattern (hatching_attributes name turn) (stripes_text pale stripe)
    ++ end_of_line

-- the hatching of keys, that of trips and that of what the logic makes
unfoldable pub key_hatching : List ℕ
key_hatching = hatching_text (codes "key-open") (codes "rotate(45)") class.KeyPale class.KeyHatch

unfoldable pub trip_hatching : List ℕ
trip_hatching =
    hatching_text (codes "trip-open") (codes "rotate(135)") class.TripPale class.TripHatch

unfoldable pub logic_hatching : List ℕ
logic_hatching =
    hatching_text (codes "logic-open") (codes "rotate(90)") class.LogicPale class.LogicHatch

unfoldable pub hatchings_text : List ℕ
hatchings_text =
    element_text tag.Defs [] (key_hatching ++ trip_hatching ++ logic_hatching) ++ end_of_line

-- ---- the whole

-- 1,000 pixels wide, and as high as the drawing
abbrev pub root_attributes : ℕ → List (Key × List ℕ)
root_attributes height =
    (key.Xmlns, codes "http://www.w3.org/2000/svg")
    ∷ ((key.ViewBox, codes "0 0 1000 " ++ decimal (height / 10)) ∷ ((key.Width, codes "1000")
    ∷ ((key.Height, decimal (height / 10)) ∷ ((key.Role, codes "img") ∷ []))))

-- what stands in the one element
abbrev pub inside_text : List ℕ → SeenDrawing → List ℕ
inside_text made d =
    end_of_line ++ title_text d.title ++ description_text made ++ sheet_text ++ hatchings_text
    ++ shapes_text d.shapes

unfoldable pub svg_of : List ℕ → SeenDrawing → List ℕ
svg_of made d =
    element_text tag.Svg (root_attributes d.height) (inside_text made d) ++ end_of_line
