-- What is seen of a drawing.
use Rattle.std.specs.Prelude.{ℕ, List, map}
use Rattle.draw_shapes.specs.declared.class.Class.{Class}
use Rattle.draw_shapes.specs.declared.figure.Figure.{Figure}
use Rattle.draw_shapes.specs.declared.figure.Figure.TheVariants as figure
use Rattle.draw_shapes.specs.declared.shape.Shape.{Shape}
use Rattle.draw_shapes.specs.declared.shape.Shape.TheVariants as shape
use Rattle.draw_shapes.specs.declared.shape.Drawing.{Drawing}

-- a rectangle by its upper left corner, width and height; a line by its two ends; words by the
-- place of their base
pub data SeenFigure : Type 0 where
  rectangle : (class : Class) (x y width height : ℕ) → SeenFigure
  line : (class : Class) (x1 y1 x2 y2 : ℕ) → SeenFigure
  text : (class : Class) (x y : ℕ) (words : List ℕ) → SeenFigure

-- figures, or figures under a title
pub data SeenShape : Type 0 where
  plain : List SeenFigure → SeenShape
  titled : (title : List ℕ) → List SeenFigure → SeenShape

pub record SeenDrawing : Type 0 where
  pub title : List ℕ
  pub height : ℕ
  pub shapes : List SeenShape

abbrev pub figure_seen : Figure → SeenFigure
figure_seen (figure.Rectangle r) = rectangle r.class r.x r.y r.width r.height
figure_seen (figure.Line s) = line s.class s.x1 s.y1 s.x2 s.y2
figure_seen (figure.Text l) = text l.class l.x l.y l.words.items

abbrev pub figures_seen : List Figure → List SeenFigure
figures_seen figures = map figure_seen figures

abbrev pub shape_seen : Shape → SeenShape
shape_seen (shape.Plain figures) = plain (figures_seen figures.items)
shape_seen (shape.Titled title figures) = titled title.items (figures_seen figures.items)

abbrev pub shapes_seen : List Shape → List SeenShape
shapes_seen shapes = map shape_seen shapes

abbrev pub drawing_seen : Drawing → SeenDrawing
drawing_seen d = record {
  title = d.title.items;
  height = d.height;
  shapes = shapes_seen d.shapes.items;
}
