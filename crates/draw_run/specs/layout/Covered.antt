-- A tick in the bars of a row.
use Rattle.std.specs.Prelude.{◌≡◌, ◌↔◌, ◌+◌, ◌≤◌, ℕ, true}
use Rattle.std.specs.List.{Any}
use Rattle.model_history.specs.Rails.{Rails}
use Rattle.draw_run.specs.declared.diagram.rows.Row.{Row}
use Rattle.draw_run.specs.declared.layout.scale.Scale.{Scale}
use Rattle.draw_shapes.specs.Seen.{SeenFigure}
use Rattle.draw_shapes.specs.Seen as seen
use Rattle.draw_shapes.specs.declared.class.Class.TheVariants as class
use Rattle.draw_run.specs.{layout.Rows.bars, layout.Scale.place_of}

-- the figure is a bar from where tick t begins, or before, to where it ends, or beyond
abbrev pub CoversTick : Scale → ℕ → SeenFigure → Type 0
CoversTick scale t (seen.rectangle look x y width height) =
    (x ≤ place_of scale t) × (place_of scale (t + 1) ≤ x + width)
CoversTick scale t (seen.line look x1 y1 x2 y2) = ⊥
CoversTick scale t (seen.text look x y words) = ⊥

-- it is full, and not hatched
abbrev pub IsFull : SeenFigure → Type 0
IsFull (seen.rectangle class.Seen x y width height) = Unit {0}
IsFull (seen.rectangle class.LogicOn x y width height) = Unit {0}
IsFull (seen.rectangle class.KeyOn x y width height) = Unit {0}
IsFull (seen.rectangle class.TripOn x y width height) = Unit {0}
IsFull figure = ⊥

abbrev pub CoversInFull : Scale → ℕ → SeenFigure → Type 0
CoversInFull scale t figure = CoversTick scale t figure × IsFull figure

-- some bar of the row covers the tick exactly where the row may be on there, and a full one exactly
-- where it must be
pub record ShowsTick (scale : Scale) (base : ℕ) (row : Row) (t : ℕ) (pair : Rails) : Type 0 where
  pub may_be : (pair.may ≡ true)
      ↔ Any (CoversTick scale t) (bars scale row.trace base row.stretches.items)
  pub must_be : (pair.must ≡ true)
      ↔ Any (CoversInFull scale t) (bars scale row.trace base row.stretches.items)
