-- The ticks that are marked by lines.
use Rattle.std.specs.Prelude.{◌++◌, ◌-◌, ℕ, Bool, false, List, [], ◌∷◌, codes, nat_le, nat_lt}
use Rattle.std.specs.Prelude.{if◌then◌else◌, Option, Some, None, option_map}
use Rattle.model_line.specs.declared.line.Line.{Line}
use Rattle.draw_run.specs.declared.diagram.diagram.Diagram.{Diagram}
use Rattle.draw_shapes.specs.declared.class.Class.TheVariants as class
use Rattle.draw_shapes.specs.{Seen.SeenFigure}
use Rattle.draw_shapes.specs.Seen as seen
use Rattle.draw_run.specs.{declared.layout.mark.Mark.Mark, declared.layout.mark.Look.Look}
use Rattle.draw_run.specs.layout.Words.{said, tick_said, tick_end_said}
use Rattle.draw_run.specs.declared.layout.scale.Scale.{Scale}
use Rattle.draw_run.specs.layout.Scale.{place_of, end_of, more}

-- where a mark's line stands, and what is said of it
abbrev pub view_of : Mark → ℕ × List ℕ
view_of mark = (mark.x, said mark.said)

-- the inception's line stands where its tick begins
abbrev pub inception_of : Line → Scale → Diagram → Option (ℕ × List ℕ)
inception_of of scale diagram =
    option_map (λ t. (place_of scale t, codes "fault " ++ tick_said of.tick_us t))
    diagram.inception

-- the deadline's line stands where its tick ends
abbrev pub deadline_of : Line → Scale → Diagram → Option (ℕ × List ℕ)
deadline_of of scale diagram =
    option_map (λ t. (end_of scale t, codes "deadline " ++ tick_end_said of.tick_us t))
    diagram.deadline

-- how a mark looks: its line, and its words at the right and at the left of it
abbrev pub inception_look : Look
inception_look = record {
  line = class.Inception;
  right = class.Quiet;
  left = class.QuietEnd;
}

abbrev pub deadline_look : Look
deadline_look = record { line = class.Deadline; right = class.Due; left = class.DueEnd }

-- the words of a mark beside the upper end of its line
abbrev pub mark_words : Look → Bool → ℕ → (ℕ × List ℕ) → SeenFigure
mark_words look is_left top mark =
    if is_left then seen.text look.left (mark.0 - 50) (more (top - 170) 100) mark.1
    else seen.text look.right (more mark.0 50) (more (top - 170) 100) mark.1

-- a mark: its line through all rows, and its words
abbrev pub flag : Look → Bool → ℕ → ℕ → (ℕ × List ℕ) → List SeenFigure
flag look is_left top bottom mark =
    seen.line look.line mark.0 (top - 170) mark.0 bottom ∷ (mark_words look is_left top mark ∷ [])

-- the marks that there are. Where there are both, the words of the earlier one stand at the left
-- of it
abbrev pub flags : ℕ → ℕ → Option (ℕ × List ℕ) → Option (ℕ × List ℕ) → List SeenFigure
flags top bottom None None = []
flags top bottom (Some inception) None =
    flag inception_look false top bottom inception
flags top bottom None (Some deadline) = flag deadline_look false top bottom deadline
flags top bottom (Some inception) (Some deadline) =
    flag inception_look (nat_le inception.0 deadline.0) top bottom inception
    ++ flag deadline_look (nat_lt deadline.0 inception.0) top bottom deadline

abbrev pub marks : Line → Scale → Diagram → ℕ → ℕ → List SeenFigure
marks of scale diagram top bottom =
    flags top bottom (inception_of of scale diagram) (deadline_of of scale diagram)
