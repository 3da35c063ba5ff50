-- The two sides of a cut.
use Rattle.std.specs.Prelude.{◌≡◌, ◌∷◌, ℕ, Bool, true, false, List}
use Rattle.model_line.specs.declared.line.Line.{Line}
use Rattle.model_logic.specs.Choice.{Box}
use Rattle.model_settle.specs.Assumed.{Assumption, Throughout, Interrupted, Span, HasSpan}
use Rattle.model_settle.specs.Parts.{CanPart, upper_from}
use Rattle.model_logic.specs.Boxes.{lower_half}
use Rattle.judge_ahead.specs.declared.cuts.Cut.{Cut}
use Rattle.judge_ahead.specs.declared.cuts.Cut.TheVariants as cut
use Rattle.judge_cases.specs.{AssumedAt.span_at, Views.Views}
use Rattle.judge_cases.specs.declared.view.View.{View}
use Rattle.judge_settle.specs.declared.settle.sides.Branch.{Branch}
use Rattle.judge_settle.specs.declared.settle.sides.Branches.{Branches}

-- of whatever box the view is, the two are its parts there
pub record AreParts (line : Line) (view : View) (param mid : ℕ) (first second : View)
    : Type 0 where
  pub can : (box : Box) (assumed : List Assumption) → Views line box assumed view
      → CanPart line box param mid
  pub lower : (box : Box) (assumed : List Assumption) → Views line box assumed view
      → Views line (lower_half box param mid) assumed first
  pub upper : (box : Box) (assumed : List Assumption) → Views line box assumed view
      → Views line (upper_from box param mid) assumed second

-- the two are its cases over this span
pub record AreBothCases (line : Line) (view : View) (span : Span) (first second : View)
    : Type 0 where
  pub can : HasSpan line span
  pub throughout : (box : Box) (assumed : List Assumption) → Views line box assumed view
      → Views line box (Throughout span ∷ assumed) first
  pub interrupted : (box : Box) (assumed : List Assumption) → Views line box assumed view
      → Views line box (Interrupted span ∷ assumed) second

-- the two are the sides of the cut
abbrev pub AreSides : Line → View → Cut → View → View → Type 0
AreSides line view (cut.Parted param mid) first second =
    AreParts line view param mid first second
AreSides line view (cut.Wanted span) first second =
    AreBothCases line view (span_at span.terminal span.from span.to) first second

-- one of two branches, then the other; it is told whether the second is the first of these
pub record AreOrdered (first second : Branch) (turned : Bool) (one other : Branch) : Type 0 where
  pub kept : turned ≡ false → (one ≡ first) × (other ≡ second)
  pub turned_round : turned ≡ true → (one ≡ second) × (other ≡ first)

-- they are the sides of the cut, in the order that is told
pub record AreBranches (line : Line) (view : View) (made : Cut) (branches : Branches)
    : Type 0 where
  pub first : Branch
  pub second : Branch
  pub sides : AreSides line view made first.view second.view
  pub ordered : AreOrdered first second branches.turned branches.worse branches.other
