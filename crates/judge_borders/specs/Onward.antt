-- Histories of a line, and of the line that is played on.
use Rattle.std.specs.Prelude.{◌≡◌, ◌≤◌, ◌<◌, ◌+◌, ◌*◌, ◌↔◌, ℕ, List, length}
use Rattle.model_history.specs.Rails.{Ends}
use Rattle.model_line.specs.declared.line.Line.{Line}
use Rattle.model_line.specs.declared.script.Kind.TheVariants.{Internal}
use Rattle.model_line.specs.Parameters.{terminal_count}
use Rattle.model_logic.specs.{Choice.Choice, Histories.History}
use Rattle.model_fine.specs.{Fine.IsFineWithin, Loose.IsShownHistory, Onward.IsPlayedOn}
use Rattle.model_borders.specs.Borders.{AreLengthsIn, shown_at, stands}
use Rattle.judge_borders.specs.declared.fault.Fault.{Fault}
use Rattle.judge_borders.specs.Parts.{CanAsk, MeetsAt, box_of, line_of}

-- at all lengths of the part what is asked is asked of ticks before the line's horizon
pub record IsAskedWithin (line : Line) (fault : Fault) (part : List Ends) : Type 0 where
  pub deadline : fault.asked.kind ≡ Internal → (n : ℕ) (x : ℕ → ℕ) → 1 ≤ n → AreLengthsIn n part x
      → stands n fault.script.now.borders.items (length part) x fault.asked.counted
      + fault.asked.within * n
      < line.horizon * n
  pub end : fault.asked.end ≤ line.horizon

-- each history of the line goes on in one of the line that is played on, which meets what is asked of terminal k
-- exactly where it does
abbrev pub EachHistoryGoesOn : Type 0
EachHistoryGoesOn =
    (fault : Fault) (line : Line) (part : List Ends) (k n : ℕ) (x : ℕ → ℕ) (choice : Choice) (h : History)
    → IsPlayedOn line (line_of fault) → CanAsk fault → IsAskedWithin line fault part
    → k < terminal_count line → 1 ≤ n → AreLengthsIn n part x
    → IsFineWithin n line choice (box_of fault)
    → IsShownHistory n line (shown_at n fault.script.now (length part) x) choice h
    → (late : Choice) × (g : History) × IsFineWithin n (line_of fault) late (box_of fault)
    × IsShownHistory n (line_of fault) (shown_at n fault.script.now (length part) x) late g
    × (MeetsAt n x fault (length part) (g.trip k) ↔ MeetsAt n x fault (length part) (h.trip k))
