-- What is answered of a record.
use Rattle.std.specs.Prelude.{◌≡◌, ℕ, Bool, true, false, not, List, [], ◌∷◌, ◌++◌}
use Rattle.std.specs.List.{flat_map, range_with_len}
use Rattle.model_line.specs.{declared.line.Line.Line, declared.script.Script.Script}
use Rattle.model_line.specs.Parameters.{terminal_count}
use Rattle.model_logic.specs.Histories.{History, IsLineHistory}
use Rattle.model_timing.specs.{Timing.TimingValues, Choice.timing_choice}
use Rattle.judge_match.specs.explain.Changes.{changes}
use Rattle.judge_match.specs.explain.Explains.{Explains, IsSteadyInside, NoneExplains, signal_of}
use Rattle.judge_match.specs.explain.Parts.{PartTree, preorder, part_count, AreExcluded, declared_part}
use Rattle.judge_match.specs.declared.explain.tree.PartNode.{PartNode}
use Rattle.judge_match.specs.declared.explain.paired.Paired.{Paired}
use Rattle.judge_match.specs.declared.explain.answer.Explanation.{Explanation}
use Rattle.judge_match.specs.declared.explain.answer.Explanation.TheVariants.{Explained, Impossible, Open}

-- the changes of a signal as they were recorded and as they are played, side by side, the first of
-- them to this level
abbrev pub paired : ℕ → Bool → Bool → List ℕ → List ℕ → List Paired
paired k trip level (a ∷ more) (b ∷ others) =
    record { terminal = k; trip = trip; level = level; recorded = a; played = b }
    ∷ paired k trip (not level) more others
paired k trip level _ _ = []

abbrev pub paired_signal : Line → History → History → Bool → ℕ → List Paired
paired_signal line recorded h trip k =
    paired k trip true (changes (signal_of recorded trip k) line.horizon)
    (changes (signal_of h trip k) line.horizon)

-- terminal after terminal, the key's changes and then the trip's
abbrev pub paired_terminal : Line → History → History → ℕ → List Paired
paired_terminal line recorded h k =
    paired_signal line recorded h false k ++ paired_signal line recorded h true k

abbrev pub paired_changes : Line → History → History → List Paired
paired_changes line recorded h =
    flat_map (paired_terminal line recorded h) (range_with_len 0 (terminal_count line))

-- a timing inside, without steps, explains the record, and these are the changes of both
pub record IsExplainedBy (line : Line) (script : Script) (within : ℕ) (recorded : History)
    (timing : TimingValues) (rows : List Paired) : Type 0 where
  pub inside : IsSteadyInside line timing
  pub explains : Explains line script within recorded timing
  pub rows_are : (h : History) → IsLineHistory line script (timing_choice line timing) h
      → rows ≡ paired_changes line recorded h

-- they are the nodes of a tree of parts of the declared intervals whose leaves are all excluded,
-- and it comes to so many; so no timing inside explains the record
pub record IsImpossible (line : Line) (script : Script) (within : ℕ) (recorded : History)
    (nodes : List PartNode) (parts : ℕ) : Type 0 where
  pub tree : PartTree
  pub are : nodes ≡ preorder tree
  pub count : parts ≡ part_count tree
  pub excluded : AreExcluded line script within recorded (declared_part line) tree
  pub none : NoneExplains line script within recorded

-- the answer: which timing or tree it is, and when it is left open, is free
abbrev pub IsExplanation : Line → Script → ℕ → History → Explanation → Type 0
IsExplanation line script within recorded (Explained timing rows) =
    IsExplainedBy line script within recorded timing rows.items
IsExplanation line script within recorded (Impossible nodes parts) =
    IsImpossible line script within recorded nodes.items parts
IsExplanation line script within recorded Open = Unit {0}
