-- A script's part of the text, of what was searched.
use Rattle.std.specs.Prelude.{◌≡◌, List, [], length}
use Rattle.std.specs.List.{All}
use Rattle.model_line.specs.Parameters.{terminal_count, param_count}
use Rattle.model_line.specs.declared.line.Line.{Line}
use Rattle.judge_split.specs.declared.node.Outcome.{Outcome}
use Rattle.judge_split.specs.declared.node.Outcome.TheVariants as outcome
use Rattle.cert_split.specs.text.Grammar.{SplitResult, tree, fails, AreTree}

-- what is written of an outcome: the tree, or the numbers of the timing
abbrev pub written_as : Outcome → SplitResult
written_as (outcome.Tree nodes) = tree nodes.items
written_as (outcome.Fails timing) = fails timing.values

-- a tree that the grammar has, or a timing with one number for each parameter and no steps
abbrev pub IsPrintable : Line → Outcome → Type 0
IsPrintable line (outcome.Tree nodes) = AreTree line nodes.items
IsPrintable line (outcome.Fails timing) =
    (length timing.values ≡ param_count line) × (timing.steps ≡ [])

-- one outcome for each terminal
pub record ArePrintable (line : Line) (searches : List Outcome) : Type 0 where
  pub many : length searches ≡ terminal_count line
  pub each : All (IsPrintable line) searches
