-- What a search finds can be written.
use Rattle.std.proofs.Common.{◌≤◌, ◌<◌, ◌^◌, ℕ, List, arith}
use Rattle.std.proofs.lemmas.List.Elements.{All-from_get_or}
use Rattle.model_line.specs.{declared.script.Script.Script, declared.line.Line.Line}
use Rattle.model_line.specs.Parameters.{param_count}
use Rattle.model_logic.specs.Choice.{declared_box}
use Rattle.model_timing.specs.{Timing.TimingValues, Inside.IsTimingInside}
use Rattle.judge_verdict.specs.verdict.Verdicts.{IsRefutation}
use Rattle.cert_claims.specs.text.Grammar.{AreNumbers}
use Rattle.judge_split.specs.{declared.node.Node.Node, declared.node.Outcome.Outcome}
use Rattle.judge_split.specs.declared.node.Outcome.TheVariants as outcome
use Rattle.judge_split.specs.Trees.{SplitTree, height}
use Rattle.judge_split.specs.Search.{Tree, Fails, IsSearch}
use Rattle.judge_split.specs.{Leaves.Splits, Leaves.IsSoundSplit, Found.IsFound, Found.AreNodes}
use Rattle.cert_split.specs.text.Grammar.{AreTree, IsSplitResult}
use Rattle.cert_split.specs.{text.Known.Known, text.Piece.IsPrintable, text.Piece.written_as}

-- what is known of searches
pub record Searches (line : Line) (script : Script) (k : ℕ) : Type 0 where
  pub sound : (n : ℕ) (tree : SplitTree) → IsSearch script k n line (Tree tree)
      → IsSoundSplit line script k (declared_box line) tree
  pub splits : (tree : SplitTree) → IsSoundSplit line script k (declared_box line) tree
      → Splits line (declared_box line) tree
  pub deep : (n : ℕ) (tree : SplitTree) → IsSearch script k n line (Tree tree) → height tree ≤ n
  pub fails : (n : ℕ) (timing : TimingValues) → IsSearch script k n line (Fails timing)
      → IsRefutation line script k timing

found_tree : (line : Line) (script : Script) (k n : ℕ) (nodes : List Node)
    → Searches line script k → n ≤ 8 → AreNodes line script k n nodes → AreTree line nodes
found_tree line script k n nodes known few found = record {
  tree = found.tree;
  are = found.are;
  splits = known.splits found.tree (known.sound n found.tree found.found);
  low = omega (arith, known.deep n found.tree found.found);
}

inside_numbers : Known → (line : Line) (timing : TimingValues) → IsTimingInside line timing
    → AreNumbers (param_count line) timing.values
inside_numbers known line timing is = record {
  many = is.count;
  small = All-from_get_or (λ (n : ℕ). n < 2 ^ 32) timing.values 0 (λ i lt.
      let here : i < param_count line = omega (arith, is.count) in
      omega (arith, (is.values i here).greatest, known.intervals.within line i here));
}

pub found_written : Known → (line : Line) (script : Script) (k n : ℕ) (o : Outcome)
    → Searches line script k → n ≤ 8 → IsFound line script k n o
    → IsPrintable line o × IsSplitResult line (written_as o)
found_written known line script k n (outcome.Tree nodes) searches few found =
    let is = found_tree line script k n nodes.items searches few found in (is, is)
found_written known line script k n (outcome.Fails timing) searches few found =
    let is = searches.fails n timing found in
    ((is.inside.count, is.steady), inside_numbers known line timing is.inside)
