-- The tree that a search finds is no higher than it may be.
use Rattle.std.proofs.Common.{◌≤◌, ℕ, arith}
use Rattle.model_line.specs.{declared.line.Line.Line, declared.script.Script.Script}
use Rattle.judge_split.specs.Trees.{SplitTree, height}
use Rattle.judge_split.specs.Search.{Found, Tree, Fails, IsSearch, yes, no, deepest, narrow}
use Rattle.judge_split.specs.Search.{first_fails, second_fails, split}

abbrev IsAsDeep : ℕ → Found → Type 0
IsAsDeep n (Tree tree) = height tree ≤ n
IsAsDeep n (Fails timing) = Unit {0}

module _ (script : Script) (k : ℕ) where
  as_deep : (n : ℕ) (line : Line) (found : Found) → IsSearch script k n line found
      → IsAsDeep n found
  as_deep _ _ _ (yes n line said) = omega arith
  as_deep _ _ _ (no n line timing said) = tt
  as_deep _ _ _ (deepest line said) = omega arith
  as_deep _ _ _ (narrow n line said none) = omega arith
  as_deep _ _ _ (first_fails n line param first timing at is_lower found) = tt
  as_deep _ _ _ (second_fails n line param first second lower timing at is_lower below is_upper found)
      = tt
  as_deep _ _ _ (split n line param first second lower upper at is_lower below is_upper above) =
      let a : height lower ≤ n = as_deep n first (Tree lower) below in
      let b : height upper ≤ n = as_deep n second (Tree upper) above in
      grind arith

  pub search_as_deep : (n : ℕ) (line : Line) (tree : SplitTree)
      → IsSearch script k n line (Tree tree) → height tree ≤ n
  search_as_deep n line tree found = as_deep n line (Tree tree) found
