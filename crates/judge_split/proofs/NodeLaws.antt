-- The nodes that a search finds, from those of its halves.
use Rattle.std.proofs.Common.{◌≡◌, ◌+◌, ◌-◌, ◌*◌, ◌++◌, ◌∷◌, [], ℕ, Bool, true, false, List, Some}
use Rattle.std.proofs.Common.{suc, refl, sym, ◌∙◌, ap, subst, arith}
use Rattle.std.specs.Prelude.{slice_get}
use Rattle.model_line.specs.{declared.line.Line.Line, declared.script.Script.Script}
use Rattle.model_line.specs.Parameters.{declared_middle}
use Rattle.judge_verdict.specs.declared.verdict.verdict.Verdict.TheVariants as verdict
use Rattle.judge_verdict.specs.boxes.Held.{AreParts, TellHeld}
use Rattle.judge_split.specs.declared.node.Node.{Node}
use Rattle.judge_split.specs.declared.node.Node.TheVariants as node
use Rattle.judge_split.specs.Search.{Tree, IsVerdictOf, IsSplitAt, IsLower, IsUpper, IsSearch, yes}
use Rattle.judge_split.specs.Search.{deepest, narrow, split}
use Rattle.judge_split.specs.Trees.{Yes, Undecided, Split, preorder}
use Rattle.judge_split.specs.Quiet.{AreSettled, IsNarrowed, HasHalves, AreNodesIfTold}
use Rattle.judge_split.specs.{Widths.IsNarrow, Widths.IsWidest, Found.AreNodes}

module _ (script : Script) (k n : ℕ) (line : Line) (nodes : List Node) where
  pub yes_nodes : nodes ≡ node.Yes ∷ [] → IsVerdictOf line script k verdict.Yes
      → AreNodes line script k n nodes
  yes_nodes is said = record { tree = Yes; are = is; found = yes n line said }

  pub narrow_nodes : nodes ≡ node.Undecided ∷ [] → IsVerdictOf line script k verdict.Undecided
      → IsNarrow line → AreNodes line script k n nodes
  narrow_nodes is said none = record {
    tree = Undecided;
    are = is;
    found = narrow n line said none;
  }

  pub deepest_nodes : nodes ≡ node.Undecided ∷ [] → n ≡ 0
      → IsVerdictOf line script k verdict.Undecided → AreNodes line script k n nodes
  deepest_nodes is none said = record {
    tree = Undecided;
    are = is;
    found = subst (λ (m : ℕ). IsSearch script k m line (Tree Undecided)) (sym none)
        (deepest line said);
  }

  pub split_nodes : (param mid : ℕ) (one other : Line) (first second : List Node)
      → nodes ≡ node.Split param mid ∷ (first ++ second) → mid ≡ declared_middle line param
      → (n ≡ 0 → ⊥) → IsSplitAt line script k param → IsLower line param one
      → IsUpper line param other → AreNodes one script k (n - 1) first
      → AreNodes other script k (n - 1) second → AreNodes line script k n nodes
  split_nodes param mid one other first second is is_mid some at is_lower is_upper below above =
      let deep : suc (n - 1) ≡ n = omega arith in
      record {
        tree = Split param (declared_middle line param) below.tree above.tree;
        are = is
            ∙ ap (λ (m : ℕ). node.Split param m ∷ (first ++ second)) is_mid
            ∙ ap (λ (xs : List Node). node.Split param (declared_middle line param) ∷ (xs ++ second)) below.are
            ∙ ap (λ (ys : List Node). node.Split param (declared_middle line param)
            ∷ (preorder below.tree ++ ys)) above.are;
        found = subst
            (λ (m : ℕ). IsSearch script k m line
            (Tree (Split param (declared_middle line param) below.tree above.tree))) deep
            (split (n - 1) line param one other below.tree above.tree at is_lower below.found
            is_upper above.found);
      }

-- the nodes of two trees behind a split
pub joined : (param mid : ℕ) (nodes first second a b : List Node)
    → nodes ≡ node.Split param mid ∷ (a ++ b) → a ≡ first → b ≡ second
    → nodes ≡ node.Split param mid ∷ (first ++ second)
joined param mid nodes first second a b is e f =
    is ∙ ap (λ (xs : List Node). node.Split param mid ∷ (xs ++ b)) e
    ∙ ap (λ (ys : List Node). node.Split param mid ∷ (first ++ ys)) f

-- a part of this number, over which the rule is told to be held or not
module _ (line : Line) (wide : List Bool) (parts : List Line) (held : List Bool) (i n : ℕ)
    (part : Line) (nodes : List Node) (at : slice_get parts i ≡ Some part) where
  pub yes_if_told : slice_get held i ≡ Some true → nodes ≡ node.Yes ∷ []
      → AreNodesIfTold line wide parts held i n nodes
  yes_if_told on is script k told settled = record {
    part = part;
    at = at;
    are = yes_nodes script k n part nodes is
        (λ w is_w. ((told.each i true part on at).0 refl).held w is_w);
  }

  module _ (are : AreParts line parts) (off : slice_get held i ≡ Some false)
      (narrowed : IsNarrowed line wide part) where
    undecided : (script : Script) (k : ℕ) → TellHeld script k parts held
        → AreSettled script k line wide → IsVerdictOf part script k verdict.Undecided
    undecided script k told settled =
        settled.undecided part (are.each i part at) narrowed
        (λ is_held. let wrong = (told.each i false part off at).1 is_held in cc)

    pub narrow_if_told : nodes ≡ node.Undecided ∷ [] → IsNarrow part
        → AreNodesIfTold line wide parts held i n nodes
    narrow_if_told is none script k told settled = record {
      part = part;
      at = at;
      are = narrow_nodes script k n part nodes is (undecided script k told settled) none;
    }

    pub deepest_if_told : nodes ≡ node.Undecided ∷ [] → n ≡ 0
        → AreNodesIfTold line wide parts held i n nodes
    deepest_if_told is none script k told settled = record {
      part = part;
      at = at;
      are = deepest_nodes script k n part nodes is none (undecided script k told settled);
    }

    -- with the nodes of its halves, which are among the parts
    pub split_if_told : (param mid : ℕ) (first second : List Node)
        → nodes ≡ node.Split param mid ∷ (first ++ second) → mid ≡ declared_middle part param → (n ≡ 0 → ⊥)
        → IsWidest part param → HasHalves parts i
        → AreNodesIfTold line wide parts held (2 * i + 2) (n - 1) first
        → AreNodesIfTold line wide parts held (2 * i + 3) (n - 1) second
        → AreNodesIfTold line wide parts held i n nodes
    split_if_told param mid first second is is_mid some widest has below above script k told settled =
        let low = below script k told settled in
        let high = above script k told settled in
        let (is_lower, is_upper) =
        has.halves part low.part high.part param at low.at high.at widest in
        record {
          part = part;
          at = at;
          are = split_nodes script k n part nodes param mid low.part high.part first second is is_mid
              some (record { undecided = undecided script k told settled; widest = widest })
              is_lower is_upper low.are high.are;
        }

pub told_of_same : (line : Line) (wide w : List Bool) (parts p : List Line) (held h : List Bool)
    (i n : ℕ) (nodes : List Node) → w ≡ wide → p ≡ parts → h ≡ held
    → AreNodesIfTold line w p h i n nodes → AreNodesIfTold line wide parts held i n nodes
told_of_same line wide w parts p held h i n nodes same_wide same_parts same_held told =
    subst (λ (x : List Bool). AreNodesIfTold line x parts held i n nodes) same_wide
    (subst (λ (y : List Line). AreNodesIfTold line w y held i n nodes) same_parts
    (subst (λ (z : List Bool). AreNodesIfTold line w p z i n nodes) same_held told))
