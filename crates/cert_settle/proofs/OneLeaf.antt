-- A tree that is one leaf.
use Rattle.std.proofs.Common.{◌≡◌, ◌∷◌, [], ℕ, List, length, true, refl, ap}
use Rattle.std.proofs.Common.{arith, length-append}
use Rattle.std.specs.Prelude.{get_or}
use Rattle.model_line.specs.{declared.line.Line.Line, declared.script.Script.Script}
use Rattle.model_logic.specs.Choice.{declared_box}
use Rattle.model_settle.specs.CaseTrees.{CaseTree, Yes, Undecided, Parted, Wanted, IsShownUnder}
use Rattle.judge_cases.specs.declared.node.CaseNode.{CaseNode}
use Rattle.judge_cases.specs.declared.node.CaseNode.TheVariants as node
use Rattle.judge_cases.specs.Nodes.{preorder}
use Rattle.judge_cases.specs.Trees.{AreTree}
use Rattle.cert_settle.specs.CaseParts.{whole_part}
use Rattle.cert_settle.specs.FirstLeaf.{IsTreeShown, IsTreeNotShown}
use Rattle.cert_settle.proofs.WalkLaws.{few_nodes}

module _ (line : Line) (script : Script) (k : ℕ) (root : CaseNode) where
  -- it is undecided, where it is not yes
  pub root_undecided : AreTree line (root ∷ []) → ¬ (root ≡ node.Yes)
      → IsTreeShown line script k (root ∷ [])
  root_undecided are other = by are.tree are.are where
    by : (t : CaseTree) → (root ∷ []) ≡ preorder t → IsTreeShown line script k (root ∷ [])
    by Yes is =
        let same : root ≡ node.Yes = ap (λ (l : List CaseNode). get_or l 0 root) is in
        absurd (other same)
    by Undecided is = record { tree = Undecided; are = is; sound = tt }
    by (Parted param mid first second) is =
        absurd (omega (
          arith,
          ap length is,
          few_nodes first,
          few_nodes second,
          length-append (preorder first) (preorder second),
        ))
    by (Wanted span first second) is =
        absurd (omega (
          arith,
          ap length is,
          few_nodes first,
          few_nodes second,
          length-append (preorder first) (preorder second),
        ))

  pub root_shown : root ≡ node.Yes → IsShownUnder line script k (declared_box line) []
      → IsTreeShown line script k (root ∷ [])
  root_shown is shown = record {
    tree = Yes;
    are = ap (λ (n : CaseNode). n ∷ []) is;
    sound = shown;
  }

  pub root_is_not_shown : root ≡ node.Yes → ¬ (IsShownUnder line script k (declared_box line) [])
      → IsTreeNotShown line script k (root ∷ []) 0
  root_is_not_shown is never = record {
    tree = Yes;
    are = ap (λ (n : CaseNode). n ∷ []) is;
    first = record {
      leaf = record { part = whole_part line; yes = true };
      at = refl;
      yes = refl;
      not_shown = never;
      before = λ i earlier lt at on. absurd (omega (arith, lt));
    };
  }
