-- The results of a script have one first fault, and none where they are supported.
use Rattle.std.proofs.Common.{◌≡◌, ℕ, List, sym, ◌∙◌, subst}
use Rattle.model_line.specs.{declared.line.Line.Line, declared.script.Script.Script}
use Rattle.model_logic.specs.Choice.{declared_box}
use Rattle.cert_claims.specs.declared.check.no.NoFault.{NoFault}
use Rattle.cert_claims.specs.{check.NoFaults.IsNoFault, check.Refutations.IsRefutation}
use Rattle.cert_claims.specs.check.ScriptLaws.{wrong_refuses, wrong_once}
use Rattle.judge_split.specs.declared.node.Node.{Node}
use Rattle.judge_split.specs.{Trees.SplitTree, Leaves.leaves, Leaves.IsSoundSplit}
use Rattle.cert_split.specs.text.Grammar.{SplitResult, tree, fails}
use Rattle.cert_split.specs.declared.check.fault.ResultFault.{ResultFault}
use Rattle.cert_split.specs.declared.check.fault.ResultFault.TheVariants.{NotHeld, No}
use Rattle.cert_split.specs.check.FirstLeaf.{IsTreeHeld, IsTreeNotHeld, IsFirstNotHeld}
use Rattle.cert_split.specs.check.Results.{IsSupported, IsTreeFault, IsFailsFault, IsFaultOf}
use Rattle.cert_split.specs.check.Results.{AreSupported, IsFirstFault}
use Rattle.cert_split.proofs.check_lemmas.FirstLeafLaws.{sound_held}
use Rattle.cert_split.proofs.check_lemmas.OneTree.{one_tree, leaf_once}

-- what the law of a `no` says
pub record OneNo : Type 0 where
  pub one : (line : Line) (script : Script) (k : ℕ) (values : List ℕ) (f g : NoFault)
      → IsNoFault line script k values f → IsNoFault line script k values g → f ≡ g
  pub refused : (line : Line) (script : Script) (k : ℕ) (values : List ℕ) (f : NoFault)
      → IsNoFault line script k values f → ¬ (IsRefutation line script k values)

-- ---- one result

module _ (law : OneNo) (line : Line) (script : Script) (k : ℕ) where
  tree_refused : (nodes : List Node) (n : ℕ) → IsTreeNotHeld line script k nodes n
      → IsTreeHeld line script k nodes → ⊥
  tree_refused nodes n wrong held =
      let same : held.tree ≡ wrong.tree = one_tree held.tree wrong.tree nodes held.are wrong.are in
      let first = wrong.first in
      let sound : IsSoundSplit line script k (declared_box line) wrong.tree =
      subst (λ (t : SplitTree). IsSoundSplit line script k (declared_box line) t) same held.sound in
      first.not_held
      (sound_held line script k wrong.tree (declared_box line) sound n first.leaf first.at first.yes)

  tree_once : (nodes : List Node) (n m : ℕ) → IsTreeNotHeld line script k nodes n
      → IsTreeNotHeld line script k nodes m → n ≡ m
  tree_once nodes n m a b =
      let same : b.tree ≡ a.tree = one_tree b.tree a.tree nodes b.are a.are in
      leaf_once line script k (leaves (declared_box line) a.tree) n m a.first
      (subst (λ (t : SplitTree). IsFirstNotHeld line script k (leaves (declared_box line) t) m) same
      b.first)

  refused : (result : SplitResult) (f : ResultFault) → IsFaultOf line script k result f
      → IsSupported line script k result → ⊥
  refused (tree nodes) (NotHeld j n) wrong held = tree_refused nodes n wrong.1 held
  refused (tree nodes) (No j fault) wrong held = wrong
  refused (fails values) (NotHeld j n) wrong held = wrong
  refused (fails values) (No j fault) wrong held =
      law.refused line script k values fault wrong.1 held

  fails_once : (values : List ℕ) (f g : ResultFault) → IsFailsFault line script k values f
      → IsFailsFault line script k values g → f ≡ g
  fails_once values (NotHeld j n) g a b = absurd a
  fails_once values (No j v) (NotHeld l n) a b = absurd b
  fails_once values (No j v) (No l w) a b =
      let terminal : j ≡ l = a.0 ∙ sym b.0 in
      let fault : v ≡ w = law.one line script k values v w a.1 b.1 in
      cc

  nodes_once : (nodes : List Node) (f g : ResultFault) → IsTreeFault line script k nodes f
      → IsTreeFault line script k nodes g → f ≡ g
  nodes_once nodes (No j v) g a b = absurd a
  nodes_once nodes (NotHeld j n) (No l w) a b = absurd b
  nodes_once nodes (NotHeld j n) (NotHeld l m) a b =
      let terminal : j ≡ l = a.0 ∙ sym b.0 in
      let leaf : n ≡ m = tree_once nodes n m a.1 b.1 in
      cc

  fault_once : (result : SplitResult) (f g : ResultFault) → IsFaultOf line script k result f
      → IsFaultOf line script k result g → f ≡ g
  fault_once (tree nodes) f g a b = nodes_once nodes f g a b
  fault_once (fails values) f g a b = fails_once values f g a b

-- ---- the results of a script

module _ (law : OneNo) (line : Line) (script : Script) (results : List SplitResult) where
  pub results_refused : (f : ResultFault) → IsFirstFault line script results f
      → ¬ (AreSupported line script results)
  results_refused f first supported =
      wrong_refuses (IsSupported line script) (IsFaultOf line script)
      (λ k result f h stands. refused law line script k result f h stands) results f first supported

  pub results_once : (f g : ResultFault) → IsFirstFault line script results f
      → IsFirstFault line script results g → f ≡ g
  results_once f g a b =
      wrong_once (IsSupported line script) (IsFaultOf line script)
      (λ k result f h stands. refused law line script k result f h stands) results
      (λ k result f g. fault_once law line script k result f g) f g a b
