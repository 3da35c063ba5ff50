-- The results of a script have one first fault, and none where they are supported.
use Rattle.std.proofs.Common.{◌≡◌, ℕ, List, sym, ◌∙◌, subst}
use Rattle.model_line.specs.{declared.line.Line.Line, declared.script.Script.Script}
use Rattle.model_timing.specs.{Timing.TimingValues}
use Rattle.cert_claims.specs.declared.check.no.NoFault.{NoFault}
use Rattle.model_settle.specs.CaseTrees.{CaseTree}
use Rattle.cert_claims.specs.check.ScriptLaws.{wrong_refuses, wrong_once}
use Rattle.judge_cases.specs.declared.node.CaseNode.{CaseNode}
use Rattle.cert_settle.specs.Grammar.{SettleResult, tree, fails}
use Rattle.cert_settle.specs.declared.fault.ResultFault.{ResultFault}
use Rattle.cert_settle.specs.declared.fault.ResultFault.TheVariants.{NotShown, No}
use Rattle.cert_settle.specs.Timings.{IsNoFault, IsRefutation}
use Rattle.cert_settle.specs.CaseParts.{leaves, whole_part, AreSoundOver}
use Rattle.cert_settle.specs.FirstLeaf.{IsTreeShown, IsTreeNotShown, IsFirstNotShown}
use Rattle.cert_settle.specs.Results.{IsSupported, IsTreeFault, IsFailsFault, IsFaultOf}
use Rattle.cert_settle.specs.Results.{AreSupported, IsFirstFault, timing_of}
use Rattle.cert_settle.proofs.FirstLeafLaws.{sound_shown}
use Rattle.cert_settle.proofs.OneTree.{one_tree, leaf_once}

-- what the law of a `no` says
pub record OneNo : Type 0 where
  pub one : (line : Line) (script : Script) (k : ℕ) (timing : TimingValues) (f g : NoFault)
      → IsNoFault line script k timing f → IsNoFault line script k timing g → f ≡ g
  pub refused : (line : Line) (script : Script) (k : ℕ) (timing : TimingValues) (f : NoFault)
      → IsNoFault line script k timing f → ¬ (IsRefutation line script k timing)

-- ---- one result

module _ (law : OneNo) (line : Line) (script : Script) (k : ℕ) where
  tree_refused : (nodes : List CaseNode) (n : ℕ) → IsTreeNotShown line script k nodes n
      → IsTreeShown line script k nodes → ⊥
  tree_refused nodes n wrong held =
      let same : held.tree ≡ wrong.tree = one_tree held.tree wrong.tree nodes held.are wrong.are in
      let first = wrong.first in
      let sound : AreSoundOver line script k (whole_part line) wrong.tree =
      subst (λ (t : CaseTree). AreSoundOver line script k (whole_part line) t) same held.sound in
      first.not_shown
      (sound_shown line script k wrong.tree (whole_part line) sound n first.leaf first.at first.yes)

  tree_once : (nodes : List CaseNode) (n m : ℕ) → IsTreeNotShown line script k nodes n
      → IsTreeNotShown line script k nodes m → n ≡ m
  tree_once nodes n m a b =
      let same : b.tree ≡ a.tree = one_tree b.tree a.tree nodes b.are a.are in
      leaf_once line script k (leaves (whole_part line) a.tree) n m a.first
      (subst (λ (t : CaseTree). IsFirstNotShown line script k (leaves (whole_part line) t) m) same
      b.first)

  refused : (result : SettleResult) (f : ResultFault) → IsFaultOf line script k result f
      → IsSupported line script k result → ⊥
  refused (tree nodes) (NotShown j n) wrong held = tree_refused nodes n wrong.1 held
  refused (tree nodes) (No j fault) wrong held = wrong
  refused (fails steps values) (NotShown j n) wrong held = wrong
  refused (fails steps values) (No j fault) wrong held =
      law.refused line script k (timing_of steps values) fault wrong.1 held

  fails_once : (timing : TimingValues) (f g : ResultFault) → IsFailsFault line script k timing f
      → IsFailsFault line script k timing g → f ≡ g
  fails_once timing (NotShown j n) g a b = absurd a
  fails_once timing (No j v) (NotShown l n) a b = absurd b
  fails_once timing (No j v) (No l w) a b =
      let terminal : j ≡ l = a.0 ∙ sym b.0 in
      let fault : v ≡ w = law.one line script k timing v w a.1 b.1 in
      cc

  nodes_once : (nodes : List CaseNode) (f g : ResultFault) → IsTreeFault line script k nodes f
      → IsTreeFault line script k nodes g → f ≡ g
  nodes_once nodes (No j v) g a b = absurd a
  nodes_once nodes (NotShown j n) (No l w) a b = absurd b
  nodes_once nodes (NotShown j n) (NotShown l m) a b =
      let terminal : j ≡ l = a.0 ∙ sym b.0 in
      let leaf : n ≡ m = tree_once nodes n m a.1 b.1 in
      cc

  fault_once : (result : SettleResult) (f g : ResultFault) → IsFaultOf line script k result f
      → IsFaultOf line script k result g → f ≡ g
  fault_once (tree nodes) f g a b = nodes_once nodes f g a b
  fault_once (fails steps values) f g a b = fails_once (timing_of steps values) f g a b

-- ---- the results of a script

module _ (law : OneNo) (line : Line) (script : Script) (results : List SettleResult) where
  pub results_refused : (f : ResultFault) → IsFirstFault line script results f
      → ¬ (AreSupported line script results)
  results_refused f first supported =
      wrong_refuses (IsSupported line script) (IsFaultOf line script)
      (λ k result f h stands. refused law line script k result f h stands) results f first supported

  pub results_once : (f g : ResultFault) → IsFirstFault line script results f
      → IsFirstFault line script results g → f ≡ g
  results_once f g a b =
      wrong_once (IsSupported line script) (IsFaultOf line script)
      (λ k result f h stands. refused law line script k result f h stands) results
      (λ k result f g. fault_once law line script k result f g) f g a b
