-- Which results of a script are supported, and what is their first fault, rest on the values of a
-- line and of a script alone.
use Rattle.std.proofs.Common.{◌≡◌, ◌<◌, ℕ, List, sym, subst}
use Rattle.std.specs.Prelude.{IsTrue}
use Rattle.model_line.specs.Laws.{CountsRestOnNoInterval}
use Rattle.model_line.specs.{declared.line.Line.Line, declared.script.Script.Script}
use Rattle.model_line.specs.{SetBounds.SameButParams}
use Rattle.model_logic.specs.Choice.{Box, declared_box}
use Rattle.model_logic.specs.IntervalLaws.{HistoriesRestOnNoInterval}
use Rattle.file_line.specs.Lines.{line_values}
use Rattle.file_tables.specs.script.Values.{values_of}
use Rattle.judge_split.specs.Leaves.{IsSoundSplit, leaves}
use Rattle.model_logic.specs.Boxes.{CanSplit, lower_half, upper_half}
use Rattle.judge_split.specs.Trees.{Split, SplitTree, Undecided, Yes}
use Rattle.judge_split.specs.declared.node.Node.{Node}
use Rattle.cert_split.specs.text.Grammar.{SplitResult, fails, tree}
use Rattle.cert_split.specs.check.FirstLeaf.{IsFirstNotHeld, IsTreeHeld, IsTreeNotHeld}
use Rattle.cert_split.specs.check.Results.{AreSupported, IsFaultOf, IsFirstFault, IsSupported}
use Rattle.cert_split.specs.declared.check.fault.ResultFault.{ResultFault}
use Rattle.cert_split.specs.declared.check.fault.ResultFault.TheVariants.{No, NotHeld}
use Rattle.call_pilot.specs.top.SameFactLaws.{box_same, refuted_by}
use Rattle.call_pilot.proofs.{once_lemmas.SameFaults.no_fault_on}
use Rattle.call_pilot.specs.{top.SameHeldLaws.held_over}
use Rattle.call_pilot.specs.top.SameValueLaws.{same_but_params}

module _ (counts : CountsRestOnNoInterval) (a b : Line) (others : SameButParams a b) where
  pub can_on : (box : Box) (param mid : ℕ) → CanSplit a box param mid → CanSplit b box param mid
  can_on box param mid is = record {
    exists = subst (λ (n : ℕ). param < n) (sym (counts.params a b others)) is.exists;
    number = λ delay. is.number (subst IsTrue (counts.told a b param others) delay);
    above = is.above;
    below = is.below;
  }

module _ (counts : CountsRestOnNoInterval) (histories : HistoriesRestOnNoInterval) (a b : Line)
    (lines : line_values b ≡ line_values a) (s r : Script) (values : values_of r ≡ values_of s)
    (k : ℕ) where
  sound_on : (box : Box) (all : SplitTree) → IsSoundSplit a s k box all → IsSoundSplit b r k box all
  sound_on box Yes is = held_over counts histories a b lines s r values k box is
  sound_on box Undecided is = tt
  sound_on box (Split param mid first second) is = (
    can_on counts a b (same_but_params a b lines) box param mid is.0,
    (
      sound_on (lower_half box param mid) first is.1.0,
      sound_on (upper_half box param mid) second is.1.1,
    ),
  )

  held_on : (nodes : List Node) → IsTreeHeld a s k nodes → IsTreeHeld b r k nodes
  held_on nodes is = record {
    tree = is.tree;
    are = is.are;
    sound = subst (λ (box : Box). IsSoundSplit b r k box is.tree)
        (sym (box_same counts histories a b lines)) (sound_on (declared_box a) is.tree is.sound);
  }

  not_held_on : (nodes : List Node) (n : ℕ) → IsTreeNotHeld a s k nodes n
      → IsTreeNotHeld b r k nodes n
  not_held_on nodes n is = record {
    tree = is.tree;
    are = is.are;
    first = subst (λ (box : Box). IsFirstNotHeld b r k (leaves box is.tree) n)
        (sym (box_same counts histories a b lines))
        (record {
          leaf = is.first.leaf;
          at = is.first.at;
          yes = is.first.yes;
          not_held = λ held.
              is.first.not_held
              (held_over counts histories b a (sym lines) r s (sym values) k is.first.leaf.box
              held);
          before = λ i earlier lt at yes.
              held_over counts histories a b lines s r values k earlier.box
              (is.first.before i earlier lt at yes);
        });
  }

  supported_on : (result : SplitResult) → IsSupported a s k result → IsSupported b r k result
  supported_on (tree nodes) is = held_on nodes is
  supported_on (fails numbers) is = refuted_by counts histories a b lines s r values k numbers is

  fault_of_on : (result : SplitResult) (fault : ResultFault) → IsFaultOf a s k result fault
      → IsFaultOf b r k result fault
  fault_of_on (tree nodes) (NotHeld j n) is = (is.0, not_held_on nodes n is.1)
  fault_of_on (tree nodes) (No j fault) is = absurd is
  fault_of_on (fails numbers) (NotHeld j n) is = absurd is
  fault_of_on (fails numbers) (No j fault) is =
      (is.0, no_fault_on counts histories a b lines s r values k numbers fault is.1)

module _ (counts : CountsRestOnNoInterval) (histories : HistoriesRestOnNoInterval) (a b : Line)
    (lines : line_values b ≡ line_values a) (s r : Script) (values : values_of r ≡ values_of s)
    (results : List SplitResult) where
  pub results_on : AreSupported a s results → AreSupported b r results
  results_on is = λ k result lt at.
      supported_on counts histories a b lines s r values k result (is k result lt at)

  pub result_fault_on : (fault : ResultFault) → IsFirstFault a s results fault
      → IsFirstFault b r results fault
  result_fault_on fault is = record {
    place = is.place;
    item = is.item;
    is = is.is;
    before = λ k result lt at.
        supported_on counts histories a b lines s r values k result (is.before k result lt at);
    wrong = fault_of_on counts histories a b lines s r values is.place is.item fault is.wrong;
  }
