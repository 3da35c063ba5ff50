-- When the results of a script are supported, and the first fault where they are not.
use Rattle.std.specs.Prelude.{◌≡◌, ℕ, List, length, IsTrue}
use Rattle.model_line.specs.{declared.line.Line.Line, declared.script.Script.Script}
use Rattle.model_logic.specs.Histories.{History, IsLineHistory, Meets}
use Rattle.model_logic.specs.Choice.{Choice, IsInside}
use Rattle.cert_claims.specs.{check.NoFaults.IsNoFault, check.Refutations.IsRefutation}
use Rattle.cert_claims.specs.check.Firsts.{EachOf, IsWrongFirst}
use Rattle.judge_split.specs.declared.node.Node.{Node}
use Rattle.cert_split.specs.declared.check.fault.ResultFault.{ResultFault}
use Rattle.cert_split.specs.declared.check.fault.ResultFault.TheVariants.{NotHeld, No}
use Rattle.cert_split.specs.{check.Counts.is_yes_tree, check.FirstLeaf.IsTreeHeld}
use Rattle.cert_split.specs.{check.FirstLeaf.IsTreeNotHeld}
use Rattle.cert_split.specs.text.Grammar.{SplitResult, tree, fails}

-- ---- one result

-- the result of terminal k is supported: over the part of each yes leaf of a tree the rule is held;
-- the numbers of a `no` are inside, and their history fails the obligation
abbrev pub IsSupported : Line → Script → ℕ → SplitResult → Type 0
IsSupported line script k (tree nodes) = IsTreeHeld line script k nodes
IsSupported line script k (fails values) = IsRefutation line script k values

-- what is wrong with a tree of terminal k: a yes leaf is not held
abbrev pub IsTreeFault : Line → Script → ℕ → List Node → ResultFault → Type 0
IsTreeFault line script k nodes (NotHeld j n) = (j ≡ k) × IsTreeNotHeld line script k nodes n
IsTreeFault line script k nodes (No j fault) = ⊥

-- what is wrong with a `no` of terminal k, which has these numbers
abbrev pub IsFailsFault : Line → Script → ℕ → List ℕ → ResultFault → Type 0
IsFailsFault line script k values (NotHeld j n) = ⊥
IsFailsFault line script k values (No j fault) = (j ≡ k) × IsNoFault line script k values fault

-- what is wrong with the result of terminal k
abbrev pub IsFaultOf : Line → Script → ℕ → SplitResult → ResultFault → Type 0
IsFaultOf line script k (tree nodes) fault = IsTreeFault line script k nodes fault
IsFaultOf line script k (fails values) fault = IsFailsFault line script k values fault

-- what it says is so: where a tree has yes leaves alone, each history of each choice inside meets
-- the obligation; at the numbers of a `no`, which are inside, it is failed
abbrev pub IsTold : Line → Script → ℕ → SplitResult → Type 0
IsTold line script k (tree nodes) =
    IsTrue (is_yes_tree nodes) → (choice : Choice) (h : History) → IsInside line choice
    → IsLineHistory line script choice h → Meets line script k h
IsTold line script k (fails values) = IsRefutation line script k values

-- ---- the results of a script

-- each is supported, and what each says is so
abbrev pub AreSupported : Line → Script → List SplitResult → Type 0
AreSupported line script results = EachOf (IsSupported line script) results (length results)

abbrev pub AreTold : Line → Script → List SplitResult → Type 0
AreTold line script results = EachOf (IsTold line script) results (length results)

-- this is what is wrong with the first result that is not supported
abbrev pub IsFirstFault : Line → Script → List SplitResult → ResultFault → Type 0
IsFirstFault line script results fault =
    IsWrongFirst (IsSupported line script) (IsFaultOf line script) results fault
