-- When the results of a script are supported, and the first fault where they are not.
use Rattle.std.specs.Prelude.{◌≡◌, ℕ, List, length, IsTrue}
use Rattle.model_line.specs.{declared.line.Line.Line, declared.script.Script.Script}
use Rattle.model_fine.specs.Fine.{EveryFineChoiceMeets}
use Rattle.model_timing.specs.{declared.step.Step.Step, Timing.TimingValues}
use Rattle.cert_claims.specs.check.Firsts.{EachOf, IsWrongFirst}
use Rattle.judge_cases.specs.declared.node.CaseNode.{CaseNode}
use Rattle.cert_settle.specs.Grammar.{SettleResult, tree, fails}
use Rattle.cert_settle.specs.declared.fault.ResultFault.{ResultFault}
use Rattle.cert_settle.specs.declared.fault.ResultFault.TheVariants.{NotShown, No}
use Rattle.cert_settle.specs.{Counts.is_yes_tree, FirstLeaf.IsTreeShown}
use Rattle.cert_settle.specs.{FirstLeaf.IsTreeNotShown, Timings.IsRefutation}
use Rattle.cert_settle.specs.Timings.{IsNoFault}

-- ---- one result

-- a timing of these steps and numbers
abbrev pub timing_of : List (Step ℕ) → List ℕ → TimingValues
timing_of steps numbers = record { values = numbers; steps = steps }

-- the result of terminal k is supported: a tree is sound over the declared box; the timing of a `no`
-- is inside, and its history fails the obligation
abbrev pub IsSupported : Line → Script → ℕ → SettleResult → Type 0
IsSupported line script k (tree nodes) = IsTreeShown line script k nodes
IsSupported line script k (fails steps numbers) =
    IsRefutation line script k (timing_of steps numbers)

-- what is wrong with a tree of terminal k: a yes leaf is not shown
abbrev pub IsTreeFault : Line → Script → ℕ → List CaseNode → ResultFault → Type 0
IsTreeFault line script k nodes (NotShown j n) = (j ≡ k) × IsTreeNotShown line script k nodes n
IsTreeFault line script k nodes (No j fault) = ⊥

-- what is wrong with a `no` of terminal k, which has this timing
abbrev pub IsFailsFault : Line → Script → ℕ → TimingValues → ResultFault → Type 0
IsFailsFault line script k timing (NotShown j n) = ⊥
IsFailsFault line script k timing (No j fault) = (j ≡ k) × IsNoFault line script k timing fault

-- what is wrong with the result of terminal k
abbrev pub IsFaultOf : Line → Script → ℕ → SettleResult → ResultFault → Type 0
IsFaultOf line script k (tree nodes) fault = IsTreeFault line script k nodes fault
IsFaultOf line script k (fails steps numbers) fault =
    IsFailsFault line script k (timing_of steps numbers) fault

-- what it says is so: where a tree has yes leaves alone, every choice of fractions inside meets the
-- obligation; at the timing of a `no`, which is inside, it is failed
abbrev pub IsTold : Line → Script → ℕ → SettleResult → Type 0
IsTold line script k (tree nodes) =
    IsTrue (is_yes_tree nodes) → EveryFineChoiceMeets line script k
IsTold line script k (fails steps numbers) = IsRefutation line script k (timing_of steps numbers)

-- ---- the results of a script

-- each is supported, and what each says is so
abbrev pub AreSupported : Line → Script → List SettleResult → Type 0
AreSupported line script results = EachOf (IsSupported line script) results (length results)

abbrev pub AreTold : Line → Script → List SettleResult → Type 0
AreTold line script results = EachOf (IsTold line script) results (length results)

-- this is what is wrong with the first result that is not supported
abbrev pub IsFirstFault : Line → Script → List SettleResult → ResultFault → Type 0
IsFirstFault line script results fault =
    IsWrongFirst (IsSupported line script) (IsFaultOf line script) results fault
