use Rattle.std.proofs.Common.{◌≡◌, ℕ, Some, length}
use Rattle.std.specs.Prelude.{slice_get}
use Rattle.judge_verdict.specs.declared.verdict.rule.Rule.{Rule}
use Rattle.judge_margins.specs.{declared.map.ruled.Ruled.Ruled, map.Blocks.IsRuleIn}
use Rattle.judge_margins.proofs.map.ruled.cell_in_lane.Given as goal

abbrev pub invariant-loop-place : goal.invariant-loop-place
invariant-loop-place l = record {
  count : length l.rules.items ≡ l.place;
  each : (place : ℕ) (rule : Rule) → slice_get l.rules.items place ≡ Some rule
      → (one : Ruled) → slice_get l.ruled place ≡ Some one → IsRuleIn one l.lane rule;
}
