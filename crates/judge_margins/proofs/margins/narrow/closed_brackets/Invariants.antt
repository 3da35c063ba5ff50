use Rattle.judge_margins.specs.margins.Brackets.{AreBrackets}
use Rattle.judge_margins.proofs.margins.narrow.closed_brackets.Given as goal

abbrev pub invariant-halving : goal.invariant-halving
invariant-halving l = AreBrackets l.of l.ends l.width l.brackets.items

abbrev pub decreases-halving : goal.decreases-halving
decreases-halving l = l.width
