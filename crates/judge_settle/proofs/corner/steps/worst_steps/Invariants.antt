use Rattle.judge_verdict.specs.verdict.PairWavesOf.{pair_history}
use Rattle.judge_settle.specs.corner.Named.{rail_named}
use Rattle.judge_settle.specs.{corner.Corner.corner, corner.Steps.AreStepsUpTo}
use Rattle.judge_settle.proofs.corner.steps.worst_steps.Given as goal

abbrev pub invariant-loop-channel : goal.invariant-loop-channel
invariant-loop-channel l =
    AreStepsUpTo l.line (corner l.line (rail_named l.rail) (pair_history l.waves)).delay l.numbers
    l.channel 1 l.steps.items
