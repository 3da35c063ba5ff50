use Rattle.std.proofs.Common.{ℕ, ◌+◌, List, [], ◌∷◌, length, length-append, ◌∙◌, ap, arith}
use Rattle.judge_verdict.specs.{declared.verdict.standing.Standing.Standing, verdict.Standings.IsStanding}
use Rattle.judge_verdict.specs.verdict.OneEachLaws.{one_more, all_there}
use Rattle.judge_verdict.proofs.verdict.standing.after_block.Goals as goal

pub loop-k-preserved : goal.loop-k-preserved
loop-k-preserved c = record {
  count = ap (λ (xs : List Standing). length xs) c.in_ok-push.ensures.items
      ∙ length-append c.loop-k.after.items (c.settled.result ∷ [])
      ∙ ap (λ (n : ℕ). n + 1) c.loop-k.invariant.count;
  stand = λ w all.
      one_more
      (λ k s. IsStanding c.args.line.now c.args.script.now k w (c.args.first + 64) s) c.loop-k.k
      c.loop-k.after.items c.push.new.self.items c.settled.result c.in_ok-push.ensures.items
      (c.settled.ensures w
      (all.each c.loop-k.k c.of_terminal-before.result c.of_terminal-before.ensures))
      (c.loop-k.invariant.stand w all);
}

pub returns-clause-stand : goal.returns-clause-stand
returns-clause-stand c = λ w all.
    all_there (λ k s. IsStanding c.args.line.now c.args.script.now k w (c.args.first + 64) s)
    c.loop-k.k _ c.loop-k.after.items (let terminals = c.requires.terminals in omega arith)
    (c.loop-k.invariant.stand w all)
