use Rattle.std.proofs.Common.{◌≡◌, true, arith, below_more}
use Rattle.model_line.proofs.TerminalNames.{differ_here, same_here}
use Rattle.model_line.proofs.terminals.all_differ.Goals as goal

pub returns-then-is_same : goal.returns-then-is_same
returns-then-is_same c = (
  λ h. absurd (cc),
  λ differ. absurd (differ c.loop-j.j c.loop-k.k (omega arith) (omega arith)
      (same_here c.args.terminals.now c.loop-j.j c.loop-k.k c.index-terminals-j.result
      c.index-terminals-k.result (omega arith) (omega arith)
      (c.is_same.ensures.0 c.if-is_same.true))),
)

pub loop-j-preserved : goal.loop-j-preserved
loop-j-preserved c = (
  c.loop-j.invariant.0,
  below_more _ _ c.loop-j.invariant.1
      (differ_here c.args.terminals.now c.loop-j.j c.loop-k.k c.index-terminals-j.result
      c.index-terminals-k.result (omega arith) (omega arith)
      (λ e. let same : c.is_same.result ≡ true = c.is_same.ensures.1 e in absurd (cc))),
)
