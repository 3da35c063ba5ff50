use Rattle.std.proofs.Common.{◌-◌, arith}
use Rattle.std.proofs.lemmas.Nat.{and_le_r}
use Rattle.judge_ahead.proofs.bits.rest.Goals as goal

pub returns : goal.returns
returns c = omega (arith, and_le_r c.args.lanes (c.args.lanes - 1))
