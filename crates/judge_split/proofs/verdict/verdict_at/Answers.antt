use Rattle.std.proofs.Common.{arith, sym}
use Rattle.std.proofs.lemmas.Option.{slice_get_read}
use Rattle.model_line.specs.Parameters.{terminal_count}
use Rattle.judge_split.proofs.verdict.verdict_at.Goals as goal

pub swap_remove-requires : goal.swap_remove-requires
swap_remove-requires c =
    omega (
      arith,
      c.requires.terminal,
      c.in_ok-said.ensures.printable.verdicts.count,
      c.in_ok-said.said.verdicts.ok.0,
    )

pub returns : goal.returns
returns c = λ w is.
    let are = c.in_ok-said.ensures.verdicts w is in
    are.each c.args.terminal c.swap_remove.result
    (slice_get_read c.in_ok-said.said.verdicts.items (terminal_count c.args.compiled.now.line.now)
    c.args.terminal
    c.swap_remove.result (sym are.count) c.requires.terminal c.swap_remove.ensures.value)
