use Rattle.std.proofs.Common.{sym, ◌∙◌, arith}
use Rattle.judge_choose.proofs.choose_lemmas.CoverLaws.{can_move}
use Rattle.judge_choose.proofs.spans.ends_of.Goals as goal

pub returns-then-moves-clause-limit : goal.returns-then-moves-clause-limit
returns-then-moves-clause-limit c =
    let room = (can_move c.args.line.now c.args.cover.setting.now c.args.param
    c.requires.cover.setting (sym c.moves.ensures ∙ c.if-moves.true)).room in
    omega (
      arith,
      room,
      c.requires.cover.within,
      c.least-least.ensures.number,
      c.greatest-greatest.ensures.number,
    )
