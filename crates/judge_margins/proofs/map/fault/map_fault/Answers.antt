use Rattle.std.proofs.Common.{sym, ◌∙◌}
use Rattle.judge_margins.proofs.map_lemmas.FaultLaws.{can_move_both}
use Rattle.judge_margins.proofs.map.fault.map_fault.Goals as goal

pub returns-clause-can : goal.returns-clause-can
returns-clause-can c none =
    can_move_both c.args.line.now c.args.axes.now (sym c.first_of_all.ensures ∙ none)
