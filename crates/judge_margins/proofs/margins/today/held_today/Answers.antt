use Rattle.std.proofs.Common.{length}
use Rattle.judge_margins.proofs.margins_lemmas.TodayLaws.{picked_exist, picked_kept}
use Rattle.judge_margins.proofs.margins.today.held_today.Goals as goal

pub returns-clause-exist : goal.returns-clause-exist
returns-clause-exist c =
    picked_exist c.args.compiled.now.line.now c.args.scripts.now c.loop-s.s 0 c.loop-s.held.items
    c.loop-s.invariant.held

pub returns-clause-held : goal.returns-clause-held
returns-clause-held c =
    picked_kept c.args.compiled.now.line.now c.args.scripts.now c.loop-s.s 0
    (length c.loop-s.held.items)
    c.loop-s.held.items c.loop-s.invariant.held
