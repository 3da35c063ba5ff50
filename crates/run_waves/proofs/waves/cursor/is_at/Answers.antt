use Rattle.std.proofs.Common.{arith, leb-true}
use Rattle.run_waves.proofs.waves_lemmas.RunLaws.{run_next}
use Rattle.run_waves.proofs.waves.cursor.is_at.Goals as goal

pub returns-else-place-eq0 : goal.returns-else-place-eq0
returns-else-place-eq0 c = λ past.
    run_next c.args.stretches.now c.args.t c.args.place _ c.requires c.if-place-stretches.false
    (omega arith) c.if-t-stretches.false (leb-true _ _ past)
