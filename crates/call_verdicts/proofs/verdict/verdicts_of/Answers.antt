use Rattle.std.proofs.Common.{◌++◌, [], List, ap, get_or, sym, ◌∙◌}
use Rattle.std.specs.Prelude.{None}
use Rattle.std.specs.List.{cons_option}
use Rattle.judge_settle.specs.declared.settle.answer.By.TheVariants.{Rules}
use Rattle.call_verdicts.specs.Faults.{verdict_at}
use Rattle.call_verdicts.specs.declared.finding.Finding.{Finding}
use Rattle.call_verdicts.specs.declared.finding.Standing.TheVariants.{Held}
use Rattle.call_verdicts.specs.declared.verdict.Verdict.{Verdict}
use Rattle.call_verdicts.proofs.Kept.{filter_map_more}
use Rattle.call_verdicts.proofs.verdict.verdicts_of.Goals as goal

pub loop-one-preserved : goal.loop-one-preserved
loop-one-preserved c =
    let d : Finding =
    record { script = 0; terminal = 0; standing = Held; by = Rules; first_must = None } in
    c.in_ok-push_verdict.ensures
    ∙ ap (λ (vs : List Verdict).
    vs ++ cons_option (verdict_at c.args.scripts.now c.args.terminal
    (get_or c.args.found.now c.loop-one.one-index d)) []) c.loop-one.invariant
    ∙ sym (filter_map_more (verdict_at c.args.scripts.now c.args.terminal) c.args.found.now
    c.loop-one.one-index d c.loop-one-test.true)
