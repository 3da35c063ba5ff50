use Rattle.std.proofs.Common.{subst, sym}
use Rattle.model_timing.specs.Timing.{TimingValues}
use Rattle.judge_verdict.specs.declared.verdict.verdict.Verdict.{Verdict}
use Rattle.judge_verdict.specs.verdict.Verdicts.{IsRefutation}
use Rattle.judge_settle.specs.settle.{Answers.IsRuling, Trees.IsFailing}
use Rattle.judge_settle.proofs.settle_lemmas.RulingLaws.{refuted_fails}
use Rattle.judge_settle.proofs.settle.settling.under_verdict.Goals as goal

pub returns-in_ok-timing-in-No : goal.returns-in_ok-timing-in-No
returns-in_ok-timing-in-No c =
    let line = c.args.compiled.now.line.now in
    let script = c.args.script.now in
    let k = c.args.terminal in
    let refuted : IsRefutation line script k c.in-No.timing =
    subst (λ (v : Verdict). IsRuling line script k v) c.in-No.is c.requires.verdict in
    record {
      answer = record {
        failing = subst (λ (t : TimingValues). IsFailing line script k t)
            (sym c.in_ok-timing-in-No.ensures)
            (refuted_fails c.line_laws.ensures c.timings_inside_are_choices_inside.ensures line script
            k c.in-No.timing refuted);
        choices = c.requires.every;
      };
      by = c.requires.mixed;
    }
