use Rattle.std.proofs.Common.{◌≡◌, Bool, not, sym, ◌∙◌, ap, subst}
use Rattle.std.specs.Prelude.{Decides, IsFalse}
use Rattle.model_history.specs.Rails.{Rails}
use Rattle.run_step.specs.WavesOf.{pair_in}
use Rattle.run_ticks.specs.cases.UnderWaves.{own_wave}
use Rattle.judge_verdict.specs.boxes.Terns.{terns_rails}
use Rattle.judge_cases.proofs.AnalysisLaws.{off_decided}
use Rattle.judge_cases.proofs.analysis.is_off_at.Goals as goal

pub returns : goal.returns
returns c =
    let waves = c.args.waves.now in
    let is : own_wave terns_rails c.args.lane waves c.args.gate.0 c.args.t
    ≡ terns_rails c.own-own.result c.args.lane =
    ap (pair_in terns_rails c.args.lane) c.own-own.ensures in
    subst (λ (b : Bool). Decides b
    (IsFalse (own_wave terns_rails c.args.lane waves c.args.gate.0 c.args.t).may))
    (ap (λ (r : Rails). not r.may) is ∙ ap not (sym c.may.ensures))
    (off_decided (own_wave terns_rails c.args.lane waves c.args.gate.0 c.args.t).may)
