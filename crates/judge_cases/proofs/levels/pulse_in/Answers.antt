use Rattle.std.proofs.Common.{◌≡◌, ◌∙◌, sym, ap}
use Rattle.model_history.specs.Rails.{Ends}
use Rattle.model_line.specs.declared.line.Setting.TheVariants.{EchoPulse}
use Rattle.model_logic.specs.Boxes.{interval_of}
use Rattle.model_logic.specs.Choice.{ends_by}
use Rattle.model_logic.specs.Permissive.{terminal_setting}
use Rattle.model_logic.specs.declared.time.Time.{Time}
use Rattle.model_logic.specs.declared.time.Time.TheVariants.{Zero}
use Rattle.model_settle.specs.Assumed.{wanted}
use Rattle.judge_cases.proofs.levels.pulse_in.Goals as goal

pub returns-in-Zero : goal.returns-in-Zero
returns-in-Zero c =
    let line = c.args.compiled.now.line.now in
    let pulse : Time = terminal_setting line c.args.terminal EchoPulse in
    let is : c.pickup_of.result ≡ pulse =
    c.pickup_of.ensures (wanted line c.args.terminal) pulse Zero c.over_gate-over.ensures.is in
    ap (λ (p : Time). (ends_by (interval_of c.args.view.now.ends.items) p).least)
    (sym c.in-Zero.is ∙ is)

pub returns-in-Param : goal.returns-in-Param
returns-in-Param c =
    let line = c.args.compiled.now.line.now in
    let pulse : Time = terminal_setting line c.args.terminal EchoPulse in
    let is : c.pickup_of.result ≡ pulse =
    c.pickup_of.ensures (wanted line c.args.terminal) pulse Zero c.over_gate-over.ensures.is in
    c.least.ensures.least ∙ ap (λ (e : Ends). e.least) c.ends_at.ensures.ends
    ∙ ap (λ (p : Time). (ends_by (interval_of c.args.view.now.ends.items) p).least)
    (sym c.in-Param.is ∙ is)
