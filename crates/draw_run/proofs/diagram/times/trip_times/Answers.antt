use Rattle.std.proofs.Common.{◌≡◌, ℕ, ◌∙◌, ap, rules}
use Rattle.model_history.specs.Rails.{Rails, must_of, may_of}
use Rattle.run_waves.specs.waves.FirstTick.{first_on}
use Rattle.judge_report.specs.Deadlines.{margin_of}
use Rattle.draw_run.proofs.diagram.times.trip_times.Goals as goal

pub returns : goal.returns
returns g c =
    let script = c.args.script.now in
    let horizon : ℕ = c.args.line.now.horizon in
    let trip : ℕ → Rails = (g.H.Shown.pairs c.args.shown.now).trip c.args.k in
    let may : c.first_trip.result ≡ first_on (λ t. may_of (trip t)) horizon =
    c.first_trip.ensures may_of (λ x on told. search rules) in
    let must : c.first_trip-first_must.result ≡ first_on (λ t. must_of (trip t)) horizon =
    c.first_trip-first_must.ensures must_of (λ x on told. search rules) in
    let margin : c.margin.result
    ≡ margin_of script.kind script.deadline (first_on (λ t. must_of (trip t)) horizon) =
    c.margin.ensures ∙ ap (margin_of script.kind script.deadline) must in
    cc
