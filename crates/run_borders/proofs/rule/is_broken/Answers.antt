use Rattle.std.proofs.Common.{◌≡◌, ℕ, List, [], ◌∙◌, ap, subst}
use Rattle.std.specs.Prelude.{get_or, IsTrue}
use Rattle.model_logic.specs.Rule.{BrokenBy}
use Rattle.net_gates.specs.NetOf.{trip_of}
use Rattle.run_signal.specs.declared.tern.Tern.{Tern}
use Rattle.run_waves.specs.waves.Waves.{wave_at}
use Rattle.run_borders.specs.LooseRuns.{line_of, net_of}
use Rattle.run_borders.specs.LooseWaves.{trip_wave}
use Rattle.run_borders.proofs.TripsCovered.{broken_failed, trip_covered}
use Rattle.run_borders.proofs.rule.is_broken.Goals as goal

pub returns-clause-rule : goal.returns-clause-rule
returns-clause-rule c =
    let waves : List (List Tern) = c.args.waves.now in
    let same : c.nth-trip.result.now ≡ get_or waves (trip_of (net_of c.args.run.now) c.args.terminal) [] =
    c.nth-trip.ensures ∙ ap (λ (g : ℕ). get_or waves g []) c.trip_gate-gate.ensures.is in
    subst (λ (wave : List Tern).
    (IsTrue c.wave_is_broken.result → BrokenBy c.args.kind c.args.deadline c.args.end (wave_at wave))
    × (BrokenBy c.args.kind c.args.deadline c.args.end (wave_at wave) → IsTrue c.wave_is_broken.result))
    same c.wave_is_broken.ensures

pub returns-clause-not_met : goal.returns-clause-not_met
returns-clause-not_met c = λ on n shown choice h some between inside is_h.
    let run = c.args.run.now in
    let waves : List (List Tern) = c.args.waves.now in
    let same : c.nth-trip.result.now ≡ get_or waves (trip_of (net_of run) c.args.terminal) [] =
    c.nth-trip.ensures ∙ ap (λ (g : ℕ). get_or waves g []) c.trip_gate-gate.ensures.is in
    broken_failed n some c.args.deadline c.args.end (line_of run).horizon c.requires.deadline c.requires.end
    (trip_wave run waves c.args.terminal) (h.trip c.args.terminal)
    (λ t lt. trip_covered c.loose_histories_cover.ensures run c.requires.run waves c.requires.waves n some
    shown choice h between inside is_h c.args.terminal t c.requires.terminal lt)
    c.args.kind
    (subst (λ (wave : List Tern). BrokenBy c.args.kind c.args.deadline c.args.end (wave_at wave)) same
    (c.wave_is_broken.ensures.0 on))
