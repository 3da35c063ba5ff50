use Rattle.std.proofs.Common.{◌≡◌, ℕ, List, [], length, IfOk, sym, ◌∙◌, ap, subst}
use Rattle.std.specs.Prelude.{get_or}
use Rattle.model_history.specs.Rails.{Ends, rails_sealed, rails_timed}
use Rattle.run_signal.specs.declared.tern.Tern.{Tern}
use Rattle.net_gates.specs.{declared.gate.Gate.Gate, Gates.HasArguments}
use Rattle.run_step.specs.GatePairs.{kind_pair}
use Rattle.run_waves.specs.waves.Waves.{IsWaveOf, wave_at}
use Rattle.run_waves.specs.derived.Claims.{pairs_of}
use Rattle.model_fine.specs.Loose.{loose_world_of}
use Rattle.run_borders.specs.LooseRuns.{line_of, world_of, steady_box}
use Rattle.run_borders.proofs.gate.gate_wave.Goals as goal

pub returns-in-Timer : goal.returns-in-Timer
unfolding loose_world_of steady_box
returns-in-Timer c =
    let run = c.args.run.now in
    let horizon : ℕ = (line_of run).horizon in
    let earlier : List (List Tern) = c.args.earlier.now in
    let x : List Tern = get_or earlier c.in-Timer.x.0 [] in
    let has = subst (HasArguments (length earlier)) c.in-Timer.is c.requires.arguments in
    let P : List Tern → ℕ → Ends → Ends → Type 0 = λ input n pickup dropout.
    IfOk c.timer.result (λ wave. IsWaveOf wave n (λ t. rails_timed (wave_at input) pickup dropout t)) in
    let input : c.nth-in-Timer.result.now ≡ x = c.nth-in-Timer.ensures in
    let long : length c.nth-in-Timer.result.now ≡ horizon =
    ap length input ∙ c.requires.earlier.long c.in-Timer.x.0 has in
    let p : Ends = c.time_span.result in
    let d : Ends = c.time_span-in-Timer.result in
    subst (λ (g : Gate). IfOk c.timer.result (λ wave. IsWaveOf wave horizon
    (λ t. kind_pair (world_of run) (pairs_of c.args.keys.now) (pairs_of earlier) g t)))
    (sym c.in-Timer.is)
    (subst (λ (e : Ends). P x horizon ((world_of run).time c.in-Timer.pickup) e)
    c.time_span-in-Timer.ensures
    (subst (λ (e : Ends). P x horizon e d) c.time_span.ensures
    (subst (λ (l : List Tern). P l horizon p d) input
    (subst (λ (n : ℕ). P c.nth-in-Timer.result.now n p d) long c.timer.ensures))))

pub returns-in-Seal : goal.returns-in-Seal
returns-in-Seal c =
    let run = c.args.run.now in
    let horizon : ℕ = (line_of run).horizon in
    let earlier : List (List Tern) = c.args.earlier.now in
    let x : List Tern = get_or earlier c.in-Seal.x.0 [] in
    let y : List Tern = get_or earlier c.in-Seal.y.0 [] in
    let has = subst (HasArguments (length earlier)) c.in-Seal.is c.requires.arguments in
    let P : List Tern → List Tern → ℕ → Type 0 = λ set hold n.
    IfOk c.seal.result
    (λ wave. IsWaveOf wave n (λ t. rails_sealed (wave_at set) (wave_at hold) t)) in
    let set : c.nth-in-Seal.result.now ≡ x = c.nth-in-Seal.ensures in
    let hold : c.nth-in-Seal-2.result.now ≡ y = c.nth-in-Seal-2.ensures in
    let long : length c.nth-in-Seal.result.now ≡ horizon =
    ap length set ∙ c.requires.earlier.long c.in-Seal.x.0 has.0 in
    subst (λ (g : Gate). IfOk c.seal.result (λ wave. IsWaveOf wave horizon
    (λ t. kind_pair (world_of run) (pairs_of c.args.keys.now) (pairs_of earlier) g t)))
    (sym c.in-Seal.is)
    (subst (λ (l : List Tern). P l y horizon) set
    (subst (λ (l : List Tern). P c.nth-in-Seal.result.now l horizon) hold
    (subst (P c.nth-in-Seal.result.now c.nth-in-Seal-2.result.now) long c.seal.ensures)))
