use Rattle.std.proofs.Common.{◌≡◌, ℕ, List, [], length, IfOk, sym, ◌∙◌, ap, subst}
use Rattle.std.specs.Prelude.{get_or}
use Rattle.model_history.specs.Rails.{rails_sealed}
use Rattle.run_signal.specs.declared.tern.Tern.{Tern}
use Rattle.net_gates.specs.{declared.gate.Gate.Gate, Gates.HasArguments}
use Rattle.run_step.specs.GatePairs.{kind_pair}
use Rattle.run_waves.specs.waves.Waves.{IsWaveOf, wave_at}
use Rattle.run_waves.specs.derived.Claims.{pairs_of, declared_world}
use Rattle.run_waves.proofs.derived.gate.gate_wave.Goals as goal

pub returns-in-Seal : goal.returns-in-Seal
returns-in-Seal c =
    let earlier : List (List Tern) = c.args.earlier.now in
    let x : List Tern = get_or earlier c.in-Seal.x.0 [] in
    let y : List Tern = get_or earlier c.in-Seal.y.0 [] in
    let has = subst (HasArguments (length earlier)) c.in-Seal.is c.requires.arguments in
    let P : List Tern → List Tern → ℕ → Type 0 = λ set hold n.
    IfOk c.seal.result
    (λ wave. IsWaveOf wave n (λ t. rails_sealed (wave_at set) (wave_at hold) t)) in
    let set : c.nth-in-Seal.result.now ≡ x = c.nth-in-Seal.ensures in
    let hold : c.nth-in-Seal-2.result.now ≡ y = c.nth-in-Seal-2.ensures in
    let long : length c.nth-in-Seal.result.now ≡ c.args.line.now.horizon =
    ap length set ∙ c.requires.earlier.long c.in-Seal.x.0 has.0 in
    subst (λ (g : Gate). IfOk c.seal.result (λ wave. IsWaveOf wave c.args.line.now.horizon
    (λ t. kind_pair (declared_world c.args.line.now c.args.script.now) (pairs_of c.args.keys.now)
    (pairs_of earlier) g t))) (sym c.in-Seal.is)
    (subst (λ (l : List Tern). P l y c.args.line.now.horizon) set
    (subst (λ (l : List Tern). P c.nth-in-Seal.result.now l c.args.line.now.horizon) hold
    (subst (P c.nth-in-Seal.result.now c.nth-in-Seal-2.result.now) long c.seal.ensures)))
