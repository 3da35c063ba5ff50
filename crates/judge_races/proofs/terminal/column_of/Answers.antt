use Rattle.std.proofs.Common.{ℕ, List, refl, subst}
use Rattle.model_history.specs.Rails.{may_of}
use Rattle.model_logic.specs.Tree.{Tree}
use Rattle.run_signal.specs.declared.tern.Tern.{Tern}
use Rattle.run_waves.specs.waves.Waves.{wave_at}
use Rattle.net_gates.specs.Formulas.{formula_of}
use Rattle.judge_races.specs.Operands.{input_of}
use Rattle.judge_races.specs.Lasting.{may_be}
use Rattle.judge_races.specs.Lacks.{IsColumn}
use Rattle.judge_races.specs.Stretches.{AreOffs}
use Rattle.judge_races.proofs.WaveLaws.{own_offs, column_told, wave_same}
use Rattle.judge_races.proofs.terminal.column_of.Goals as goal

own : (c : goal.After-drop-until-2)
    → AreOffs (λ t. may_of (wave_at c.nth-wave.result.now t)) c.args.compiled.now.line.now.horizon
    c.in_ok-until.until.items
own c =
    own_offs _ c.args.compiled.now.line.now.horizon c.args.waves.now c.nth-wave.result.now
    c.input_gate-input.result.0 c.in_ok-until.until.items c.nth-wave.ensures c.requires.waves
    c.input_gate-input.ensures.within c.in_ok-until.ensures.offs

pub returns : goal.returns
returns c =
    let line = c.args.compiled.now.line.now in
    let gates = c.args.compiled.now.net.now.gates in
    let wave : List Tern = c.nth-wave.result.now in
    let tree : Tree = formula_of gates c.args.id.0 in
    record {
      long = (column_told (λ t. may_of (wave_at wave t)) (λ t. may_of (wave_at wave t)) line.horizon
          c.least_pickup-pickup.result c.in_ok-until.until.items c.deref.result.now
          c.in_ok-lacks.lacks.items c.deref.ensures.value (own c) (λ t lt. refl)
          c.in_ok-lacks.ensures).count;
      is = λ script are w is_w.
          let v = may_be line script w (input_of tree) in
          let P : ℕ → Type 0 = λ p. IsColumn v p line.horizon c.in_ok-lacks.lacks.items in
          subst P c.least_pickup-pickup.ensures
          (column_told (λ t. may_of (wave_at wave t)) v line.horizon c.least_pickup-pickup.result
          c.in_ok-until.until.items c.deref.result.now c.in_ok-lacks.lacks.items
          c.deref.ensures.value (own c)
          (wave_same line script gates w c.args.waves.now wave c.input_gate-input.result.0
          (input_of tree) c.nth-wave.ensures (are.over w is_w) c.input_gate-input.ensures.within
          c.input_gate-input.ensures.is)
          c.in_ok-lacks.ensures);
    }
