use Rattle.std.proofs.Common.{◌≡◌, ◌<◌, ◌≤◌, ℕ, refl, sym, ◌∙◌, subst, arith, ⊎_elim}
use Rattle.std.proofs.lemmas.Bool.{cases_lt}
use Rattle.std.specs.Prelude.{IsFalse}
use Rattle.run_ticks.specs.cases.UnderWaves.{own_wave}
use Rattle.judge_verdict.specs.boxes.Terns.{terns_rails}
use Rattle.judge_cases.proofs.OneGate.{one_gate}
use Rattle.judge_cases.proofs.analysis.is_off_in.Goals as goal

pub loop-t-init : goal.loop-t-init
loop-t-init c = λ s low high off. absurd (omega arith)

pub loop-t-preserved : goal.loop-t-preserved
loop-t-preserved c = λ s low high off.
    let lane = c.args.lane in
    let gate = c.wanted_gate-gate.result.0 in
    ⊎_elim
    (λ before. c.loop-t.invariant s low before off)
    (λ last. let same : s ≡ c.loop-t.t = omega arith in
    let on = c.is_off_at.ensures.1
    (subst (λ (r : ℕ). IsFalse (own_wave terns_rails lane c.args.waves.now gate r).may) same off) in
    let no = c.if-is_off_at.false in
    absurd (cc))
    (cases_lt s c.loop-t.t)

pub returns-then-is_off_at : goal.returns-then-is_off_at
returns-then-is_off_at c = (
  λ on.
      let net = c.args.compiled.now.net.now in
      let gate = c.wanted_gate-gate.result.0 in
      record {
        tick = c.loop-t.t;
        from = c.loop-t.auto.t;
        to = c.loop-t-test.true;
        off = λ other inside stands.
            let same : gate ≡ other =
            sym (one_gate net.gates c.gates_stand_for_their_trees.ensures.kinds
            c.args.compiled.now.of_line.laws.gates other gate inside
            c.wanted_gate-gate.ensures.exists (stands ∙ sym c.wanted_gate-gate.ensures.is)) in
            subst (λ (g : ℕ).
            IsFalse (own_wave terns_rails c.args.lane c.args.waves.now g c.loop-t.t).may) same
            (c.is_off_at.ensures.0 c.if-is_off_at.true);
      },
  λ off. refl,
)

pub returns : goal.returns
returns c = (
  λ on. absurd (cc),
  λ off.
      let over : c.args.to ≤ c.loop-t.t = c.loop-t-test.false in
      let before : off.tick < c.args.to = off.to in
      absurd (c.loop-t.invariant off.tick off.from (omega (arith, over, before))
      (off.off c.wanted_gate-gate.result.0 c.wanted_gate-gate.ensures.exists
      c.wanted_gate-gate.ensures.is)),
)
