use Rattle.std.proofs.Common.{◌≡◌, ◌<◌, ◌≤◌, ◌+◌, ℕ, suc, not, length, sym, ◌∙◌, ap, arith}
use Rattle.std.proofs.lemmas.Option.{slice_get_within}
use Rattle.model_history.specs.Rails.{Rails, must_of}
use Rattle.model_history.specs.Elements.{some_below}
use Rattle.model_line.specs.declared.script.Kind.{Kind}
use Rattle.model_logic.specs.{Rule.is_held}
use Rattle.run_signal.specs.Bits.{bit_on}
use Rattle.run_ticks.specs.cases.UnderWaves.{wave_pair}
use Rattle.judge_verdict.specs.boxes.Terns.{terns_rails}
use Rattle.judge_cases.proofs.HeldLaws.{held_told}
use Rattle.judge_cases.proofs.analysis.Analysis.held.Goals as goal

pub returns-in-Internal : goal.returns-in-Internal
returns-in-Internal c = λ views is. record {
  each = λ lane view w at history.
      let script = c.args.script.now in
      let a = c.args.self.now in
      let gate = c.trip_gate-trip.result.0 in
      let within : lane < length views = slice_get_within views lane view at in
      let few : length views ≤ 64 = is.few in
      let inside : lane < 64 = omega arith in
      let next : script.deadline + 1 ≡ suc script.deadline = omega arith in
      let u : ℕ → Rails = λ t. wave_pair terns_rails lane a.waves gate t in
      held_told c.line_laws.ensures c.args.compiled.now.line.now c.args.compiled.now.net.now
      c.args.compiled.now.of_line script
      c.args.terminal c.requires.terminal c.requires.deadline views a is gate
      c.trip_gate-trip.ensures.is lane view w at history (bit_on c.some_of.result.must lane)
      (c.some_of.ensures.must lane inside ∙ ap (some_below (λ t. (u t).must)) next
      ∙ ap (λ (kind : Kind). is_held kind script.deadline c.args.compiled.now.line.now.horizon u)
      (sym c.in-Internal.is));
}

pub returns-in-External : goal.returns-in-External
returns-in-External c = λ views is. record {
  each = λ lane view w at history.
      let script = c.args.script.now in
      let a = c.args.self.now in
      let gate = c.trip_gate-trip.result.0 in
      let within : lane < length views = slice_get_within views lane view at in
      let few : length views ≤ 64 = is.few in
      let inside : lane < 64 = omega arith in
      let u : ℕ → Rails = λ t. wave_pair terns_rails lane a.waves gate t in
      held_told c.line_laws.ensures c.args.compiled.now.line.now c.args.compiled.now.net.now
      c.args.compiled.now.of_line script
      c.args.terminal c.requires.terminal c.requires.deadline views a is gate
      c.trip_gate-trip.ensures.is lane view w at history (bit_on c.not.result lane)
      (ap must_of (c.not.ensures lane inside) ∙ ap not (c.possible.ensures lane inside)
      ∙ ap not (c.some_of-in-External.ensures.may lane inside)
      ∙ ap (λ (kind : Kind). is_held kind script.deadline c.args.compiled.now.line.now.horizon u)
      (sym c.in-External.is));
}
