use Rattle.std.proofs.Common.{◌≡◌, ℕ, length, refl, subst}
use Rattle.std.specs.Prelude.{slice_get, Some}
use Rattle.std.proofs.lemmas.Option.{slice_get-get_or}
use Rattle.model_history.specs.ListLaws.{at_index, one_value}
use Rattle.model_line.specs.declared.script.Script.{Script}
use Rattle.run_waves.specs.waves.Waves.{AreWaves}
use Rattle.judge_verdict.specs.verdict.OneEachLaws.{one_more}
use Rattle.judge_races.specs.Lasting.{AreHistoryWaves}
use Rattle.judge_races.proofs.places.all_waves.Goals as goal

pub loop-p-preserved : goal.loop-p-preserved
loop-p-preserved c =
    let line = c.args.compiled.now.line.now in
    let gates = c.args.compiled.now.net.now.gates in
    let p : ℕ = c.loop-p.p in
    let own : Script = c.index-scripts-p.result in
    let waves = c.in_ok-waves.waves in
    record {
      each = one_more (λ i w. AreWaves (length gates) line.horizon w.items) p c.loop-p.all.items
          c.push.new.self.items waves c.in_ok-push.ensures.items c.in_ok-waves.ensures.are
          c.loop-p.invariant.each;
      are = one_more (λ i w. (script : Script) → slice_get c.args.scripts.now i ≡ Some script
          → AreHistoryWaves line script gates w.items) p c.loop-p.all.items
          c.push.new.self.items waves c.in_ok-push.ensures.items
          (λ script here.
          let P : Script → Type 0 = λ s. AreHistoryWaves line s gates waves.items in
          subst P (one_value c.args.scripts.now p p own script refl
          (at_index c.args.scripts.now p own c.loop-p-test.true c.index-scripts-p.is) here)
          c.in_ok-waves.ensures)
          c.loop-p.invariant.are;
    }

pub returns-clause-waves : goal.returns-clause-waves
returns-clause-waves c = λ k d within.
    c.loop-p.invariant.each.each k _ (slice_get-get_or c.loop-p.all.items k d within)
