use Rattle.std.proofs.Common.{◌≡◌, ℕ, ◌+◌, ◌∷◌, [], List, length, sym, ◌∙◌, ap, subst, arith, length-append}
use Rattle.std.specs.Prelude.{slice_get, Some}
use Rattle.model_history.specs.ListLaws.{at_index}
use Rattle.model_line.specs.declared.script.Script.{Script}
use Rattle.run_signal.specs.declared.tern.Tern.{Tern}
use Rattle.judge_verdict.specs.verdict.OneEachLaws.{one_more, all_there}
use Rattle.judge_races.specs.Lasting.{AreHistoryWaves, IsTripOf}
use Rattle.judge_races.proofs.places.trips.Goals as goal

pub loop-p-preserved : goal.loop-p-preserved
loop-p-preserved c =
    let line = c.args.compiled.now.line.now in
    let gates = c.args.compiled.now.net.now.gates in
    let p : ℕ = c.loop-p.p in
    record {
      many = ap length c.in_ok-push.ensures.items
          ∙ length-append c.loop-p.trips.items (c.in_ok-trip.trip ∷ [])
          ∙ ap (λ (n : ℕ). n + 1) c.loop-p.invariant.many;
      are = λ scripts are.
          let waves = c.index-all-p.result in
          one_more (λ i trip. (script : Script) → slice_get scripts i ≡ Some script
          → IsTripOf line script c.args.k trip) p c.loop-p.trips.items c.push.new.self.items
          c.in_ok-trip.trip c.in_ok-push.ensures.items
          (λ script here.
          let P : List (List Tern) → Type 0 = AreHistoryWaves line script gates in
          c.in_ok-trip.ensures script
          (subst P (sym c.deref.ensures.value)
          (are.each p waves (at_index c.args.all.now p waves c.loop-p-test.true c.index-all-p.is)
          script here)))
          (c.loop-p.invariant.are scripts are);
    }

pub returns-clause-are : goal.returns-clause-are
returns-clause-are c = λ scripts are.
    let line = c.args.compiled.now.line.now in
    all_there (λ i trip. (script : Script) → slice_get scripts i ≡ Some script
    → IsTripOf line script c.args.k trip) c.loop-p.p (length scripts) c.loop-p.trips.items
    (omega (arith, c.loop-p-test.false, c.loop-p.auto.p-end, are.count))
    (c.loop-p.invariant.are scripts are)
