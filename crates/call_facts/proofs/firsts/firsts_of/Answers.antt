use Rattle.std.proofs.Common.{◌≡◌, ℕ, List, Some, refl, ◌∙◌, ap}
use Rattle.std.specs.Prelude.{slice_get}
use Rattle.model_history.specs.Rails.{Rails, must_of, may_of}
use Rattle.model_line.specs.{declared.line.Line.Line, declared.script.Script.Script}
use Rattle.judge_verdict.specs.verdict.PairWavesOf.{pair_at}
use Rattle.run_waves.specs.waves.FirstTick.{first_on}
use Rattle.run_waves.specs.waves.FirstTickLaws.{first_on-same}
use Rattle.model_history.specs.ListLaws.{exists_at}
use Rattle.call_facts.proofs.firsts.firsts_of.Goals as goal

pub returns : goal.returns
returns c =
    let line : Line = c.args.study.now.line in
    let scripts : List Script = c.args.study.now.scripts.items in
    let k : ℕ = c.args.terminal in
    let found = exists_at scripts c.args.i c.requires.exists in
    let script : Script = found.0 in
    let at : slice_get scripts c.args.i ≡ Some script = found.1 in
    let trip : ℕ → Rails = pair_at c.args.waves.now.trips k in
    record {
      script = script;
      at = at;
      terminal = c.requires.terminal;
      place_is = refl;
      may = λ w is_w.
          c.first_may.ensures.first
          ∙ ap (first_on (λ t. (trip t).may)) c.requires.horizon
          ∙ first_on-same (λ t. (trip t).may) (λ t. (w.trip k t).may) line.horizon
          (λ t lt.
          ap may_of (((c.requires.history script at).only w is_w).trips k t c.requires.terminal lt));
      must = λ w is_w.
          c.first_must.ensures.first
          ∙ ap (first_on (λ t. (trip t).must)) c.requires.horizon
          ∙ first_on-same (λ t. (trip t).must) (λ t. (w.trip k t).must) line.horizon
          (λ t lt.
          ap must_of (((c.requires.history script at).only w is_w).trips k t c.requires.terminal lt));
    }
