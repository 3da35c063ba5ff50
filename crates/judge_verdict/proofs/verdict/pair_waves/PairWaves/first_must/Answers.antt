use Rattle.std.proofs.Common.{ℕ, ◌<◌, ◌∙◌, subst}
use Rattle.std.specs.Prelude.{IfSome}
use Rattle.model_history.specs.Rails.{must_of}
use Rattle.judge_verdict.proofs.verdict_lemmas.FirstTicks.{first_of_wave}
use Rattle.judge_verdict.proofs.verdict.pair_waves.PairWaves.first_must.Goals as goal

pub returns : goal.returns
returns c =
    let is = c.trip_runs.ensures in
    record {
      first = c.first_must.ensures.first ∙ first_of_wave must_of c.trip_runs.result.now _ _ is;
      within = subst (λ (n : ℕ). IfSome c.first_must.result (λ t. t < n)) is.long
          c.first_must.ensures.within;
    }
