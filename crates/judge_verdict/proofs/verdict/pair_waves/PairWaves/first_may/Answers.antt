use Rattle.std.proofs.Common.{ℕ, ◌<◌, ◌∙◌, subst}
use Rattle.std.specs.Prelude.{IfSome}
use Rattle.model_history.specs.Rails.{may_of}
use Rattle.judge_verdict.proofs.verdict_lemmas.FirstTicks.{first_of_wave}
use Rattle.judge_verdict.proofs.verdict.pair_waves.PairWaves.first_may.Goals as goal

pub returns : goal.returns
returns c =
    let is = c.trip_runs.ensures in
    record {
      first = c.first_may.ensures.first ∙ first_of_wave may_of c.trip_runs.result.now _ _ is;
      within = subst (λ (n : ℕ). IfSome c.first_may.result (λ t. t < n)) is.long
          c.first_may.ensures.within;
    }
