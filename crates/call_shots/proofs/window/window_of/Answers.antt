use Rattle.std.proofs.Common.{ℕ, ◌∙◌, ◌<◌, subst}
use Rattle.model_history.specs.Rails.{may_of, must_of}
use Rattle.model_line.specs.Parameters.{terminal_count}
use Rattle.call_shots.proofs.FirstTicks.{first_alike}
use Rattle.call_shots.proofs.window.window_of.Goals as goal

pub returns : goal.returns
returns c = λ line script terminals horizon history.
    let k : ℕ = c.args.terminal in
    let here : k < terminal_count line = subst (λ (n : ℕ). k < n) terminals c.requires in
    record {
      is = λ w is_w.
          let same = history.only w is_w in
          record {
            key_may = c.first_may.ensures.first
                ∙ first_alike may_of c.key_runs.result.now _ _ _ (w.key k) c.key_runs.ensures horizon
                (λ t lt. same.keys k t here lt);
            key_must = c.first_must.ensures.first
                ∙ first_alike must_of c.key_runs-2.result.now _ _ _ (w.key k) c.key_runs-2.ensures
                horizon (λ t lt. same.keys k t here lt);
            trip_may = c.first_may-2.ensures.first
                ∙ first_alike may_of c.trip_runs.result.now _ _ _ (w.trip k) c.trip_runs.ensures
                horizon (λ t lt. same.trips k t here lt);
            trip_must = c.first_must-2.ensures.first
                ∙ first_alike must_of c.trip_runs-2.result.now _ _ _ (w.trip k)
                c.trip_runs-2.ensures horizon (λ t lt. same.trips k t here lt);
          };
    }
