use Rattle.std.proofs.Common.{List, subst}
use Rattle.run_signal.specs.declared.tern.Tern.{Tern}
use Rattle.run_waves.specs.derived.Claims.{AreGateWaves, pairs_of}
use Rattle.judge_verdict.specs.verdict.PairWavesOf.{pair_history}
use Rattle.judge_races.proofs.WaveLaws.{keys_same, waves_over}
use Rattle.judge_races.proofs.waves.history_waves.Goals as goal

pub returns : goal.returns
returns c =
    let line = c.args.compiled.now.line.now in
    let script = c.args.script.now in
    let gates = c.args.compiled.now.net.now.gates in
    let keys : List (List Tern) = c.in_ok-keys.keys.items in
    let P : List (List Tern) → Type 0 = λ l.
    AreGateWaves line script gates (pairs_of l) c.in_ok-waves.waves.items in
    let are = subst P c.deref.ensures.value c.in_ok-waves.ensures in
    record {
      are = record { many = are.many; long = λ k within. (are.each k within).long };
      over = λ w is_w.
          waves_over c.values_rest_on_earlier_keys.ensures line script gates (pairs_of keys) w.key
          c.in_ok-waves.waves.items (c.each_line_has_a_choice_inside.ensures.declared line)
          (λ i. c.gates_stand_for_their_trees.ensures.names line gates i c.args.compiled.now.of_line.named)
          (keys_same line (pair_history c.in_ok-found.found) w keys c.in_ok-keys.ensures
          (c.in_ok-found.ensures.history.only w is_w))
          are;
    }
