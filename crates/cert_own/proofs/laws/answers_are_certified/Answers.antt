use Rattle.std.proofs.Common.{refl}
use Rattle.model_logic.specs.Choice.{declared_box}
use Rattle.cert_own.proofs.laws.answers_are_certified.Goals as goal

pub returns : goal.returns
returns c = λ line script keys verdicts are_keys are_verdicts.
    let known = c.laws_below.ensures in
    let (w, is_w) =
    known.lines.interval_histories.exists line script (declared_box line) (known.lines.inside.declared line) in
    record {
      history = w;
      is_history = is_w;
      are_keys = are_keys w is_w;
      verdicts = verdicts;
      are_verdicts = are_verdicts w is_w;
      written = refl;
    }
