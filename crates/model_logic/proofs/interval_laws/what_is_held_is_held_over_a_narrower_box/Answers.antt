use Rattle.model_logic.proofs.NarrowerRules.{narrower_held}
use Rattle.model_logic.proofs.interval_laws.what_is_held_is_held_over_a_narrower_box.Goals as goal

pub returns : goal.returns
returns c line script inner outer narrow wide k early d within is_narrow is_wide kn held =
    narrower_held c.history_laws.ensures line script inner outer narrow wide k early d within is_narrow is_wide kn held
