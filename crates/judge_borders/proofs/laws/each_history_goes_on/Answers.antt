use Rattle.judge_borders.proofs.Onward.{goes_on}
use Rattle.judge_borders.proofs.laws.each_history_goes_on.Goals as goal

pub returns : goal.returns
returns c fault line part k n x choice h on can within kn some are inside is_h =
    goes_on c.each_fine_choice_has_one_history.ensures c.histories_go_on.ensures fault line part k on can within
    kn n x choice h some are inside is_h
