use Rattle.judge_settle.proofs.corner_lemmas.Order.{ascend-remove}
use Rattle.judge_settle.proofs.corner.proved.steps_stay_in_order.Goals as goal

pub returns : goal.returns
returns c = ascend-remove
