use Rattle.model_fine.proofs.Between.{off_at_one, off_at_two, on_between}
use Rattle.model_fine.proofs.fine_laws.numbers_say_nothing_between.Goals as goal

pub returns : goal.returns
returns c = record { one = off_at_one; two = off_at_two; between = on_between }
