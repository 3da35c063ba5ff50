-- What an answer of a search says of its obligation.
use Rattle.std.specs.Prelude.{true, false}
use Rattle.judge_settle.specs.declared.settle.answer.Answer.{Answer}
use Rattle.judge_settle.specs.declared.settle.answer.Answer.TheVariants as answer
use Rattle.judge_map.specs.declared.known.Known.{Known}
use Rattle.judge_map.specs.declared.known.Known.TheVariants.{Held, FailsForSome, FailsForEvery, Open}

abbrev pub known_in : Answer → Known
known_in (answer.Held nodes) = Held
known_in (answer.Fails timing true) = FailsForEvery
known_in (answer.Fails timing false) = FailsForSome
known_in (answer.Open nodes) = Open
