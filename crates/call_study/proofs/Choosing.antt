-- Why nothing is chosen.
use Rattle.std.proofs.Common.{◌≡◌, ℕ, List, Option, Result, Err, None, length, refl}
use Rattle.call_answer.specs.declared.said.Said.{Said}
use Rattle.call_work.specs.choose.Asked.{chosen_rows}
use Rattle.call_work.specs.declared.choose.denial.ChooseDenial.{ChooseDenial}
use Rattle.base_memory.specs.declared.stopped.Stopped.{Stopped}
use Rattle.base_memory.specs.declared.stopped.Stopped.TheVariants as stopped
use Rattle.call_study.specs.{Answers.answer_by, Ends.Gives}
use Rattle.call_work.specs.load.Reading.{at_most, choose_halt, choose_of}
use Rattle.call_work.specs.load.Loaded.{as_read, halt_by, studied}
use Rattle.call_work.specs.declared.load.sources.Loaded.{Loaded}

-- the words ask for nothing that is told, or memory ran out
pub choose_halts : (words : List (List ℕ)) (room : Option ℕ) (l : Loaded)
    (stop : Stopped ChooseDenial) (result : Result Said (Stopped ChooseDenial))
    → at_most 4096 (length l.study.scripts.items) ≡ None → result ≡ Err stop
    → ((why : ChooseDenial) → result ≡ Err (stopped.Fault why)
    → chosen_rows l.study.line words ≡ Err why)
    → Gives (answer_by (choose_of words room (as_read (studied l)))) (Err (halt_by choose_halt stop))
choose_halts words room l (stopped.Fault why) result few of denied =
    rw (few, denied why of) (refl, refl)
choose_halts words room l stopped.Memory result few of denied = tt
