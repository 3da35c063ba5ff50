-- Why there is no such map.
use Rattle.std.proofs.Common.{◌≡◌, ℕ, List, Option, Result, Err, None, length, refl}
use Rattle.call_answer.specs.declared.said.Said.{Said}
use Rattle.call_ask.specs.declared.map.MapForm.{MapForm}
use Rattle.call_work.specs.map.Asked.{asked_of}
use Rattle.call_work.specs.declared.map.denial.MapDenial.{MapDenial}
use Rattle.base_memory.specs.declared.stopped.Stopped.{Stopped}
use Rattle.base_memory.specs.declared.stopped.Stopped.TheVariants as stopped
use Rattle.call_study.specs.{Answers.answer_by, Ends.Gives}
use Rattle.call_work.specs.load.Reading.{at_most}
use Rattle.call_work.specs.load.Loaded.{as_read, halt_by, studied}
use Rattle.call_work.specs.load.Reading.{map_halt, map_of}
use Rattle.call_work.specs.declared.load.sources.Loaded.{Loaded}

-- the words ask for none, or memory ran out
pub map_halts : (form : MapForm) (x : List ℕ) (y : Option (List ℕ)) (made : List ℕ) (l : Loaded)
    (stop : Stopped MapDenial) (result : Result Said (Stopped MapDenial))
    → at_most 4096 (length l.study.scripts.items) ≡ None → result ≡ Err stop
    → ((why : MapDenial) → result ≡ Err (stopped.Fault why)
    → asked_of l.study.line x y ≡ Err why)
    → Gives (answer_by (map_of form x y made (as_read (studied l)))) (Err (halt_by map_halt stop))
map_halts form x y made l (stopped.Fault why) result few of denied =
    rw (few, denied why of) (refl, refl)
map_halts form x y made l stopped.Memory result few of denied = tt
