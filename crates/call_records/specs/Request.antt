-- What is asked for, by the names of files.
use Rattle.std.specs.Prelude.{ℕ, List}
use Rattle.call_ask.specs.declared.records.RecordsAsk.{RecordsAsk as Ask}
use Rattle.call_ask.specs.declared.records.RecordsWork.{RecordsWork as Work}
use Rattle.call_records.specs.declared.asked.Asked as code

pub record Request : Type 0 where
  pub line : List ℕ
  pub map : List ℕ
  pub work : Work

abbrev pub request_of : Ask → Request
request_of ask = record { line = ask.line.now; map = ask.map.now; work = ask.work }

-- what is to be made, and the map by which: its name and its bytes
pub record Asked : Type 0 where
  pub work : Work
  pub name : List ℕ
  pub bytes : List ℕ

abbrev pub asked_with : Work → List ℕ → List ℕ → Asked
asked_with work name bytes = record { work = work; name = name; bytes = bytes }

abbrev pub asked_values : code.Asked → Asked
asked_values asked = asked_with asked.work asked.name.now asked.bytes.now
