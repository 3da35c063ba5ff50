-- The command of a call and its files, and what the call has put on out.
use Rattle.std.specs.Prelude.{◌≡◌, ◌≢◌, ◌++◌, ℕ, List, [], Option, Some}
use Rattle.call_answer.specs.Sinks.{SinkView}
use Rattle.call_pilot.specs.top.Words.{Command, TwoFiles, three_files, two_files}
use Rattle.call_files.specs.{Status.IsDone, declared.stop.Status.Status}
use Rattle.call_pilot.specs.declared.top.words.ThreeFiles.{ThreeFiles}

-- the command is this one over a line file and a scripts file, and the store tells these bytes of
-- them
pub record IsOverTwo (command : Option Command) (files : List ℕ → Option (List ℕ)) (work : TwoFiles)
    (line scripts : List ℕ) : Type 0 where
  pub line_name : List ℕ
  pub scripts_name : List ℕ
  pub is : command ≡ Some (two_files work line_name scripts_name)
  pub line_told : files line_name ≡ Some line
  pub scripts_told : files scripts_name ≡ Some scripts

-- the command is this one over a line file, a scripts file and a file of its own, and the store tells
-- these bytes of them
pub record IsOverThree (command : Option Command) (files : List ℕ → Option (List ℕ))
    (work : ThreeFiles) (line scripts own : List ℕ) : Type 0 where
  pub line_name : List ℕ
  pub scripts_name : List ℕ
  pub own_name : List ℕ
  pub is : command ≡ Some (three_files work line_name scripts_name own_name)
  pub line_told : files line_name ≡ Some line
  pub scripts_told : files scripts_name ≡ Some scripts
  pub own_told : files own_name ≡ Some own

-- the sink tells what it took before and after, and this was put on it between
pub record HasPut (old new : SinkView) (put : List ℕ) : Type 0 where
  pub before : List ℕ
  pub told_before : old.written ≡ Some before
  pub told_after : new.written ≡ Some (before ++ put)

-- what was put, if it is anything, is a front of a text of which this holds; and where the call is
-- done, it is the whole of it
pub record IsFrontOfText (s : Status) (put : List ℕ) (Fact : List ℕ → Type 0) : Type 0 where
  pub whole : IsDone s → Fact put
  pub front : put ≢ [] → (rest : List ℕ) × Fact (put ++ rest)
