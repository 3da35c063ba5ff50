-- All scripts of a fault.
use Rattle.std.specs.Prelude.{◌+◌, ◌*◌, ◌==◌, ℕ, zero, suc, List, [], ◌∷◌, Option, None, Some}
use Rattle.std.specs.Prelude.{if◌then◌else◌, length, map, nat_le, option_map}
use Rattle.file_tables.specs.script.Values.{ScriptValues}
use Rattle.file_study.specs.study.Faults.{FaultValues}
use Rattle.file_study.specs.{sweeps.Choices.choice_of, sweeps.Scripts.place_name, sweeps.Scripts.script_of}

-- the times of a fault: its start, by when it has to be tripped, and how long each stage lasts
abbrev pub times_of : FaultValues → List (List ℕ)
times_of f = f.start ∷ f.trip_within ∷ map (λ s. s.lasts) f.stages

-- 4,096 at most
abbrev pub limited : ℕ → Option ℕ
limited n = if nat_le n 4096 then Some n else None

-- n choices, and with each more time as many times as it has values; 4,096 at most at each
abbrev pub counted : Option ℕ → List (List ℕ) → Option ℕ
counted n [] = n
counted None (time ∷ times) = None
counted (Some n) (time ∷ times) = counted (limited (n * length time)) times

-- how many choices a fault has, if at most 4,096
abbrev pub count_of : FaultValues → Option ℕ
count_of f = counted (Some 1) (times_of f)

-- the script of an only choice has the fault's own name
abbrev pub script_name : FaultValues → ℕ → ℕ → List ℕ
script_name f count k = if count == 1 then f.name else place_name f.name k

-- the scripts of n choices of `count`, the first of which is choice k
abbrev pub scripts_from : FaultValues → ℕ → ℕ → ℕ → List ScriptValues
scripts_from f count k zero = []
scripts_from f count k (suc n) =
    script_of (script_name f count k) f (choice_of f k) ∷ scripts_from f count (k + 1) n

-- those of all choices of a fault, if at most 4,096
abbrev pub scripts_of : FaultValues → Option (List ScriptValues)
scripts_of f = option_map (λ n. scripts_from f n 0 n) (count_of f)
