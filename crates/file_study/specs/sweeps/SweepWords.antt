-- What is told of a fault of a study that comes to no scripts.
use Rattle.std.specs.Prelude.{◌+◌, ◌*◌, ◌++◌, ℕ, List, [], ◌∷◌, Option, None, Some, codes, decimal}
use Rattle.std.specs.Prelude.{nat_le, if◌then◌else◌}
use Rattle.file_study.specs.declared.sweeps.fault.SweepFault.{SweepFault}
use Rattle.file_study.specs.declared.sweeps.fault.SweepFault.TheVariants as sweep
use Rattle.file_study.specs.declared.sweeps.study_fault.StudySweepFault.{StudySweepFault}
use Rattle.file_study.specs.declared.sweeps.study_fault.StudySweepFault.TheVariants as fault

-- the script that it is told of, counted from 1
abbrev pub place_of : SweepFault → Option ℕ
place_of sweep.TooMany = None
place_of (sweep.BadName k) = Some (k + 1)
place_of (sweep.Horizon k ticks tick_us) = Some (k + 1)
place_of (sweep.NoFit k) = Some (k + 1)

-- of a horizon of so many ticks that is needed; a line has at most 4,000
abbrev pub horizon_words : ℕ → List ℕ
horizon_words ticks =
    if nat_le ticks 4000 then codes " leaves the horizon: write horizon = "
    else codes " leaves the longest horizon, of 4000 ticks: write a longer tick_us"

-- what is wrong
abbrev pub words_of : SweepFault → List ℕ
words_of sweep.TooMany = codes "more than 4096 scripts: write sweeps with fewer values"
words_of (sweep.BadName k) = codes ": its name is longer than 16 bytes: write a shorter name"
words_of (sweep.Horizon k ticks tick_us) = horizon_words ticks
words_of (sweep.NoFit k) = codes ": more than 200 spans: write fewer stages"

-- the horizon that serves, in microseconds, where a line can have it
abbrev pub horizon_to_write : SweepFault → Option ℕ
horizon_to_write sweep.TooMany = None
horizon_to_write (sweep.BadName k) = None
horizon_to_write (sweep.Horizon k ticks tick_us) =
    if nat_le ticks 4000 then Some (ticks * tick_us) else None
horizon_to_write (sweep.NoFit k) = None

-- the pieces that say it
abbrev pub place_pieces : Option ℕ → List (List ℕ)
place_pieces None = []
place_pieces (Some place) = codes "script " ∷ decimal place ∷ []

abbrev pub horizon_pieces : Option ℕ → List (List ℕ)
horizon_pieces None = []
horizon_pieces (Some us) = codes "\"" ∷ decimal us ∷ codes " us\"" ∷ []

abbrev pub sweep_pieces : SweepFault → List (List ℕ)
sweep_pieces why =
    place_pieces (place_of why) ++ words_of why ∷ horizon_pieces (horizon_to_write why)

-- those of a study's fault, with its number and its name
abbrev pub study_pieces : StudySweepFault → List (List ℕ)
study_pieces (fault.Refused i name why) =
    codes "fault[" ∷ decimal i ∷ codes "] " ∷ name ∷ codes ": " ∷ sweep_pieces why
study_pieces (fault.Twice i name k) =
    codes "fault[" ∷ decimal i ∷ codes "]: another script has the name " ∷ name
    ∷ codes ": write another name of one of the faults" ∷ []
