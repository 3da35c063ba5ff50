-- The waves of a record: each signal tick by tick.
use Rattle.std.specs.Prelude.{ℕ, Bool, true, false, List, map, Result, Ok}
use Rattle.std.specs.List.{range_with_len}
use Rattle.run_signal.specs.declared.tern.Tern.{Tern}
use Rattle.run_signal.specs.declared.tern.Tern.TheVariants.{Zero, One}
use Rattle.model_line.specs.{declared.line.Line.Line, declared.script.Script.Script}
use Rattle.model_line.specs.Parameters.{terminal_count}
use Rattle.judge_match.specs.declared.matching.fault.SeenFault.{SeenFault}
use Rattle.judge_match.specs.{declared.matching.change.Change.Change, declared.matching.seen.Seen.Seen}
use Rattle.judge_match.specs.{matching.Heads.HeadValues, matching.Heads.level_by, matching.Records.heads_of}
use Rattle.base_memory.specs.Gives.{◌>>=◌}

-- a script's number, and a key wave and a trip wave for each terminal
pub record SeenValues : Type 0 where
  pub script : ℕ
  pub keys : List (List Tern)
  pub trips : List (List Tern)

abbrev pub seen_values : Seen → SeenValues
seen_values s = record { script = s.script; keys = s.keys.items; trips = s.trips.items }

-- a level that is known
abbrev pub known_level : Bool → Tern
known_level true = One
known_level false = Zero

-- the level of a signal at tick t
abbrev pub tern_by : List Change → Bool → ℕ → ℕ → Tern
tern_by changes trip terminal t = known_level (level_by terminal trip t changes false)

-- the wave of a signal, and of the keys, or else of the trips, of so many terminals
abbrev pub wave_of : ℕ → List Change → Bool → ℕ → List Tern
wave_of horizon changes trip terminal =
    map (tern_by changes trip terminal) (range_with_len 0 horizon)

abbrev pub waves_of : Line → List Change → Bool → List (List Tern)
waves_of line changes trip =
    map (wave_of line.horizon changes trip) (range_with_len 0 (terminal_count line))

-- what was seen under a head
abbrev pub seen_of : Line → HeadValues → SeenValues
seen_of line head = record {
  script = head.script;
  keys = waves_of line head.changes false;
  trips = waves_of line head.changes true;
}

-- what a record file says: its records in file order, or its first fault
abbrev pub records_said : Line → List Script → List ℕ → Result (List SeenValues) SeenFault
records_said line scripts bytes =
    heads_of line scripts bytes >>= λ heads. Ok (map (seen_of line) heads)
