-- A record of the field: what each terminal keyed and whether it tripped, at every tick.
use Rattle.std.specs.Prelude.{◌≡◌, ◌<◌, ℕ, List, length}
use Rattle.model_history.specs.Rails.{both}
use Rattle.run_signal.specs.{declared.level.Level.Level, declared.tern.Tern.Tern}
use Rattle.run_signal.specs.SentKeys.{SentKeys}
use Rattle.model_line.specs.{declared.line.Line.Line, declared.script.Script.Script}
use Rattle.model_line.specs.Parameters.{terminal_count}
use Rattle.model_logic.specs.Histories.{History, IsLineHistory, IsSameHistory}
use Rattle.model_timing.specs.{Timing.TimingValues, Choice.timing_choice}
use Rattle.run_changes.specs.changes.PlayedTracks.{is_on, is_shown}
use Rattle.run_waves.specs.waves.Waves.{wave_at, AreWaves}
use Rattle.run_waves.specs.derived.Claims.{pairs_of}
use Rattle.judge_match.specs.declared.matching.seen.Seen.{Seen}

-- what was seen, as a history
abbrev pub seen_history : Seen → History
seen_history seen = record {
  key = λ k t. (pairs_of seen.keys.items k t).must;
  trip = λ k t. (pairs_of seen.trips.items k t).must;
}

-- one key wave and one trip wave for each terminal, each of the horizon's length, and known at
-- every tick
pub record AreSeen (line : Line) (seen : Seen) : Type 0 where
  pub keys : AreWaves (terminal_count line) line.horizon seen.keys.items
  pub trips : AreWaves (terminal_count line) line.horizon seen.trips.items
  pub known_keys : (k t : ℕ) → k < terminal_count line → t < line.horizon
      → pairs_of seen.keys.items k t ≡ both ((seen_history seen).key k t)
  pub known_trips : (k t : ℕ) → k < terminal_count line → t < line.horizon
      → pairs_of seen.trips.items k t ≡ both ((seen_history seen).trip k t)

-- a track of a run is on exactly at the ticks at which the wave is
abbrev pub IsAsSeen : SentKeys Level → List Tern → Type 0
IsAsSeen track wave = (t : ℕ) → t < length wave → is_on track t ≡ (wave_at wave t).must

-- so it is of each terminal's track and wave
abbrev pub AreAsSeen : Line → List (SentKeys Level) → List (List Tern) → Type 0
AreAsSeen line tracks waves =
    (k t : ℕ) → k < terminal_count line → t < line.horizon
    → is_shown tracks k t ≡ (pairs_of waves k t).must

-- a timing gives a record: its one history is what was seen, at every terminal and tick
pub record Gives (line : Line) (script : Script) (timing : TimingValues) (seen : Seen)
    : Type 0 where
  pub same : (h : History) → IsLineHistory line script (timing_choice line timing) h
      → IsSameHistory line h (seen_history seen)
