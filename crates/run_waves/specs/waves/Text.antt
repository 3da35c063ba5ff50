-- The text of a wave: an item for each run, with one space between each two.
use Rattle.std.specs.Prelude.{◌≡◌, ◌==◌, ℕ, zero, suc, List, [], ◌∷◌, length, map, decimal}
use Rattle.std.specs.Prelude.{Option, Some, None, if◌then◌else◌}
use Rattle.std.specs.List.{join_with_byte}
use Rattle.base_text.specs.store.Number.{number_of}
use Rattle.run_signal.specs.declared.tern.Tern.{Tern}
use Rattle.run_signal.specs.declared.tern.Tern.TheVariants.{Zero, One, Unknown}
use Rattle.run_waves.specs.{declared.waves.runs.Run.Run, waves.Waves.run_of}

-- `0`, `1` or `?`
abbrev pub level_letter : Tern → ℕ
level_letter Zero = 48
level_letter One = 49
level_letter Unknown = 63

abbrev pub tern_word : Tern → List ℕ
tern_word level = level_letter level ∷ []

-- a run: its letter, a colon, and the number of its ticks in decimal digits
abbrev pub item_text : Run → List ℕ
item_text run = level_letter run.level ∷ 58 ∷ decimal run.ticks

-- the items of the runs
abbrev pub items_text : List Run → List ℕ
items_text runs = join_with_byte 32 (map item_text runs)

-- the runs of a wave that begins with one tick more, of that value
abbrev pub begin_with : Tern → List Run → List Run
begin_with level [] = run_of level 1 ∷ []
begin_with level (run ∷ runs) =
    if level_letter level == level_letter run.level then run_of level (suc run.ticks) ∷ runs
    else run_of level 1 ∷ run ∷ runs

-- the longest runs of equal values
abbrev pub runs_of : List Tern → List Run
runs_of [] = []
runs_of (level ∷ levels) = begin_with level (runs_of levels)

-- the one text of a wave
abbrev pub runs_text : List Tern → List ℕ
runs_text wave = items_text (runs_of wave)

-- it is the text of this wave, of so many ticks
pub record IsTextOf (text : List ℕ) (horizon : ℕ) (wave : List Tern) : Type 0 where
  pub long : length wave ≡ horizon
  pub written : runs_text wave ≡ text

-- ---- reading an item

-- what stands before the item at a place
abbrev pub gap : ℕ → List ℕ
gap zero = []
gap (suc i) = 32 ∷ []

abbrev pub level_in : ℕ → Option Tern
level_in letter =
    if letter == 48 then Some Zero
    else (if letter == 49 then Some One else (if letter == 63 then Some Unknown else None))

abbrev pub run_with : Option Tern → Option ℕ → Option Run
run_with None ticks = None
run_with (Some level) None = None
run_with (Some level) (Some ticks) = Some (run_of level ticks)

-- the run of an item, if it is one
abbrev pub run_in : List ℕ → Option Run
run_in [] = None
run_in (letter ∷ []) = None
run_in (letter ∷ colon ∷ digits) =
    if colon == 58 then run_with (level_in letter) (number_of digits) else None
