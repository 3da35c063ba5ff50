-- Numbers as words.
use Rattle.std.specs.Prelude.{◌++◌, ◌+◌, ◌==◌, ◌/◌, ◌%◌, ◌*◌, ◌-◌, ◌^◌, ℕ, List, [], codes, decimal, min}
use Rattle.std.specs.Prelude.{if◌then◌else◌}
use Rattle.draw_run.specs.declared.layout.words.Words.{Words}

-- the bytes of words
abbrev pub said : Words → List ℕ
said words = words.bytes.items

-- microseconds below a millisecond: none, or a point and up to three decimal places
abbrev pub places_said : ℕ → List ℕ
places_said rest =
    if rest == 0 then [] else codes "." ++ decimal (rest / 100)
    ++ (if rest % 100 == 0 then [] else decimal (rest / 10 % 10)
    ++ (if rest % 10 == 0 then [] else decimal (rest % 10)))

-- microseconds as milliseconds
abbrev pub milliseconds_said : ℕ → List ℕ
milliseconds_said microseconds =
    decimal (microseconds / 1000) ++ places_said (microseconds % 1000)

-- the microseconds of so many ticks, up to what 64 bits hold
abbrev pub microseconds_of : ℕ → ℕ → ℕ
microseconds_of tick_us ticks = min (ticks * tick_us) (2 ^ 64 - 1)

-- so many ticks, as ticks and milliseconds
abbrev pub ticks_said : ℕ → ℕ → List ℕ
ticks_said tick_us ticks =
    decimal ticks ++ (if ticks == 1 then codes " tick, " else codes " ticks, ")
    ++ milliseconds_said (microseconds_of tick_us ticks) ++ codes " ms"

-- a tick, with its milliseconds
abbrev pub tick_said : ℕ → ℕ → List ℕ
tick_said tick_us t =
    decimal t ++ codes " (" ++ milliseconds_said (microseconds_of tick_us t) ++ codes " ms)"

-- a tick, with the milliseconds at which it ends
unfoldable pub tick_end_said : ℕ → ℕ → List ℕ
tick_end_said tick_us t =
    decimal t ++ codes " (ends at " ++ milliseconds_said (microseconds_of tick_us (t + 1))
    ++ codes " ms)"
