-- Times as bars: the declared interval in full, and on a thin one how far its ends can go.
use Rattle.std.specs.Prelude.{◌+◌, ◌-◌, ◌*◌, ◌/◌, ◌++◌, ℕ, List, [], ◌∷◌, codes, min, max}
use Rattle.draw_shapes.specs.declared.class.Class.TheVariants as class
use Rattle.draw_shapes.specs.Seen.{SeenDrawing, SeenFigure, line, rectangle, plain}
use Rattle.draw_page.specs.declared.page.Time.{Time}
use Rattle.draw_page.specs.Words.{interval_said}

-- the greatest declared end, 1 at least
abbrev pub greatest_end : List Time → ℕ
greatest_end [] = 1
greatest_end (time ∷ rest) = max time.high (greatest_end rest)

-- the bars go a quarter beyond it
abbrev pub reach_of : List Time → ℕ
reach_of times = max (min (greatest_end times + greatest_end times / 4) 4294967295) 1

-- where a tick lies: 0 at the left end, the reach and all beyond at the right one
abbrev pub place_of : ℕ → ℕ → ℕ
place_of reach tick = min (tick * 10000 / reach) 10000

abbrev pub bar_title : ℕ → Time → List ℕ
bar_title tick_us time =
    time.name.items ++ codes ", declared " ++ interval_said tick_us time.low time.high

-- the thin bar goes as far as both ends can, the full one is the declared interval
abbrev pub bar_figures : ℕ → Time → List SeenFigure
bar_figures reach time =
    line class.Base 0 200 10000 200
    ∷ (rectangle class.KeyHatch (place_of reach (time.low - time.below.ticks)) 140
    (place_of reach (time.high + time.above.ticks) - place_of reach (time.low - time.below.ticks)) 120
    ∷ (rectangle class.KeyOn (place_of reach time.low) 0
    (max (place_of reach time.high - place_of reach time.low) 40) 400 ∷ []))

abbrev pub bar_drawing : ℕ → ℕ → Time → SeenDrawing
bar_drawing tick_us reach time = record {
  title = bar_title tick_us time;
  height = 400;
  shapes = plain (bar_figures reach time) ∷ [];
}
