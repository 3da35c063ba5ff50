-- The lines of the facts of a reason.
use Rattle.std.specs.Prelude.{◌++◌, ◌==◌, ℕ, zero, suc, Bool, true, false, List, [], ◌∷◌, Option, None, Some, codes}
use Rattle.std.specs.Prelude.{if◌then◌else◌}
use Rattle.base_text.specs.lines.Milliseconds.{ticks_text}
use Rattle.model_history.specs.Each.{each_below}
use Rattle.model_line.specs.declared.line.Line.{Line}
use Rattle.judge_why.specs.declared.fact.Fact.{Fact}
use Rattle.call_why.specs.{declared.part.Part.Part, Words.part_words}

-- two blanks for each fact that is told and rests on this one
abbrev pub indent : ℕ → List ℕ
indent depth = each_below depth (λ _. codes "  ")

abbrev pub level_words : Bool → List ℕ
level_words true = codes " is on at "
level_words false = codes " is off at "

-- from when it is so, and until when
abbrev pub since_words : Line → ℕ → List ℕ
since_words line from =
    if from == 0 then codes " ms (from the start"
    else codes " ms (since " ++ ticks_text line.tick_us from ++ codes " ms"

abbrev pub until_words : Line → ℕ → List ℕ
until_words line to =
    if to == line.horizon then codes ", to the end)\n"
    else codes ", until " ++ ticks_text line.tick_us to ++ codes " ms)\n"

unfoldable pub fact_line : Line → Part → Fact → List ℕ
fact_line line part fact =
    indent fact.depth ++ part_words line part ++ level_words fact.level
    ++ ticks_text line.tick_us fact.tick ++ since_words line fact.from ++ until_words line fact.to

-- the line of a fact whose gate has a name, and the lines behind it; else those behind it that have
-- all the room
abbrev pub line_and : Line → Fact → Option Part → List ℕ → List ℕ → List ℕ
line_and line fact None behind others = others
line_and line fact (Some part) behind others = fact_line line part fact ++ behind

-- the lines of the first of these facts whose gates have a name, so many of them at most
abbrev pub lines_of : Line → (ℕ → Option Part) → List Fact → ℕ → List ℕ
lines_of line part [] room = []
lines_of line part (fact ∷ more) zero = []
lines_of line part (fact ∷ more) (suc room) =
    line_and line fact (part fact.gate) (lines_of line part more room)
    (lines_of line part more (suc room))

-- how many lines a reason has at most
abbrev pub most_lines : ℕ
most_lines = 10
