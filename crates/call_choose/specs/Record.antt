-- The records of choices.
use Rattle.std.specs.Prelude.{◌+◌, ◌++◌, ℕ, Bool, List, [], ◌∷◌, Option, None, Some, codes, min}
use Rattle.csv.specs.Writing.{row_text, default_writer}
use Rattle.model_line.specs.{declared.line.Line.Line, declared.script.Script.Script}
use Rattle.judge_choose.specs.{declared.range.Range.Range, declared.values.Answer.Answer}
use Rattle.judge_choose.specs.declared.values.Answer.TheVariants.{Inside, Outside, Any}
use Rattle.judge_choose.specs.Values.{answer_of, roomy_value_of, value_of}
use Rattle.call_choose.specs.Left.{left_of, left_words, lost_words}
use Rattle.call_choose.specs.Named.{width_of}
use Rattle.call_choose.specs.Times.{end_text, interval_text, reach_text}
use Rattle.call_choose.specs.declared.named.Named.{Named}

abbrev pub choice_header : List (List ℕ)
choice_header =
    codes "setting" ∷ codes "declared" ∷ codes "answer" ∷ codes "from" ∷ codes "to"
    ∷ codes "below" ∷ codes "above" ∷ codes "lost_below" ∷ codes "lost_above" ∷ codes "value"
    ∷ codes "left" ∷ []

abbrev pub answer_word : Answer → List ℕ
answer_word Inside = codes "inside"
answer_word Outside = codes "outside"
answer_word Any = codes "any"

-- the position to write, with so much room to the bounds where room is asked for; of more than 4,000
-- ticks as of 4,000
abbrev pub value_at : Option ℕ → Range → ℕ → ℕ
value_at None range declared = value_of range declared
value_at (Some room) range declared = roomy_value_of range declared (min room 4000)

-- the interval to write, as wide as declared, with its unit
abbrev pub value_words : ℕ → Option ℕ → Named → Range → List ℕ
value_words tick_us room named range =
    interval_text tick_us (value_at room range named.least)
    (value_at room range named.least + width_of named) ++ codes " ms"

-- Positions are least ends, so the range goes from the first position to the greatest end at the
-- last one. Down from the least end that is declared to the first position, and from the last one
-- down to that least end, is how far it can go.
unfoldable pub choice_record : Line → List Script → Option ℕ → Bool → Named → Range → List (List ℕ)
choice_record line scripts room one_railed named range =
    named.name.items ∷ interval_text line.tick_us named.least named.greatest
    ∷ answer_word (answer_of range named.least)
    ∷ end_text range.below line.tick_us range.first
    ∷ end_text range.above line.tick_us (range.last + width_of named)
    ∷ reach_text range.below line.tick_us named.least range.first
    ∷ reach_text range.above line.tick_us range.last named.least
    ∷ lost_words line scripts one_railed range.below
    ∷ lost_words line scripts one_railed range.above
    ∷ value_words line.tick_us room named range
    ∷ left_words line scripts one_railed (left_of range.kept.items) ∷ []

-- one after another, each under its name
abbrev pub choice_rows : Line → List Script → Option ℕ → Bool → List Named → List Range → List ℕ
choice_rows line scripts room one_railed [] ranges = []
choice_rows line scripts room one_railed (named ∷ names) [] = []
choice_rows line scripts room one_railed (named ∷ names) (range ∷ ranges) =
    row_text default_writer (choice_record line scripts room one_railed named range)
    ++ choice_rows line scripts room one_railed names ranges
