-- Why there is no such map: the exit status, and the line that says it.
use Rattle.std.specs.Prelude.{◌-◌, ℕ, List, [], ◌∷◌, Option, None, Some, codes, decimal}
use Rattle.judge_margins.specs.declared.map.fault.MapFault.{MapFault}
use Rattle.judge_margins.specs.declared.map.fault.MapFault.TheVariants as map
use Rattle.file_study.specs.declared.times.axis_fault.AxisFault.{AxisFault}
use Rattle.file_study.specs.declared.times.axis_fault.AxisFault.TheVariants as axis
use Rattle.file_study.specs.{times.Names.name_of, times.Parts.names_of}
use Rattle.file_study.specs.times.AxisWords.{part_words, what_words}
use Rattle.call_work.specs.load.Nearest.{near_words, quoted}
use Rattle.call_work.specs.declared.map.{denial.MapDenial.MapDenial, denial.Side.Side}
use Rattle.call_work.specs.declared.map.denial.MapDenial.TheVariants as denial
use Rattle.call_work.specs.declared.map.denial.Side.TheVariants as side

-- 9 where a parameter is unknown, else 4
abbrev pub words_status : AxisFault → ℕ
words_status axis.NoEquals = 4
words_status (axis.Unknown number) = 9
words_status axis.NoLast = 4
words_status axis.NoStep = 4
words_status (axis.NoTicks part) = 4
words_status (axis.BadTime part why) = 4
words_status (axis.NoInstant part) = 4
words_status (axis.Beyond part) = 4
words_status (axis.OffGrid part) = 4
words_status axis.Order = 4
words_status axis.StepOfZero = 4

abbrev pub map_denial_status : MapDenial → ℕ
map_denial_status (denial.Unknown side number near) = 9
map_denial_status (denial.Words side why) = words_status why
map_denial_status (denial.Twice name) = 4
map_denial_status (denial.Fault why) = 4

-- the words of an axis: the first are those of x, the second those of y
abbrev pub side_words : List ℕ → List ℕ → Side → List ℕ
side_words x y side.X = x
side_words x y side.Y = y

-- before what is wrong: the part in which it is, or that it is a name and its number
abbrev pub where_words : AxisFault → List ℕ
where_words axis.NoEquals = []
where_words (axis.Unknown number) = codes "name "
where_words axis.NoLast = []
where_words axis.NoStep = []
where_words (axis.NoTicks part) = part_words part
where_words (axis.BadTime part why) = part_words part
where_words (axis.NoInstant part) = part_words part
where_words (axis.Beyond part) = part_words part
where_words (axis.OffGrid part) = part_words part
where_words axis.Order = []
where_words axis.StepOfZero = []

-- the number of a name
abbrev pub number_in : AxisFault → Option ℕ
number_in axis.NoEquals = None
number_in (axis.Unknown number) = Some number
number_in axis.NoLast = None
number_in axis.NoStep = None
number_in (axis.NoTicks part) = None
number_in (axis.BadTime part why) = None
number_in (axis.NoInstant part) = None
number_in (axis.Beyond part) = None
number_in (axis.OffGrid part) = None
number_in axis.Order = None
number_in axis.StepOfZero = None

abbrev pub number_words : Option ℕ → List ℕ
number_words None = []
number_words (Some number) = decimal number

-- the line: the words or the parameter, where in the words, what is wrong, and what to write
abbrev pub pieces_of : List ℕ → List ℕ → List ℕ → List ℕ → List ℕ → List (List ℕ)
pieces_of words place number what write =
    codes "study: " ∷ (words ∷ (codes ": " ∷ (place ∷ (number ∷ (what ∷ (write ∷ []))))))

-- the line of a name, counted from 1, that stands for no parameter, with the nearest that does
abbrev pub unknown_pieces : List ℕ → ℕ → Option (List ℕ) → List (List ℕ)
unknown_pieces words number near =
    codes "study: " ∷ words ∷ codes ": there is no parameter"
    ∷ quoted (Some (name_of (names_of words) (number - 1))) ∷ near_words near ∷ []

abbrev pub fault_pieces : MapFault → List (List ℕ)
fault_pieces (map.Late name) =
    pieces_of name [] [] (codes "would go beyond 4000 ticks") (codes ": end before")
fault_pieces (map.NoDelay name) =
    pieces_of name [] [] (codes "a delay that would begin at 0") (codes ": begin at one tick")
fault_pieces map.TooMany =
    pieces_of (codes "the map") [] [] (codes "more than 40000 cells") (codes ": take longer steps")

-- of a map by the words of x and, if there are any, of y
abbrev pub map_denial_pieces : List ℕ → List ℕ → MapDenial → List (List ℕ)
map_denial_pieces x y (denial.Words side why) =
    pieces_of (side_words x y side) (where_words why) (number_words (number_in why))
    (what_words why) []
map_denial_pieces x y (denial.Unknown side number near) =
    unknown_pieces (side_words x y side) number near
map_denial_pieces x y (denial.Twice name) =
    pieces_of name [] [] (codes "moves along both axes") (codes ": name it in one of them")
map_denial_pieces x y (denial.Fault why) = fault_pieces why
