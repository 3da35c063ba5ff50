-- What a table of answers comes to.
use Rattle.std.specs.Prelude.{ℕ, zero, suc, ◌+◌, ◌-◌, ◌^◌, ◌==◌, Bool, ◌&&◌, min, List, [], ◌∷◌, ◌++◌}
use Rattle.std.specs.Prelude.{length, fold, codes, decimal, Option, None, Some, if◌then◌else◌}
use Rattle.std.specs.List.{concat, flat_map}
use Rattle.std.specs.Str.{bytes_eq}
use Rattle.base_records.specs.Fields.{is_empty}
use Rattle.base_text.specs.store.Number.{number_of}
use Rattle.call_columns.specs.Fields.{Fields, field_of}
use Rattle.call_columns.specs.declared.answers.{Counts.Counts, Source.Source}
use Rattle.call_columns.specs.declared.answers.Source.TheVariants.{Word, Numbers, Nothing}

-- the first of so many places at which this field stands
abbrev pub place_or : Option ℕ → Bool → ℕ → Option ℕ
place_or (Some before) is_here place = Some before
place_or None is_here place = if is_here then Some place else None

abbrev pub place_below : List ℕ → Fields → ℕ → Option ℕ
place_below name header zero = None
place_below name header (suc place) =
    place_or (place_below name header place) (bytes_eq (field_of header place) name) place

abbrev pub place_named : List ℕ → Fields → Option ℕ
place_named name header = place_below name header (length header)

-- where a table has its answers: as a word of each record, as three numbers, or nowhere
abbrev pub numbers_at : Option ℕ → Option ℕ → Option ℕ → Source
numbers_at (Some held) (Some fails) (Some unsure) = Numbers held fails unsure
numbers_at None fails unsure = Nothing
numbers_at (Some held) None unsure = Nothing
numbers_at (Some held) (Some fails) None = Nothing

abbrev pub word_or : Option ℕ → Source → Source
word_or (Some place) source = Word place
word_or None source = source

abbrev pub source_of : Fields → Source
source_of header = word_or (place_named (codes "answer") header)
    (numbers_at (place_named (codes "held") header) (place_named (codes "fails") header)
    (place_named (codes "open") header))

abbrev pub number_or_none : Option ℕ → ℕ
number_or_none None = 0
number_or_none (Some number) = number

abbrev pub none_counted : Counts
none_counted = record { held = 0; failing = 0; unsure = 0 }

-- of a record whose answer is this word
abbrev pub word_counted : List ℕ → Counts
word_counted word =
    if bytes_eq word (codes "held") then record { held = 1; failing = 0; unsure = 0 }
    else if bytes_eq word (codes "fails") then record { held = 0; failing = 1; unsure = 0 }
    else if bytes_eq word (codes "open") then record { held = 0; failing = 0; unsure = 1 }
    else none_counted

-- the obligations of a record
abbrev pub counted : Source → Fields → Counts
counted (Word place) row = word_counted (field_of row place)
counted (Numbers held fails unsure) row = record {
  held = number_or_none (number_of (field_of row held));
  failing = number_or_none (number_of (field_of row fails));
  unsure = number_or_none (number_of (field_of row unsure));
}
counted Nothing row = none_counted

-- a sum, which stands still at the greatest number of 64 bits
abbrev pub sum : ℕ → ℕ → ℕ
sum a b = min (a + b) (2 ^ 64 - 1)

abbrev pub sum_of : Counts → Counts → Counts
sum_of before more = record {
  held = sum before.held more.held;
  failing = sum before.failing more.failing;
  unsure = sum before.unsure more.unsure;
}

abbrev pub with_row : Source → Counts → Fields → Counts
with_row source before row = sum_of before (counted source row)

abbrev pub counts_of : Source → List Fields → Counts
counts_of source rows = fold (with_row source) none_counted rows

abbrev pub all_of : Counts → ℕ
all_of counts = sum (sum counts.held counts.failing) counts.unsure

abbrev pub many : ℕ → List ℕ
many count = if count == 1 then codes " obligation: " else codes " obligations: "

unfoldable pub number_words : ℕ → List ℕ → List ℕ
number_words number words = decimal number ++ words

unfoldable pub answers_of : Counts → List ℕ
answers_of counts = number_words counts.held (codes " held, ")
    ++ number_words counts.failing (codes " failing, ")
    ++ number_words counts.unsure (codes " open\n")

-- how many there are, and what is answered
unfoldable pub words_of : Counts → List ℕ
words_of counts =
    codes "\n" ++ number_words (all_of counts) (many (all_of counts)) ++ answers_of counts

abbrev pub sentence : Counts → List ℕ
sentence counts = if all_of counts == 0 then [] else words_of counts

-- where a fault is not held at a terminal
abbrev pub stretch : List ℕ → List ℕ → List ℕ → List ℕ
stretch fault terminal times = if is_empty times then []
    else concat (fault ∷ codes " at " ∷ terminal ∷ codes ": not held at " ∷ times ∷ codes " ms\n" ∷ [])

abbrev pub stretch_at : Option ℕ → Option ℕ → Option ℕ → Fields → List ℕ
stretch_at (Some fault) (Some terminal) (Some times) row =
    stretch (field_of row fault) (field_of row terminal) (field_of row times)
stretch_at None terminal times row = []
stretch_at (Some fault) None times row = []
stretch_at (Some fault) (Some terminal) None row = []

abbrev pub stretch_in : Fields → Fields → List ℕ
stretch_in header row = stretch_at (place_named (codes "fault") header)
    (place_named (codes "terminal") header) (place_named (codes "not_held_ms") header) row

abbrev pub summary : Fields → List Fields → List ℕ
summary header rows =
    sentence (counts_of (source_of header) rows) ++ flat_map (stretch_in header) rows
