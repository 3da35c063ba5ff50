-- The records of a table: each a name and the parameters that move together under it.
use Rattle.std.specs.Prelude.{◌≡◌, ◌-◌, ◌==◌, ◌++◌, ◌&&◌, ⊤, ℕ, zero, suc, Bool, not, List, []}
use Rattle.std.specs.Prelude.{◌∷◌, map, if◌then◌else◌, codes}
use Rattle.std.specs.{List.list_all, Str.bytes_eq}
use Rattle.model_history.specs.{Elements.some_below, Rails.Ends}
use Rattle.model_line.specs.{declared.line.Line.Line, NamesByNumber.parameter_name}
use Rattle.model_line.specs.Parameters.{declared_ends, is_delay, param_count}
use Rattle.file_study.specs.times.{Names.params_of, Names.setting_in, Parts.names_of}
use Rattle.judge_choose.specs.{declared.setting.Setting.Setting, Positions.IsSetting}
use Rattle.call_choose.specs.{declared.named.Named.Named, Named.IsInterval}

-- a name, and parameters by their numbers
pub record Row : Type 0 where
  pub name : List ℕ
  pub params : List ℕ

-- the interval of the first of them
abbrev pub first_ends : Line → List ℕ → Ends
first_ends line [] = record { least = 0; greatest = 0 }
first_ends line (param ∷ params) = declared_ends line param

-- all are declared with one interval
abbrev pub has_ends : Line → Ends → ℕ → Bool
has_ends line ends param =
    ((declared_ends line param).least == ends.least)
    && ((declared_ends line param).greatest == ends.greatest)

abbrev pub are_alike : Line → List ℕ → Bool
are_alike line params = list_all (has_ends line (first_ends line params)) params

-- a parameter by itself, under its own name
abbrev pub row_alone : Line → ℕ → Row
row_alone line param = record { name = parameter_name line param; params = param ∷ [] }

-- the parameters of a word move together where they are declared with one interval, else each by
-- itself
abbrev pub rows_by : Line → List ℕ → List ℕ → List Row
rows_by line word params =
    if are_alike line params then record { name = word; params = params } ∷ []
    else map (row_alone line) params

abbrev pub rows_of_word : Line → List ℕ → List Row
rows_of_word line word = rows_by line word (params_of line (names_of word))

-- ---- where no setting is named: each that is no delay, under `*`

-- no parameter before this one has the same setting
abbrev pub is_first : Line → ℕ → Bool
is_first line i =
    not (some_below (λ j. bytes_eq (setting_in (parameter_name line j))
    (setting_in (parameter_name line i))) i)

abbrev pub is_own : Line → ℕ → Bool
is_own line i = not (is_delay line i) && is_first line i

-- `*` in place of its terminal
abbrev pub star_word : Line → ℕ → List ℕ
star_word line i = codes "*" ++ setting_in (parameter_name line i)

-- of the first n parameters
abbrev pub own_below : Line → ℕ → List (List ℕ)
own_below line zero = []
own_below line (suc n) =
    own_below line n ++ (if is_own line n then star_word line n ∷ [] else [])

abbrev pub own_words : Line → List (List ℕ)
own_words line = own_below line (param_count line)

abbrev pub words_or_own : Line → List (List ℕ) → List (List ℕ)
words_or_own line [] = own_words line
words_or_own line (word ∷ words) = word ∷ words

-- ---- the same as settings that a range is looked for

-- the name, the declared interval, and the setting of a record: it can begin up to where it ends at
-- 4,000 ticks
pub record IsRow (line : Line) (row : Row) (named : Named) (setting : Setting) : Type 0 where
  pub name : named.name.items ≡ row.name
  pub least : named.least ≡ (first_ends line row.params).least
  pub greatest : named.greatest ≡ (first_ends line row.params).greatest
  pub params : setting.params.items ≡ row.params
  pub declared : setting.declared ≡ named.least
  pub last : setting.last ≡ 4000 - (named.greatest - named.least)
  pub interval : IsInterval named
  pub can_move : IsSetting line setting

abbrev pub AreRows : Line → List Row → List Named → List Setting → Type 0
AreRows line [] [] [] = ⊤
AreRows line [] [] (setting ∷ settings) = ⊥
AreRows line [] (named ∷ names) settings = ⊥
AreRows line (row ∷ rows) [] settings = ⊥
AreRows line (row ∷ rows) (named ∷ names) [] = ⊥
AreRows line (row ∷ rows) (named ∷ names) (setting ∷ settings) =
    IsRow line row named setting × AreRows line rows names settings
