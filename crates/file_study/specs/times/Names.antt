-- The names of an axis, parted by commas, and the parameters for which they stand.
use Rattle.std.specs.Prelude.{◌+◌, ◌==◌, ◌&&◌, ◌||◌, ◌++◌, ℕ, zero, suc, Bool, not, List, []}
use Rattle.std.specs.Prelude.{◌∷◌, Option, None, codes, drop, length, min, count_by}
use Rattle.std.specs.Prelude.{if◌then◌else◌}
use Rattle.std.specs.List.{position_or_len, before_first}
use Rattle.std.specs.{Str.bytes_eq, Option.option_or, Bool.then_some}
use Rattle.file_study.specs.times.Numbers.{is_point}
use Rattle.model_history.specs.Elements.{some_below}
use Rattle.model_line.specs.{declared.line.Line.Line, Parameters.param_count}
use Rattle.model_line.specs.NamesByNumber.{parameter_name}

abbrev pub is_comma : ℕ → Bool
is_comma byte = byte == 44

-- ---- the names of the list, counted from 0

-- behind the first comma from here on, or the end of the list
abbrev pub next_start : List ℕ → ℕ → ℕ
next_start names from = min (from + position_or_len is_comma (drop from names) + 1) (length names)

-- where name k begins
abbrev pub start_of : List ℕ → ℕ → ℕ
start_of names zero = 0
start_of names (suc k) = next_start names (start_of names k)

-- name k: the bytes from there to the next comma or the end of the list
abbrev pub name_of : List ℕ → ℕ → List ℕ
name_of names k = before_first is_comma (drop (start_of names k) names)

-- one more than there are commas
abbrev pub name_count : List ℕ → ℕ
name_count names = count_by is_comma names + 1

-- ---- the parameters for which a name stands

-- a parameter's name is that of its owner, a terminal or a channel, and behind the first point that
-- of the setting
abbrev pub owner_in : List ℕ → List ℕ
owner_in name = before_first is_point name

abbrev pub setting_in : List ℕ → List ℕ
setting_in name = drop (position_or_len is_point name) name

-- the parameter's own name, or `*` in place of its owner
abbrev pub stands_for : List ℕ → List ℕ → Bool
stands_for name param =
    bytes_eq name param
    || (bytes_eq (owner_in name) (codes "*") && bytes_eq (setting_in name) (setting_in param))

-- a name of the list stands for parameter i
abbrev pub is_meant : Line → List ℕ → ℕ → Bool
is_meant line names i =
    some_below (λ k. stands_for (name_of names k) (parameter_name line i)) (name_count names)

-- the name stands for some parameter
abbrev pub is_known : Line → List ℕ → Bool
is_known line name = some_below (λ i. stands_for name (parameter_name line i)) (param_count line)

-- ---- all of them

-- the numbers below n that pass the test, in order
abbrev pub those_below : (ℕ → Bool) → ℕ → List ℕ
those_below test zero = []
those_below test (suc n) = those_below test n ++ (if test n then n ∷ [] else [])

-- the parameters for which the names stand, in the line's order
abbrev pub params_of : Line → List ℕ → List ℕ
params_of line names = those_below (is_meant line names) (param_count line)

-- the first number below n that does not pass the test
abbrev pub first_failing : (ℕ → Bool) → ℕ → Option ℕ
first_failing test zero = None
first_failing test (suc n) = option_or (first_failing test n) (then_some (not (test n)) n)

-- the first name, counted from 0, that stands for no parameter
abbrev pub unknown_in : Line → List ℕ → Option ℕ
unknown_in line names =
    first_failing (λ k. is_known line (name_of names k)) (name_count names)
