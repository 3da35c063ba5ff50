-- The candidate timings of a line.
use Rattle.std.specs.Prelude.{◌+◌, ◌-◌, ◌*◌, ◌&&◌, ◌==◌, ℕ, Bool, [], map, take, nat_le, nat_lt}
use Rattle.std.specs.Prelude.{if◌then◌else◌}
use Rattle.std.specs.List.{count_by, range_with_len}
use Rattle.model_line.specs.Parameters.{param_count, declared_ends}
use Rattle.model_line.specs.{declared.line.Line.Line, declared.line.Param.Param}
use Rattle.model_timing.specs.Timing.{TimingValues}

-- a parameter is free where its interval has more than one number
abbrev pub is_free : Param → Bool
is_free p = nat_lt p.least p.greatest

-- how many are free: m
abbrev pub free_count : Line → ℕ
free_count line = count_by is_free line.params.items

-- how many are free among those before a parameter
abbrev pub free_before : Line → ℕ → ℕ
free_before line param = count_by is_free (take param line.params.items)

-- the parameter is the i-th free one, the first being number 1
abbrev pub is_free_number : Line → ℕ → ℕ → Bool
is_free_number line i param =
    nat_lt (declared_ends line param).least (declared_ends line param).greatest
    && (free_before line param + 1 == i)

abbrev pub candidate_count : Line → ℕ
candidate_count line = 2 + 2 * free_count line

-- candidate 0 is all least, candidate 1 all greatest; then all least but the i-th free parameter,
-- for i from 1 to m; then all greatest but the i-th free parameter
unfoldable pub candidate_value : Line → ℕ → ℕ → ℕ
candidate_value line index param =
    let ends = declared_ends line param in
    if index == 0 then ends.least
    else if index == 1 then ends.greatest
    else if nat_le index (1 + free_count line)
    then (if is_free_number line (index - 1) param then ends.greatest else ends.least)
    else (if is_free_number line (index - 1 - free_count line) param then ends.least
    else ends.greatest)

-- a candidate as a timing; it has no steps
abbrev pub candidate : Line → ℕ → TimingValues
candidate line index = record {
  values = map (candidate_value line index) (range_with_len 0 (param_count line));
  steps = [];
}
