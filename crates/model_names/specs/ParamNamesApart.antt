-- What the names of a line's parameters keep.
use Rattle.std.specs.Prelude.{◌≡◌, ◌≢◌, ◌<◌, ◌==◌, ℕ, Bool, true, false, List, length}
use Rattle.std.specs.Prelude.{not, Some, None}
use Rattle.std.specs.List.{list_all, position_from}
use Rattle.std.specs.Str.{bytes_eq}
use Rattle.model_line.specs.{declared.line.Line.Line, Parameters.param_count}
use Rattle.model_line.specs.NamesByNumber.{parameter_name}

-- the byte is none of these
abbrev pub has_no : ℕ → List ℕ → Bool
has_no byte bytes = list_all (λ b. not (b == byte)) bytes

-- no two parameters have one name; each has one, in which there is no `@`, and is found by it
pub record ParamNamesApart (line : Line) : Type 0 where
  pub differ : (i j : ℕ) → i < j → j < param_count line
      → parameter_name line i ≢ parameter_name line j
  pub some : (i : ℕ) → i < param_count line → 0 < length (parameter_name line i)
  pub no_at : (i : ℕ) → i < param_count line → has_no 64 (parameter_name line i) ≡ true
  pub found : (i : ℕ) → i < param_count line
      → position_from (λ p. bytes_eq p.name (parameter_name line i)) 0 line.params.items ≡ Some i
  pub none_with_at : (bytes : List ℕ) → has_no 64 bytes ≡ false
      → position_from (λ p. bytes_eq p.name bytes) 0 line.params.items ≡ None
