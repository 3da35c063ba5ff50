-- The fields of a record.
use Rattle.std.specs.Prelude.{ℕ, List, [], ◌∷◌, Option, Some, None, codes}
use Rattle.judge_match.specs.declared.matching.fields.Fields.{Fields}

-- the five fields of a record that has five
pub record Row : Type 0 where
  pub name : List ℕ
  pub tick : List ℕ
  pub terminal : List ℕ
  pub signal : List ℕ
  pub level : List ℕ

-- the record has five fields
abbrev pub row_in : List (List ℕ) → Option Row
row_in (a ∷ b ∷ c ∷ d ∷ e ∷ []) =
    Some (record { name = a; tick = b; terminal = c; signal = d; level = e })
row_in _ = None

-- the header has exactly these
abbrev pub header_record : List (List ℕ)
header_record =
    codes "script" ∷ codes "tick" ∷ codes "terminal" ∷ codes "signal" ∷ codes "level" ∷ []

-- what the code holds of them
abbrev pub row_of : Fields → Row
row_of f = record {
  name = f.name.now;
  tick = f.tick.now;
  terminal = f.terminal.now;
  signal = f.signal.now;
  level = f.level.now;
}
