-- What a line keeps of its terminals.
use Rattle.std.specs.Prelude.{◌≢◌, ◌<◌, ◌||◌, ℕ, Bool, true, false, not, List, [], map, get_or}
use Rattle.std.specs.List.{list_all}
use Rattle.model_line.specs.declared.line.Scheme.TheVariants.{Pott, Putt, Dcb, Dcub, Dtt}
use Rattle.model_line.specs.PlainNames.{is_plain_name}
use Rattle.model_line.specs.{declared.line.Terminal.Terminal, declared.line.Scheme.Scheme}

-- the names, in line order
abbrev pub names_of : List Terminal → List (List ℕ)
names_of ts = map (λ t. t.name) ts

-- each name is plain
abbrev pub are_plain_names : List Terminal → Bool
are_plain_names ts = list_all (λ t. is_plain_name t.name) ts

-- no two of the first n names are the same
abbrev pub NamesDiffer : List Terminal → ℕ → Type 0
NamesDiffer ts n =
    (j k : ℕ) → j < k → k < n → get_or (names_of ts) j [] ≢ get_or (names_of ts) k []

-- the schemes in which a terminal may be weak or guarded
abbrev pub has_flags : Scheme → Bool
has_flags Pott = true
has_flags Putt = false
has_flags Dcb = false
has_flags Dcub = true
has_flags Dtt = false

-- neither weak nor guarded
abbrev pub has_no_flag : Terminal → Bool
has_no_flag t = not (t.weak || t.guard)

-- terminals are weak or guarded in those schemes only
abbrev pub flags_fit : Scheme → List Terminal → Bool
flags_fit s ts = has_flags s || list_all has_no_flag ts
