-- The few obligations that are asked about: those of the scripts of a fault, or of one script, and of one
-- terminal, each by its name; all where there is none.
use Rattle.std.specs.Prelude.{◌∷◌, ℕ, List, [], Option, None, Some, drop, length, option_map, take}
use Rattle.std.specs.Prelude.{if◌then◌else◌}
use Rattle.std.specs.Str.{bytes_eq}
use Rattle.model_line.specs.{declared.line.Line.Line, declared.script.Script.Script}
use Rattle.model_names.specs.NumbersByName.{script_named, terminal_named}
use Rattle.file_study.specs.declared.sweeps.group.Group.{Group}

-- the scripts of the first fault of this name; those of each fault stand one after another
abbrev pub scripts_named : List Group → List Script → List ℕ → Option (List Script)
scripts_named [] scripts name = None
scripts_named (group ∷ more) scripts name =
    if bytes_eq group.name name then Some (take (length group.swept.items) scripts)
    else scripts_named more (drop (length group.swept.items) scripts) name

abbrev pub scripts_of_fault : List Group → List Script → Option (List ℕ) → Option (List Script)
scripts_of_fault groups scripts None = Some scripts
scripts_of_fault groups scripts (Some name) = scripts_named groups scripts name

-- the first script of this name alone
abbrev pub script_alone : List Script → Option (List ℕ) → Option (List Script)
script_alone scripts None = Some scripts
script_alone scripts (Some name) =
    option_map (λ i. take 1 (drop i scripts)) (script_named scripts name)

-- the terminal of this name
abbrev pub number_of_terminal : Line → Option (List ℕ) → Option (Option ℕ)
number_of_terminal line None = Some None
number_of_terminal line (Some name) = option_map Some (terminal_named line name)
