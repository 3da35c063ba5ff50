-- What holds of all scripts holds of the few that are asked about.
use Rattle.std.proofs.Common.{ℕ, List, [], ◌∷◌, Option, None, Some, IfSome, length, take, drop, option_map}
use Rattle.std.proofs.lemmas.List.Elements.{All-take, All-drop}
use Rattle.std.specs.List.{All}
use Rattle.std.specs.Prelude.{Bool, true, false, if◌then◌else◌}
use Rattle.std.specs.Str.{bytes_eq}
use Rattle.model_line.specs.declared.script.Script.{Script}
use Rattle.model_names.specs.NumbersByName.{script_named}
use Rattle.file_study.specs.declared.sweeps.group.Group.{Group}
use Rattle.call_work.specs.load.Few.{script_alone, scripts_named, scripts_of_fault}

module _ (P : Script → Type 0) where
  or_else : (b : Bool) (own : List Script) (other : Option (List Script)) → All P own
      → IfSome other (All P) → IfSome (if b then Some own else other) (All P)
  or_else true own other here there = here
  or_else false own other here there = there

  named_fit : (groups : List Group) (scripts : List Script) (name : List ℕ) → All P scripts
      → IfSome (scripts_named groups scripts name) (All P)
  named_fit [] scripts name all = tt
  named_fit (group ∷ more) scripts name all =
      or_else (bytes_eq group.name name) (take (length group.swept.items) scripts)
      (scripts_named more (drop (length group.swept.items) scripts) name)
      (All-take P (length group.swept.items) scripts all)
      (named_fit more (drop (length group.swept.items) scripts) name
      (All-drop P (length group.swept.items) scripts all))

  pub fault_fit : (groups : List Group) (scripts : List Script) (fault : Option (List ℕ))
      → All P scripts → IfSome (scripts_of_fault groups scripts fault) (All P)
  fault_fit groups scripts None all = all
  fault_fit groups scripts (Some name) all = named_fit groups scripts name all

  at_place : (scripts : List Script) (place : Option ℕ) → All P scripts
      → IfSome (option_map (λ i. take 1 (drop i scripts)) place) (All P)
  at_place scripts None all = tt
  at_place scripts (Some i) all = All-take P 1 (drop i scripts) (All-drop P i scripts all)

  pub alone_fit : (scripts : List Script) (name : Option (List ℕ)) → All P scripts
      → IfSome (script_alone scripts name) (All P)
  alone_fit scripts None all = all
  alone_fit scripts (Some name) all = at_place scripts (script_named scripts name) all
