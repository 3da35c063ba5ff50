-- The names that the scripts so far have.
use Rattle.std.proofs.Common.{◌≡◌, ◌||◌, ℕ, Bool, List, map, ap, ◌∙◌}
use Rattle.std.proofs.lemmas.List.Folds.{list_any-append}
use Rattle.std.specs.Prelude.{option_map, option_to_list}
use Rattle.std.specs.List.{list_any}
use Rattle.std.specs.Str.{bytes_eq}
use Rattle.model_line.specs.declared.script.Script.{Script}
use Rattle.base_records.specs.declared.reading.Reading.{Reading}
use Rattle.base_records.specs.SoFar.{so_far_of}
use Rattle.file_tables.specs.script.Values.{ScriptValues, values_of}
use Rattle.file_tables.specs.script.Checks.{is_taken}
use Rattle.base_records.specs.ListLaws.{list_any-map}

-- a name is taken by a finished script or by the latest
pub taken_split : (r : Reading Script) (name : List ℕ) → is_taken (so_far_of values_of r) name
    ≡ (list_any (λ s. bytes_eq s.name name) r.done.items
    || list_any (λ s. bytes_eq s.name name) (option_to_list (option_map values_of r.latest)))
taken_split r name =
    let p : ScriptValues → Bool = λ s. bytes_eq s.name name in
    list_any-append p (map values_of r.done.items) (option_to_list (option_map values_of r.latest))
    ∙ ap (λ b. b || list_any p (option_to_list (option_map values_of r.latest)))
    (list_any-map values_of p r.done.items)
