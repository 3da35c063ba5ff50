-- The scripts whose heads stand before.
use Rattle.std.proofs.Common.{◌≡◌, ◌||◌, ℕ, Bool, map, ap, ◌∙◌}
use Rattle.std.proofs.lemmas.List.Folds.{list_any-append}
use Rattle.std.specs.Prelude.{option_map, ◌==◌, option_to_list}
use Rattle.std.specs.List.{list_any}
use Rattle.base_records.specs.ListLaws.{list_any-map}
use Rattle.base_records.specs.declared.reading.Reading.{Reading}
use Rattle.base_records.specs.SoFar.{so_far_of}
use Rattle.judge_match.specs.{declared.matching.heads.Head.Head, matching.Heads.HeadValues, matching.Heads.values_of}
use Rattle.judge_match.specs.matching.Checks.{is_taken}

-- a finished head is of the script, or the latest
pub taken_split : (r : Reading Head) (script : ℕ) → is_taken (so_far_of values_of r) script
    ≡ (list_any (λ h. h.script == script) r.done.items
    || list_any (λ h. h.script == script) (option_to_list (option_map values_of r.latest)))
taken_split r script =
    let p : HeadValues → Bool = λ h. h.script == script in
    list_any-append p (map values_of r.done.items) (option_to_list (option_map values_of r.latest))
    ∙ ap (λ b. b || list_any p (option_to_list (option_map values_of r.latest)))
    (list_any-map values_of p r.done.items)
