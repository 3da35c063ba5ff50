-- Laws of what the records so far say.
use Rattle.std.specs.Prelude.{◌≡◌, ◌++◌, Option, None, Some, map, option_map, refl, option_to_list}
use Rattle.std.proofs.Common.{ap, ◌∙◌}
use Rattle.std.proofs.lemmas.List.{map-append}
use Rattle.base_records.specs.declared.reading.Reading.{Reading}
use Rattle.base_records.specs.SoFar.{all_of, so_far_of}

latest_seen : {X V : Type 0} (view : X → V) (latest : Option X)
    → map view (option_to_list latest) ≡ option_to_list (option_map view latest)
latest_seen view None = refl
latest_seen view (Some x) = refl

-- all that a reading holds is all that it says
pub all_seen : {X V : Type 0} (view : X → V) (r : Reading X)
    → map view (r.done.items ++ option_to_list r.latest) ≡ all_of (so_far_of view r)
all_seen view r =
    map-append view r.done.items (option_to_list r.latest)
    ∙ ap (λ latest. map view r.done.items ++ latest) (latest_seen view r.latest)
