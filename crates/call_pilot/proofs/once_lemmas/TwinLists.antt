-- What holds place by place of scripts and another list holds of scripts of the same values.
use Rattle.std.proofs.Common.{◌≡◌, List, [], ◌∷◌, map}
use Rattle.std.specs.List.{AllZip}
use Rattle.model_line.specs.declared.script.Script.{Script}
use Rattle.file_tables.specs.script.Values.{values_of}
use Rattle.call_pilot.specs.top.SameTextLaws.{heads_same}

pub zip_on : {X : Type 0} (R S : Script → X → Type 0)
    → ((s r : Script) → values_of r ≡ values_of s → (x : X) → R s x → S r x)
    → (xs ys : List Script) → map values_of ys ≡ map values_of xs → (zs : List X)
    → AllZip R xs zs → AllZip S ys zs
zip_on R S on [] [] same [] zip = zip
zip_on R S on [] [] same (z ∷ zs) zip = absurd zip
zip_on R S on [] (y ∷ ys) same zs zip = absurd (cc)
zip_on R S on (x ∷ xs) [] same zs zip = absurd (cc)
zip_on R S on (x ∷ xs) (y ∷ ys) same [] zip = absurd zip
zip_on R S on (x ∷ xs) (y ∷ ys) same (z ∷ zs) zip =
    let heads = heads_same (values_of y) (values_of x) (map values_of ys) (map values_of xs) same in
    (on x y heads.0 z zip.0, zip_on R S on xs ys heads.1 zs zip.1)

-- what follows of both at each place
pub zip_then : {X Y : Type 0} (R S : X → Y → Type 0) → ((x : X) (y : Y) → R x y → S x y)
    → (xs : List X) (ys : List Y) → AllZip R xs ys → AllZip S xs ys
zip_then R S follows [] [] zip = zip
zip_then R S follows [] (y ∷ ys) zip = absurd zip
zip_then R S follows (x ∷ xs) [] zip = absurd zip
zip_then R S follows (x ∷ xs) (y ∷ ys) zip =
    (follows x y zip.0, zip_then R S follows xs ys zip.1)
