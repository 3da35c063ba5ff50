-- A script of the same values stands at the same place of a list of the same values.
use Rattle.std.proofs.Common.{◌≡◌, ℕ, zero, suc, List, [], ◌∷◌, Some, map, refl, sym, ◌∙◌, ap}
use Rattle.std.proofs.lemmas.Option.{same_Some}
use Rattle.std.specs.Prelude.{slice_get}
use Rattle.model_line.specs.declared.script.Script.{Script}
use Rattle.file_tables.specs.script.Values.{values_of}
use Rattle.call_pilot.specs.top.SameTextLaws.{heads_same}

-- a script of the same values, at the same place
pub record Twin (ys : List Script) (i : ℕ) (x : Script) : Type 0 where
  pub script : Script
  pub at : slice_get ys i ≡ Some script
  pub values : values_of x ≡ values_of script

pub twin : (xs ys : List Script) → map values_of xs ≡ map values_of ys → (i : ℕ) (x : Script)
    → slice_get xs i ≡ Some x → Twin ys i x
twin [] ys same i x at = absurd (cc)
twin (z ∷ xs) [] same i x at = absurd (cc)
twin (z ∷ xs) (y ∷ ys) same zero x at =
    let heads = heads_same (values_of z) (values_of y) (map values_of xs) (map values_of ys) same in
    record { script = y; at = refl; values = ap values_of (sym (same_Some z x at)) ∙ heads.0 }
twin (z ∷ xs) (y ∷ ys) same (suc i) x at =
    let heads = heads_same (values_of z) (values_of y) (map values_of xs) (map values_of ys) same in
    let later = twin xs ys heads.1 i x at in
    record { script = later.script; at = later.at; values = later.values }
