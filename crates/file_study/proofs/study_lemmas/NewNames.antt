-- Names of faults, of which each is new.
use Rattle.std.proofs.Common.{◌≡◌, ℕ, true, false, List, [], ◌∷◌, map, Ok, Err, refl, ap}
use Rattle.std.specs.List.{list_any}
use Rattle.std.specs.Str.{bytes_eq}
use Rattle.model_line.specs.PlainNames.{is_plain_name}
use Rattle.base_records.specs.ListLaws.{list_any-map}
use Rattle.file_document.specs.declared.fault.DocumentFault.TheVariants as fault
use Rattle.file_study.specs.declared.study.stage.SweptFault.{SweptFault}
use Rattle.file_study.specs.study.Faults.{new_name, fault_values}

module _ (path name : List ℕ) (fs : List SweptFault) (plain : is_plain_name name ≡ true) where
  pub taken_name : list_any (λ f. bytes_eq f.name name) fs ≡ true
      → Err (fault.Twice path) ≡ new_name path (map (λ f. f.name) fs) name
  taken_name taken =
      rw (plain, list_any-map (λ (f : SweptFault). f.name) (λ other. bytes_eq other name) fs, taken)

  pub fresh_name : list_any (λ f. bytes_eq f.name name) fs ≡ false
      → Ok name ≡ new_name path (map (λ f. f.name) fs) name
  fresh_name free =
      rw (plain, list_any-map (λ (f : SweptFault). f.name) (λ other. bytes_eq other name) fs, free)

-- the names of faults are those of their values
pub names_same : (fs : List SweptFault)
    → map (λ f. f.name) (map fault_values fs) ≡ map (λ f. f.name) fs
names_same [] = refl
names_same (f ∷ fs) = ap (λ names. f.name ∷ names) (names_same fs)
