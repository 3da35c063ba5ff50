-- Times, one after another.
use Rattle.std.proofs.Common.{◌≡◌, ◌≢◌, ◌+◌, ◌++◌, ◌<◌, ℕ, List, [], ◌∷◌, drop, length, get_or}
use Rattle.std.proofs.Common.{Err, refl}
use Rattle.std.proofs.lemmas.List.{drop_more}
use Rattle.toml.specs.{Data.Members, View.items_view, declared.value.Value.Value}
use Rattle.model_line.specs.{declared.bounds.Bounds.Bounds, declared.line.Setting.Setting}
use Rattle.model_line.specs.Settings.{time_key}
use Rattle.base_memory.specs.Gives.{◌>>=◌}
use Rattle.file_document.specs.declared.fault.DocumentFault.TheVariants as fault
use Rattle.file_line.specs.Places.{Places}
use Rattle.file_line.specs.{Times.ends_in, Times.time_at, Times.times_at}

-- an array of other than two items is no time
pub ends_not_two :
    (path : List ℕ) (unit fewest : ℕ) (vs : List Value) → length vs ≢ 2
    → ends_in path unit fewest (items_view vs) ≡ Err (fault.WrongKind path)
ends_not_two path unit fewest [] other = refl
ends_not_two path unit fewest (a ∷ []) other = refl
ends_not_two path unit fewest (a ∷ b ∷ []) other = absurd (other refl)
ends_not_two path unit fewest (a ∷ b ∷ c ∷ vs) other = refl

-- the next setting's time, and then those after it
pub times_more :
    (places : Places) (xs : List Setting) (i unit : ℕ) (ms : Members) (done : List Bounds)
    (d : Setting) → i < length xs
    → times_at places (drop i xs) unit ms done
    ≡ (time_at places (time_key (get_or xs i d)) unit 0 ms
    >>= λ time. times_at places (drop (i + 1) xs) unit ms (done ++ time ∷ []))
unfolding times_at
times_more places xs i unit ms done d h = rw (drop_more xs i d h)
