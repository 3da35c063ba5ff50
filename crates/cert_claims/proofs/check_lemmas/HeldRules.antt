-- The rule that is held.
use Rattle.std.proofs.Common.{◌≡◌, ℕ, Bool, true, false, not, refl, Option, Some, None}
use Rattle.std.specs.Option.{is_some}
use Rattle.std.specs.Bool.{Decides}

-- whether there is none
pub none_told : (o : Option ℕ) (none : Bool) → is_some o ≡ not none → Decides none (o ≡ None)
none_told None true tells = (λ yes. refl, λ is. refl)
none_told None false tells = absurd (cc)
none_told (Some n) true tells = absurd (cc)
none_told (Some n) false tells = (λ yes. absurd (cc), λ is. absurd (cc))
