-- Laws of the rails of a value that may be unknown.
use Rattle.std.specs.Prelude.{◌≡◌, Bool, true, false, IsTrue, refl}
use Rattle.std.proofs.Common.{◌∙◌, sym, ap}
use Rattle.model_history.specs.Rails.{Rails, IsSound}
use Rattle.run_signal.specs.declared.tern.Tern.{Tern}
use Rattle.run_signal.specs.declared.tern.Tern.TheVariants.{Zero, One, Unknown}
use Rattle.run_signal.specs.Terns.{tern_rails, tern_with}

-- what must be may be
pub tern_sound : (x : Tern) → IsSound (tern_rails x)
tern_sound Zero on = on
tern_sound One on = on
tern_sound Unknown on = refl

-- a value is told by its rails
pub tern_told : (x : Tern) → tern_with (tern_rails x) ≡ x
tern_told Zero = refl
tern_told One = refl
tern_told Unknown = refl

-- and no two values have the same
pub tern_once : (x y : Tern) → tern_rails x ≡ tern_rails y → x ≡ y
tern_once x y same = sym (tern_told x) ∙ ap tern_with same ∙ tern_told y

rails_by : (must may : Bool) → (IsTrue must → IsTrue may)
    → let rails : Rails = record { must = must; may = may } in tern_rails (tern_with rails) ≡ rails
rails_by true true sound = refl
rails_by true false sound = absurd (let off : false ≡ true = sound refl in cc)
rails_by false true sound = refl
rails_by false false sound = refl

-- each pair of which what must be may be is that of a value
pub rails_told : (r : Rails) → IsSound r → tern_rails (tern_with r) ≡ r
rails_told r sound = rails_by r.must r.may sound
