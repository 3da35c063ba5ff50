-- What a weak terminal sends and trips on, over its parts, and its echo.
use Rattle.std.proofs.Common.{◌≡◌, ℕ, true, refl, subst}
use Rattle.model_line.specs.declared.line.Line.{Line}
use Rattle.model_logic.specs.{Names.Names, Tree.Tree, Elements.is_weak}
use Rattle.model_logic.specs.Permissive.{echo, echo_wanted, weak_infeed_trip}
use Rattle.model_logic.specs.Permissive.{permissive_key, permissive_pilot}
use Rattle.model_plain.specs.Parts.{ahead, wanted_over, echo_over, weak_key_over}
use Rattle.model_plain.specs.Parts.{weak_pilot_over}

module _ (line : Line) (k : ℕ) (p : Tree) (weak : is_weak line k ≡ true) where
  pub weak_key_is : permissive_key line k p ≡ weak_key_over line k (ahead line k) (wanted_over line k p)
  unfolding permissive_key echo echo_wanted
  weak_key_is = rw weak refl

  pub weak_pilot_is : permissive_pilot line k p ≡ weak_pilot_over line k p (wanted_over line k p)
  unfolding permissive_pilot weak_infeed_trip echo_wanted
  weak_pilot_is = rw weak refl

  pub echo_is : echo line k p ≡ echo_over line k (wanted_over line k p)
  unfolding echo echo_wanted
  echo_is = rw weak refl

  -- its key names what its parts do
  names_key : Names line (permissive_key line k p)
      → Names line (weak_key_over line k (ahead line k) (wanted_over line k p))
  names_key names = subst (Names line) weak_key_is names

  pub names_ahead : Names line (permissive_key line k p) → Names line (ahead line k)
  unfolding Names
  names_ahead names = (names_key names).0

  pub names_wanted : Names line (permissive_key line k p) → Names line (wanted_over line k p)
  unfolding Names
  names_wanted names = (names_key names).1.0

  pub names_permission : Names line (permissive_key line k p) → Names line p
  unfolding Names
  names_permission names = (names_key names).1.0.0.0
