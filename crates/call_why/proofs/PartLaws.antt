-- The role of a gate by the formulas of named parts is its role by the trees of their roles.
use Rattle.std.proofs.Common.{◌≡◌, ℕ, List, [], ◌∷◌, refl, ap, ◌∙◌}
use Rattle.std.proofs.lemmas.List.Elements.{All-head, All-tail}
use Rattle.std.specs.Prelude.{Option, Some, if◌then◌else◌}
use Rattle.std.specs.List.{All}
use Rattle.model_line.specs.declared.line.Line.{Line}
use Rattle.model_logic.specs.{Tree.Tree, SameTree.same_tree}
use Rattle.model_plain.specs.{declared.role.Role.Role, declared.role.NamedPart.NamedPart}
use Rattle.model_plain.specs.Roles.{AreNamedParts, HasItsTree, roles_of}
use Rattle.net_gates.specs.{declared.gate.Gate.Gate, Formulas.formula_of}
use Rattle.draw_gates.specs.roles.Lookup.{has_role, role_among, role_by}

module _ (line : Line) (gates : List Gate) (i : ℕ) where
  by_each : (parts : List NamedPart) → All (HasItsTree line) parts
      → role_by gates i parts ≡ role_among line gates i (roles_of parts)
  unfolding HasItsTree
  by_each [] all = refl
  by_each (p ∷ ps) all =
      ap (λ (t : Tree). if same_tree (formula_of gates i) t then Some p.role
      else role_by gates i ps) (All-head (HasItsTree line) p ps all)
      ∙ ap (λ (r : Option Role). if has_role line gates p.role i then Some p.role else r)
      (by_each ps (All-tail (HasItsTree line) p ps all))

  pub by_roles : (roles : List Role) (parts : List NamedPart) → AreNamedParts line roles parts
      → role_by gates i parts ≡ role_among line gates i roles
  by_roles roles parts are = by_each parts are.stand ∙ ap (role_among line gates i) are.are
