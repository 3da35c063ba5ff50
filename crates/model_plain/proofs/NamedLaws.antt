-- One named part more.
use Rattle.std.proofs.Common.{◌≡◌, ◌++◌, List, [], ◌∷◌, refl, ap, ◌∙◌}
use Rattle.std.proofs.lemmas.List.{map-append, append_assoc}
use Rattle.std.proofs.lemmas.List.Elements.{All-nil, All-cons, All-append}
use Rattle.model_line.specs.declared.line.Line.{Line}
use Rattle.model_plain.specs.declared.formula.Formula.{Formula}
use Rattle.model_plain.specs.{declared.role.Role.Role, declared.role.NamedPart.NamedPart}
use Rattle.model_plain.specs.Formulas.{own_tree}
use Rattle.model_plain.specs.Roles.{AreNamedParts, HasItsTree, role_tree}

pub named_push : (line : Line) (roles : List Role) (role : Role) (parts : List NamedPart)
    (f : Formula) → AreNamedParts line roles parts → own_tree f ≡ role_tree line role
    → AreNamedParts line (roles ++ role ∷ []) (parts ++ record { role = role; formula = f } ∷ [])
unfolding HasItsTree
named_push line roles role parts f all is =
    let last : NamedPart = record { role = role; formula = f } in
    record {
      are = map-append (λ p. p.role) parts (last ∷ []) ∙ ap (λ rs. rs ++ role ∷ []) all.are;
      stand =
          All-append (HasItsTree line) parts (last ∷ []) all.stand
          (All-cons (HasItsTree line) last [] is (All-nil (HasItsTree line)));
    }

-- what is added one after another is added at once
pub one_more : {A : Type 0} (xs : List A) (a : A) (ys : List A)
    → xs ++ a ∷ [] ++ ys ≡ xs ++ (a ∷ ys)
one_more xs a ys = append_assoc xs (a ∷ []) ys

pub no_named : (line : Line) → AreNamedParts line [] []
no_named line = record { are = refl; stand = All-nil (HasItsTree line) }
