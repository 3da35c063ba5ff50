-- Settings that stand in lists, and in groups of lists.
use Rattle.std.proofs.Common.{◌≡◌, ℕ, zero, suc, Bool, true, List, [], ◌∷◌, Option, Some, None, refl}
use Rattle.std.proofs.Common.{get_or, ◌∙◌}
use Rattle.std.specs.Prelude.{is_some}
use Rattle.std.specs.List.{list_any}
use Rattle.model_line.specs.Settings.{all_of, same_setting, setting_place}
use Rattle.model_line.specs.FirstPositionLaws.{is_some-position, list_any-append_left}
use Rattle.model_line.specs.FirstPositionLaws.{list_any-append_right}
use Rattle.model_line.specs.declared.line.Setting.{Setting}

-- what stands in group j stands in all of them
pub in_group : (p : Setting → Bool) (j : ℕ) (groups : List (List Setting))
    → list_any p (get_or groups j []) ≡ true → list_any p (all_of groups) ≡ true
in_group p j [] has = absurd (cc)
in_group p zero (group ∷ groups) has = list_any-append_left p group (all_of groups) has
in_group p (suc j) (group ∷ groups) has =
    list_any-append_right p group (all_of groups) (in_group p j groups has)

-- a setting that stands in a list has a place there
pub has_place : (ss : List Setting) (x : Setting) → list_any (same_setting x) ss ≡ true
    → (p : ℕ) × (setting_place ss x ≡ Some p)
has_place ss x has = from (setting_place ss x) (is_some-position (same_setting x) 0 ss ∙ has) where
  from : (o : Option ℕ) → is_some o ≡ true → (p : ℕ) × (o ≡ Some p)
  from None some = absurd (cc)
  from (Some p) some = (p, refl)
