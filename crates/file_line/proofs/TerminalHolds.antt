-- What the printed table of a terminal holds under each key.
use Rattle.std.proofs.Common.{◌≡◌, ◌||◌, ℕ, Bool, true, false, not, List, [], ◌∷◌, Some}
use Rattle.std.proofs.Common.{None, Ok, refl, ap, codes, map, get_or, ◌<◌}
use Rattle.toml.specs.Data.{string, Members, get_member}
use Rattle.model_line.specs.declared.line.Scheme.TheVariants.{Pott, Dcub}
use Rattle.model_line.specs.Settings.{zone1_settings, zone2_settings, reverse_settings}
use Rattle.model_line.specs.Settings.{undervoltage_settings, guard_settings, weak_settings}
use Rattle.model_line.specs.Settings.{scheme_settings, groups_with}
use Rattle.model_line.specs.{declared.line.Line.Line, Terminals.has_flags}
use Rattle.model_line.specs.{declared.line.Scheme.Scheme, declared.line.Owner.Owner}
use Rattle.file_line.specs.Canonical.{table_of, put_groups}
use Rattle.file_line.specs.Places.{Places, only_keys}
use Rattle.file_line.specs.{TerminalTables.terminal_keys, Times.group_key}
use Rattle.file_line.proofs.TimesBack.{value}

module _ (unit : ℕ) (line : Line) (some : 0 < unit) (o : Owner) (name : List ℕ) where
  -- the members of a terminal, by what it has
  abbrev pub members : Scheme → Bool → Bool → Members
  members s g w =
      put_groups unit line o (groups_with s g w) (table_of ((codes "name", string name) ∷ []))

  pub record Holds (places : Places) (s : Scheme) (g w : Bool) : Type 0 where
    pub known : only_keys places (terminal_keys s) (members s g w) ≡ Ok tt
    pub name_is : get_member (codes "name") (members s g w) ≡ Some (string name)
    pub zone1_is :
        get_member (group_key zone1_settings) (members s g w)
        ≡ value unit line o some zone1_settings
    pub zone2_is :
        get_member (group_key zone2_settings) (members s g w)
        ≡ value unit line o some zone2_settings
    pub reverse_is :
        get_member (group_key reverse_settings) (members s g w)
        ≡ value unit line o some reverse_settings
    pub undervoltage_is :
        get_member (group_key undervoltage_settings) (members s g w)
        ≡ value unit line o some undervoltage_settings
    pub guard_is :
        get_member (group_key (guard_settings true)) (members s g w)
        ≡ value unit line o some (guard_settings g)
    pub weak_is :
        get_member (group_key (weak_settings true)) (members s g w)
        ≡ value unit line o some (weak_settings w)
    pub scheme_is :
        get_member (group_key (scheme_settings s)) (members s g w)
        ≡ value unit line o some (scheme_settings s)

  -- what is found under each key, by the scheme and the flags that it lets
  all_found :
      (places : Places) (s : Scheme) (g w : Bool) → has_flags s || not (w || g) ≡ true
      → (only_keys places (terminal_keys s) (members s g w) ≡ Ok tt)
      × (map (λ key. get_member key (members s g w))
      (codes "name" ∷ map group_key (groups_with s true true))
      ≡ Some (string name) ∷ map (value unit line o some) (groups_with s g w))
  unfolding only_keys
  all_found places Pott true true h = (refl, refl)
  all_found places Pott true false h = (refl, refl)
  all_found places Pott false true h = (refl, refl)
  all_found places Pott false false h = (refl, refl)
  all_found places Dcub true true h = (refl, refl)
  all_found places Dcub true false h = (refl, refl)
  all_found places Dcub false true h = (refl, refl)
  all_found places Dcub false false h = (refl, refl)
  all_found places s false false h = (refl, refl)
  all_found places s true true h = absurd (cc)
  all_found places s true false h = absurd (cc)
  all_found places s false true h = absurd (cc)

  pub holds :
      (places : Places) (s : Scheme) (g w : Bool) → has_flags s || not (w || g) ≡ true
      → Holds places s g w
  holds places s g w h =
      let all = all_found places s g w h in
      record {
        known = all.0;
        name_is = ap (λ l. get_or l 0 None) all.1;
        zone1_is = ap (λ l. get_or l 1 None) all.1;
        zone2_is = ap (λ l. get_or l 2 None) all.1;
        reverse_is = ap (λ l. get_or l 3 None) all.1;
        undervoltage_is = ap (λ l. get_or l 4 None) all.1;
        guard_is = ap (λ l. get_or l 5 None) all.1;
        weak_is = ap (λ l. get_or l 6 None) all.1;
        scheme_is = ap (λ l. get_or l 7 None) all.1;
      }
