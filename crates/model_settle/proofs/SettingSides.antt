-- Each setting of a terminal is asked for at its side's end.
use Rattle.std.proofs.Common.{◌≡◌, ℕ, zero, suc, ◌+◌, ◌<◌, Bool, true, false, List, [], ◌∷◌}
use Rattle.std.proofs.Common.{length, take, get_or, cond, Some, refl, sym, ap, ◌∙◌}
use Rattle.std.proofs.Common.{arith, rules}
use Rattle.std.proofs.lemmas.Bool.{and_parts}
use Rattle.std.proofs.lemmas.List.{get_or-map, get_or_default}
use Rattle.std.specs.Prelude.{unwrap_or, option_map}
use Rattle.std.specs.List.{position_from, list_any}
use denote.Enum.Bare.{same_true}
use Rattle.model_line.specs.Settings.{OwnedSetting, line_settings, settings_of_terminals}
use Rattle.model_line.specs.Settings.{terminal_settings, groups_with, all_of, is_owned_setting}
use Rattle.model_line.specs.Settings.{same_setting, same_owner}
use Rattle.model_line.specs.Parameters.{param_number, terminal_count}
use Rattle.model_line.specs.{contracts.line.Setting.the_type, declared.line.Line.Line}
use Rattle.model_line.specs.{declared.line.Terminal.Terminal, declared.line.Owner.Owner}
use Rattle.model_line.specs.{declared.line.Setting.Setting, declared.line.Setting.TheVariants.Delay}
use Rattle.model_line.specs.declared.line.Owner.TheVariants as owner
use Rattle.model_line.specs.SettingPlaceLaws.{has_place}
use Rattle.model_logic.specs.Elements.{is_guarded, is_weak, setting_of}
use Rattle.model_logic.specs.Laws.{LineLaws}
use Rattle.model_settle.specs.Sides.{Rail, IsTakenAt}
use Rattle.model_settle.specs.Schemes.{end_for, setting_at, scheme_sides}

-- the test passes at the place that is found
found_passes : {K : Type 0} (p : K → Bool) (n i : ℕ) (xs : List K) (d : K)
    → position_from p n xs ≡ Some i
    → (j : ℕ) × (i ≡ n + j) × (j < length xs) × (p (get_or xs j d) ≡ true)
found_passes p n i [] d e = absurd (cc)
found_passes p n i (x ∷ xs) d e =
    here (p x) refl e (found_passes p (n + 1) i xs d) where
      here : (b : Bool) → p x ≡ b → cond b (Some n) (position_from p (n + 1) xs) ≡ Some i
          → (position_from p (n + 1) xs ≡ Some i
          → (j : ℕ) × (i ≡ n + 1 + j) × (j < length xs) × (p (get_or xs j d) ≡ true))
          → (j : ℕ) × (i ≡ n + j) × (j < length (x ∷ xs)) × (p (get_or (x ∷ xs) j d) ≡ true)
      here true passes f rest =
          let same : n ≡ i = cc in
          (zero, (let g : i ≡ n + zero = omega arith in g), omega arith, passes)
      here false passes f rest =
          let (j, is, lt, on) = rest f in
          let at : i ≡ n + 1 + j = is in
          let below : j < length xs = lt in
          (suc j, (let g : i ≡ n + suc j = omega arith in g), omega arith, on)

module _ (line : Line) where
  number_tells : (o : Owner) (x : Setting) (i : ℕ) → param_number line o x ≡ Some i
      → setting_at line i ≡ x
  number_tells o x i number =
      let all : List OwnedSetting =
      line_settings line.scheme line.terminals.items line.channels.items in
      let d : OwnedSetting = record { owner = o; setting = Delay } in
      let (j, is, lt, on) = found_passes (is_owned_setting o x) 0 i all d number in
      let e : j ≡ i = omega (arith, is) in
      let parts = and_parts (same_owner o (get_or all j d).owner)
      (same_setting x (get_or all j d).setting) on in
      let same : x ≡ (get_or all j d).setting =
      same_true the_type (search rules) x (get_or all j d).setting parts.1 in
      ap (setting_at line) (sym e) ∙ get_or-map (λ s. s.setting) all j d Delay lt ∙ sym same

  module _ (laws : LineLaws) (rail : Rail) (k : ℕ) (kn : k < terminal_count line) where
    taken_by_number : (x : Setting) (i : ℕ) → param_number line (owner.Terminal k) x ≡ Some i
        → IsTakenAt (scheme_sides line rail) (setting_of line (owner.Terminal k) x) (end_for rail x)
    unfolding setting_of
    taken_by_number x i number =
        ap (λ n. end_for rail (setting_at line n)) (ap (λ o. unwrap_or o 0) number)
        ∙ ap (end_for rail) (number_tells (owner.Terminal k) x i number)

    pub taken : (x : Setting)
        → list_any (same_setting x)
        (all_of (groups_with line.scheme (is_guarded line k) (is_weak line k))) ≡ true
        → IsTakenAt (scheme_sides line rail) (setting_of line (owner.Terminal k) x) (end_for rail x)
    taken x has =
        let ts : List Terminal = line.terminals.items in
        let d : Terminal = record { name = []; weak = false; guard = false } in
        let t : Terminal = get_or ts k d in
        let is : t ≡ get_or ts k t = get_or_default ts k d t kn in
        let guard : is_guarded line k ≡ t.guard = get_or-map (λ u. u.guard) ts k d false kn in
        let weak : is_weak line k ≡ t.weak = get_or-map (λ u. u.weak) ts k d false kn in
        let place = has_place (terminal_settings line.scheme t) x (rw (← guard, ← weak) has) in
        taken_by_number x (length (settings_of_terminals line.scheme 0 (take k ts)) + place.0)
        (laws.parameters.of_terminal line k x t kn is
        ∙ ap (option_map (λ i. length (settings_of_terminals line.scheme 0 (take k ts)) + i)) place.1)
