-- The settings of a line's parameters are those of its terminals, and then those of its channels.
use Rattle.std.proofs.Common.{◌≡◌, ◌+◌, ◌<◌, ◌++◌, ℕ, List, [], ◌∷◌, length, take, get_or, refl}
use Rattle.std.proofs.Common.{sym, ap, ◌∙◌, append_assoc}
use Rattle.std.proofs.lemmas.List.{map-append, take_more, append-nil}
use Rattle.std.proofs.lemmas.Grind.{flat_map-append}
use Rattle.std.specs.Prelude.{map}
use Rattle.std.specs.List.{flat_map}
use Rattle.model_line.specs.Settings.{OwnedSetting, owned_by, line_settings, terminal_settings}
use Rattle.model_line.specs.Settings.{channel_settings, settings_of_terminals}
use Rattle.model_line.specs.Settings.{settings_of_channels}
use Rattle.model_line.specs.{declared.line.Scheme.Scheme, declared.line.Terminal.Terminal}
use Rattle.model_line.specs.{declared.line.Channel.Channel, declared.line.Owner.Owner}
use Rattle.model_line.specs.declared.line.Setting.{Setting}
use Rattle.model_line.specs.declared.line.Owner.TheVariants as owner

abbrev setting_in : OwnedSetting → Setting
setting_in s = s.setting

of_owner : (o : Owner) (ss : List Setting) → map setting_in (owned_by o ss) ≡ ss
of_owner o [] = refl
of_owner o (s ∷ ss) = ap (λ l. s ∷ l) (of_owner o ss)

module _ (s : Scheme) where
  of_terminals : (k : ℕ) (ts : List Terminal)
      → map setting_in (settings_of_terminals s k ts) ≡ flat_map (λ t. terminal_settings s t) ts
  of_terminals k [] = refl
  of_terminals k (t ∷ ts) =
      map-append setting_in (owned_by (owner.Terminal k) (terminal_settings s t))
      (settings_of_terminals s (k + 1) ts)
      ∙ ap (λ l. l ++ map setting_in (settings_of_terminals s (k + 1) ts))
      (of_owner (owner.Terminal k) (terminal_settings s t))
      ∙ ap (λ l. terminal_settings s t ++ l) (of_terminals (k + 1) ts)

  of_channels : (c : ℕ) (cs : List Channel)
      → map setting_in (settings_of_channels s c cs) ≡ flat_map (λ _. channel_settings s) cs
  of_channels c [] = refl
  of_channels c (h ∷ cs) =
      map-append setting_in (owned_by (owner.Channel c) (channel_settings s))
      (settings_of_channels s (c + 1) cs)
      ∙ ap (λ l. l ++ map setting_in (settings_of_channels s (c + 1) cs))
      (of_owner (owner.Channel c) (channel_settings s))
      ∙ ap (λ l. channel_settings s ++ l) (of_channels (c + 1) cs)

  pub in_order : (ts : List Terminal) (cs : List Channel)
      → flat_map (λ t. terminal_settings s t) ts ++ flat_map (λ _. channel_settings s) cs
      ≡ map setting_in (line_settings s ts cs)
  unfolding line_settings
  in_order ts cs =
      sym (map-append setting_in (settings_of_terminals s 0 ts) (settings_of_channels s 0 cs)
      ∙ ap (λ l. l ++ map setting_in (settings_of_channels s 0 cs)) (of_terminals 0 ts)
      ∙ ap (λ l. flat_map (λ t. terminal_settings s t) ts ++ l) (of_channels 0 cs))

  -- pushed behind one another
  pub settings_made : (ts : List Terminal) (cs : List Channel) (ts' : List Terminal)
      (cs' : List Channel) → ts' ≡ ts → cs' ≡ cs → (a b c : List Setting) → a ≡ []
      → b ≡ a ++ flat_map (λ t. terminal_settings s t) ts'
      → c ≡ b ++ flat_map (λ (_ : Channel). channel_settings s) cs'
      → c ≡ map setting_in (line_settings s ts cs)
  settings_made ts cs ts' cs' same_ts same_cs a b c none front all =
      all
      ∙ ap (λ (l : List Setting). l ++ flat_map (λ (_ : Channel). channel_settings s) cs')
      (front ∙ ap (λ (l : List Setting). l ++ flat_map (λ t. terminal_settings s t) ts') none
      ∙ ap (λ (l : List Terminal). flat_map (λ t. terminal_settings s t) l) same_ts)
      ∙ ap (λ (l : List Channel). flat_map (λ t. terminal_settings s t) ts
      ++ flat_map (λ (_ : Channel). channel_settings s) l) same_cs
      ∙ in_order ts cs

  -- those of one channel more
  pub one_channel_more : (cs : List Channel) (i : ℕ) → i < length cs
      → (start so_far new pushed : List Setting)
      → so_far ≡ start ++ flat_map (λ (_ : Channel). channel_settings s) (take i cs)
      → new ≡ so_far ++ pushed → pushed ≡ channel_settings s
      → new ≡ start ++ flat_map (λ (_ : Channel). channel_settings s) (take (i + 1) cs)
  one_channel_more cs i below start so_far new pushed is_so_far is_new is_pushed =
      let f : Channel → List Setting = λ (_ : Channel). channel_settings s in
      let none : Channel = record { from = 0; to = 0 } in
      let x : Channel = get_or cs i none in
      let more : flat_map f (take (i + 1) cs) ≡ flat_map f (take i cs) ++ channel_settings s =
      ap (λ (l : List Channel). flat_map f l) (take_more cs i none below)
      ∙ flat_map-append f (take i cs) (x ∷ [])
      ∙ ap (λ (l : List Setting). flat_map f (take i cs) ++ l) (append-nil (channel_settings s)) in
      is_new
      ∙ ap (λ (l : List Setting). so_far ++ l) is_pushed
      ∙ ap (λ (l : List Setting). l ++ channel_settings s) is_so_far
      ∙ append_assoc start (flat_map f (take i cs)) (channel_settings s)
      ∙ ap (λ (l : List Setting). start ++ l) (sym more)
