-- The number of a parameter: what stands before its owner, and its place there.
use Rattle.std.proofs.Common.{◌≡◌, ◌≢◌, ◌&&◌, ◌||◌, ℕ, zero, suc, ◌+◌, ◌*◌, ◌<◌, false, List, []}
use Rattle.std.proofs.Common.{◌∷◌, ◌++◌, length, take, get_or, cond, Option, Some, refl, sym, ap}
use Rattle.std.proofs.Common.{◌∙◌, arith, length-append, ne_eqb}
use Rattle.std.specs.Prelude.{option_map, unwrap_or}
use Rattle.std.specs.List.{position_from, list_any}
use Rattle.model_line.specs.Settings.{OwnedSetting, owned_by, settings_of_terminals}
use Rattle.model_line.specs.Settings.{settings_of_channels, terminal_settings, channel_settings}
use Rattle.model_line.specs.Settings.{line_settings, is_owned_setting, same_owner, same_setting}
use Rattle.model_line.specs.Settings.{setting_number, setting_place}
use Rattle.model_line.specs.FirstPositionLaws.{list_any-append_false, position_from-append_none}
use Rattle.model_line.specs.FirstPositionLaws.{position_from-none_behind, position_from-later}
use Rattle.model_line.specs.NumberLaws.{same_owner-refl, length-owned_by}
use Rattle.model_line.specs.Parameters.{param_number}
use Rattle.model_line.specs.{declared.line.Line.Line, declared.line.Scheme.Scheme}
use Rattle.model_line.specs.{declared.line.Terminal.Terminal, declared.line.Channel.Channel}
use Rattle.model_line.specs.{declared.line.Owner.Owner, declared.line.Setting.Setting}
use Rattle.model_line.specs.{declared.line.Setting.TheVariants.Delay, Intervals.delay_number_of}
use Rattle.model_line.specs.declared.line.Owner.TheVariants as owner

module _ (x : Setting) where
  -- among the settings of its own owner
  position_from-owned_by :
      (o : Owner) (n : ℕ) (ss : List Setting) →
      position_from (is_owned_setting o x) n (owned_by o ss) ≡ position_from (same_setting x) n ss
  position_from-owned_by o n [] = refl
  position_from-owned_by o n (s ∷ ss) =
      rw same_owner-refl
      (ap (λ r. cond (same_setting x s) (Some n) r) (position_from-owned_by o (n + 1) ss))

  -- another owner has none
  other_owner :
      (o q : Owner) → same_owner o q ≡ false → (ss : List Setting) →
      list_any (is_owned_setting o x) (owned_by q ss) ≡ false
  other_owner o q h [] = refl
  other_owner o q h (s ∷ ss) =
      ap (λ b. (b && same_setting x s) || list_any (is_owned_setting o x) (owned_by q ss)) h
      ∙ other_owner o q h ss

  module _ (s : Scheme) where
    -- terminal k is none of those from j on
    no_terminal_below :
        (k j : ℕ) → k < j → (ts : List Terminal) →
        list_any (is_owned_setting (owner.Terminal k) x) (settings_of_terminals s j ts) ≡ false
    no_terminal_below k j lt [] = refl
    no_terminal_below k j lt (t ∷ ts) =
        let ne : k ≢ j = omega arith in
        list_any-append_false (is_owned_setting (owner.Terminal k) x)
        (owned_by (owner.Terminal j) (terminal_settings s t))
        (settings_of_terminals s (j + 1) ts)
        (other_owner (owner.Terminal k) (owner.Terminal j) (ne_eqb k j ne)
        (terminal_settings s t))
        (no_terminal_below k (j + 1) (omega arith) ts)

    -- channel c is none of those from j on
    no_channel_below :
        (c j : ℕ) → c < j → (cs : List Channel) →
        list_any (is_owned_setting (owner.Channel c) x) (settings_of_channels s j cs) ≡ false
    no_channel_below c j lt [] = refl
    no_channel_below c j lt (d ∷ cs) =
        let ne : c ≢ j = omega arith in
        list_any-append_false (is_owned_setting (owner.Channel c) x)
        (owned_by (owner.Channel j) (channel_settings s)) (settings_of_channels s (j + 1) cs)
        (other_owner (owner.Channel c) (owner.Channel j) (ne_eqb c j ne) (channel_settings s))
        (no_channel_below c (j + 1) (omega arith) cs)

    no_terminal_in_channels :
        (k j : ℕ) (cs : List Channel) →
        list_any (is_owned_setting (owner.Terminal k) x) (settings_of_channels s j cs) ≡ false
    no_terminal_in_channels k j [] = refl
    no_terminal_in_channels k j (d ∷ cs) =
        list_any-append_false (is_owned_setting (owner.Terminal k) x)
        (owned_by (owner.Channel j) (channel_settings s)) (settings_of_channels s (j + 1) cs)
        (other_owner (owner.Terminal k) (owner.Channel j) refl (channel_settings s))
        (no_terminal_in_channels k (j + 1) cs)

    no_channel_in_terminals :
        (c j : ℕ) (ts : List Terminal) →
        list_any (is_owned_setting (owner.Channel c) x) (settings_of_terminals s j ts) ≡ false
    no_channel_in_terminals c j [] = refl
    no_channel_in_terminals c j (t ∷ ts) =
        list_any-append_false (is_owned_setting (owner.Channel c) x)
        (owned_by (owner.Terminal j) (terminal_settings s t))
        (settings_of_terminals s (j + 1) ts)
        (other_owner (owner.Channel c) (owner.Terminal j) refl (terminal_settings s t))
        (no_channel_in_terminals c (j + 1) ts)

    -- behind the terminals before it
    in_terminals :
        (ts : List Terminal) (j k n : ℕ) (d : Terminal) → k < length ts →
        position_from (is_owned_setting (owner.Terminal (j + k)) x) n (settings_of_terminals s j ts)
        ≡ position_from (same_setting x) (n + length (settings_of_terminals s j (take k ts)))
        (terminal_settings s (get_or ts k d))
    in_terminals [] j k n d lt = absurd (omega arith)
    in_terminals (t ∷ ts) j zero n d lt =
        let e : j ≡ j + zero = omega arith in
        let m : n ≡ n + 0 = omega arith in
        ap (λ i. position_from (is_owned_setting (owner.Terminal i) x) n
        (settings_of_terminals s j (t ∷ ts))) (sym e)
        ∙ position_from-none_behind (is_owned_setting (owner.Terminal j) x) n
        (owned_by (owner.Terminal j) (terminal_settings s t))
        (settings_of_terminals s (j + 1) ts) (no_terminal_below j (j + 1) (omega arith) ts)
        ∙ position_from-owned_by (owner.Terminal j) n (terminal_settings s t)
        ∙ ap (λ i. position_from (same_setting x) i (terminal_settings s t)) m
    in_terminals (t ∷ ts) j (suc k) n d lt =
        let e : j + 1 + k ≡ j + suc k = omega arith in
        let ne : j + suc k ≢ j = omega arith in
        let less : k < length ts = omega arith in
        let own : List OwnedSetting = owned_by (owner.Terminal j) (terminal_settings s t) in
        let front : List OwnedSetting = settings_of_terminals s (j + 1) (take k ts) in
        let m : n + length own + length front ≡ n + length (own ++ front) =
        omega (arith, length-append own front) in
        position_from-append_none (is_owned_setting (owner.Terminal (j + suc k)) x) n own
        (settings_of_terminals s (j + 1) ts)
        (other_owner (owner.Terminal (j + suc k)) (owner.Terminal j) (ne_eqb (j + suc k) j ne)
        (terminal_settings s t))
        ∙ ap (λ i. position_from (is_owned_setting (owner.Terminal i) x) (n + length own)
        (settings_of_terminals s (j + 1) ts)) (sym e)
        ∙ in_terminals ts (j + 1) k (n + length own) d less
        ∙ ap (λ i. position_from (same_setting x) i (terminal_settings s (get_or ts k d))) m

    -- behind the channels before it
    in_channels :
        (cs : List Channel) (j c n : ℕ) → c < length cs →
        position_from (is_owned_setting (owner.Channel (j + c)) x) n (settings_of_channels s j cs)
        ≡ position_from (same_setting x) (n + c * length (channel_settings s)) (channel_settings s)
    in_channels [] j c n lt = absurd (omega arith)
    in_channels (h ∷ cs) j zero n lt =
        let e : j ≡ j + zero = omega arith in
        let m : n ≡ n + zero * length (channel_settings s) = omega arith in
        ap (λ i. position_from (is_owned_setting (owner.Channel i) x) n
        (settings_of_channels s j (h ∷ cs))) (sym e)
        ∙ position_from-none_behind (is_owned_setting (owner.Channel j) x) n
        (owned_by (owner.Channel j) (channel_settings s)) (settings_of_channels s (j + 1) cs)
        (no_channel_below j (j + 1) (omega arith) cs)
        ∙ position_from-owned_by (owner.Channel j) n (channel_settings s)
        ∙ ap (λ i. position_from (same_setting x) i (channel_settings s)) m
    in_channels (h ∷ cs) j (suc c) n lt =
        let e : j + 1 + c ≡ j + suc c = omega arith in
        let ne : j + suc c ≢ j = omega arith in
        let less : c < length cs = omega arith in
        let own : List OwnedSetting = owned_by (owner.Channel j) (channel_settings s) in
        let m :
        n + length own + c * length (channel_settings s)
        ≡ n + suc c * length (channel_settings s) =
        omega (arith, length-owned_by (owner.Channel j) (channel_settings s)) in
        position_from-append_none (is_owned_setting (owner.Channel (j + suc c)) x) n own
        (settings_of_channels s (j + 1) cs)
        (other_owner (owner.Channel (j + suc c)) (owner.Channel j) (ne_eqb (j + suc c) j ne)
        (channel_settings s))
        ∙ ap (λ i. position_from (is_owned_setting (owner.Channel i) x) (n + length own)
        (settings_of_channels s (j + 1) cs)) (sym e)
        ∙ in_channels cs (j + 1) c (n + length own) less
        ∙ ap (λ i. position_from (same_setting x) i (channel_settings s)) m

module _ (s : Scheme) (ts : List Terminal) (cs : List Channel) where
  -- the number of a terminal's setting
  number_in_terminal :
      (k : ℕ) (x : Setting) (t : Terminal) → k < length ts → t ≡ get_or ts k t →
      setting_number (line_settings s ts cs) (owner.Terminal k) x
      ≡ option_map (λ i. length (settings_of_terminals s 0 (take k ts)) + i)
      (setting_place (terminal_settings s t) x)
  unfolding line_settings
  number_in_terminal k x t lt is =
      let e : k ≡ 0 + k = omega arith in
      let n : ℕ = length (settings_of_terminals s 0 (take k ts)) in
      let m : 0 + n ≡ n + 0 = omega arith in
      position_from-none_behind (is_owned_setting (owner.Terminal k) x) 0
      (settings_of_terminals s 0 ts) (settings_of_channels s 0 cs)
      (no_terminal_in_channels x s k 0 cs)
      ∙ ap (λ i. position_from (is_owned_setting (owner.Terminal i) x) 0
      (settings_of_terminals s 0 ts)) e
      ∙ in_terminals x s ts 0 k 0 t lt
      ∙ ap (λ u. position_from (same_setting x) (0 + n) (terminal_settings s u)) (sym is)
      ∙ ap (λ i. position_from (same_setting x) i (terminal_settings s t)) m
      ∙ position_from-later (same_setting x) n 0 (terminal_settings s t)

  -- the number of a channel's setting
  number_in_channel :
      (c : ℕ) (x : Setting) → c < length cs →
      setting_number (line_settings s ts cs) (owner.Channel c) x
      ≡ option_map
      (λ i. length (settings_of_terminals s 0 ts) + c * length (channel_settings s) + i)
      (setting_place (channel_settings s) x)
  unfolding line_settings
  number_in_channel c x lt =
      let e : c ≡ 0 + c = omega arith in
      let n : ℕ = length (settings_of_terminals s 0 ts) in
      let b : ℕ = c * length (channel_settings s) in
      let m : 0 + n + b ≡ n + b + 0 = omega arith in
      position_from-append_none (is_owned_setting (owner.Channel c) x) 0
      (settings_of_terminals s 0 ts) (settings_of_channels s 0 cs)
      (no_channel_in_terminals x s c 0 ts)
      ∙ ap (λ i. position_from (is_owned_setting (owner.Channel i) x) (0 + n)
      (settings_of_channels s 0 cs)) e
      ∙ in_channels x s cs 0 c (0 + n) lt
      ∙ ap (λ i. position_from (same_setting x) i (channel_settings s)) m
      ∙ position_from-later (same_setting x) (n + b) 0 (channel_settings s)

  -- the number of a channel's delay, by what stands before it
  pub delay_number_is :
      (c n k : ℕ) → c < length cs → n ≡ length (settings_of_terminals s 0 ts) →
      k ≡ length (channel_settings s) → n + c * k ≡ delay_number_of s ts cs c
  delay_number_is c n k lt before each =
      let last :
      length (settings_of_terminals s 0 ts) + c * length (channel_settings s) + 0
      ≡ delay_number_of s ts cs c =
      sym (ap (λ o. unwrap_or o 0) (number_in_channel c Delay lt)) in
      let count : c * k ≡ c * length (channel_settings s) = ap (λ m. c * m) each in
      omega (arith, last)

pub terminal_number :
    (line : Line) (k : ℕ) (x : Setting) (t : Terminal) → k < length line.terminals.items →
    t ≡ get_or line.terminals.items k t →
    param_number line (owner.Terminal k) x
    ≡ option_map
    (λ i. length (settings_of_terminals line.scheme 0 (take k line.terminals.items)) + i)
    (setting_place (terminal_settings line.scheme t) x)
terminal_number line k x t lt is =
    number_in_terminal line.scheme line.terminals.items line.channels.items k x t lt is

pub channel_number_of :
    (line : Line) (c : ℕ) (x : Setting) → c < length line.channels.items →
    param_number line (owner.Channel c) x
    ≡ option_map
    (λ i. length (settings_of_terminals line.scheme 0 line.terminals.items)
    + c * length (channel_settings line.scheme) + i)
    (setting_place (channel_settings line.scheme) x)
channel_number_of line c x lt =
    number_in_channel line.scheme line.terminals.items line.channels.items c x lt

-- the number of a terminal's setting, from what stands before the terminal and the place there
pub terminal_number_made :
    (line : Line) (k : ℕ) (x : Setting) (t : Terminal) (before : ℕ) (place number : Option ℕ) →
    k < length line.terminals.items → t ≡ get_or line.terminals.items k t →
    before ≡ length (settings_of_terminals line.scheme 0 (take k line.terminals.items)) →
    place ≡ setting_place (terminal_settings line.scheme t) x →
    number ≡ option_map (λ i. before + i) place →
    number ≡ param_number line (owner.Terminal k) x
terminal_number_made line k x t before place number lt is e f g =
    g
    ∙ ap (λ n. option_map (λ i. n + i) place) e
    ∙ ap
    (option_map
    (λ i. length (settings_of_terminals line.scheme 0 (take k line.terminals.items)) + i))
    f
    ∙ sym (terminal_number line k x t lt is)

-- the number of a channel's setting, from what stands before the channels and how many each has
pub channel_number_made :
    (line : Line) (c : ℕ) (x : Setting) (before each : ℕ) (place number : Option ℕ) →
    c < length line.channels.items →
    before ≡ length (settings_of_terminals line.scheme 0 line.terminals.items) →
    each ≡ length (channel_settings line.scheme) → place ≡ setting_place (channel_settings line.scheme) x →
    number ≡ option_map (λ i. before + c * each + i) place →
    number ≡ param_number line (owner.Channel c) x
channel_number_made line c x before each place number lt e f h g =
    let ahead : ℕ = length (settings_of_terminals line.scheme 0 line.terminals.items) in
    g
    ∙ ap (λ n. option_map (λ i. n + c * each + i) place) e
    ∙ ap (λ n. option_map (λ i. ahead + c * n + i) place) f
    ∙ ap (option_map (λ i. ahead + c * length (channel_settings line.scheme) + i)) h
    ∙ sym (channel_number_of line c x lt)
