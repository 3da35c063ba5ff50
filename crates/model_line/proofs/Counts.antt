-- How many settings a line has.
use Rattle.std.proofs.Common.{◌≡◌, ◌≤◌, ◌||◌, ◌&&◌, ◌++◌, ℕ, suc, ◌+◌, ◌*◌, ◌-◌, ◌<◌, Bool, true}
use Rattle.std.proofs.Common.{false, not, List, [], ◌∷◌, length, take, get_or, refl, sym, ap, ◌∙◌}
use Rattle.std.proofs.Common.{arith, length-append}
use Rattle.std.proofs.Math.Nat.{mul-le-mul, mul-le-mul_right}
use Rattle.std.proofs.lemmas.List.{take_more}
use Rattle.std.specs.List.{list_all}
use Rattle.model_line.specs.declared.line.Scheme.TheVariants.{Pott, Dcub}
use Rattle.model_line.specs.Terminals.{has_flags, has_no_flag, flags_fit}
use Rattle.model_line.specs.Settings.{OwnedSetting, owned_by, groups_with, all_of}
use Rattle.model_line.specs.Settings.{settings_of_terminals, settings_of_channels}
use Rattle.model_line.specs.Settings.{terminal_settings, channel_settings, line_settings}
use Rattle.model_line.specs.NumberLaws.{length-line_settings, length-owned_by}
use Rattle.model_line.specs.SettingFlagLaws.{with_flags}
use Rattle.model_line.specs.{declared.line.Line.Line, declared.line.Scheme.Scheme}
use Rattle.model_line.specs.{declared.line.Terminal.Terminal, declared.line.Channel.Channel}
use Rattle.model_line.specs.declared.line.Owner.TheVariants as owner

-- one terminal more at the end
length-settings_of_terminals-push :
    (s : Scheme) (j : ℕ) (ts : List Terminal) (t : Terminal) →
    length (settings_of_terminals s j (ts ++ t ∷ []))
    ≡ length (settings_of_terminals s j ts) + length (terminal_settings s t)
length-settings_of_terminals-push s j [] t =
    omega (
      arith,
      length-append (owned_by (owner.Terminal j) (terminal_settings s t)) [],
      length-owned_by (owner.Terminal j) (terminal_settings s t),
    )
length-settings_of_terminals-push s j (u ∷ ts) t =
    let own : List OwnedSetting = owned_by (owner.Terminal j) (terminal_settings s u) in
    omega (
      arith,
      length-append own (settings_of_terminals s (j + 1) (ts ++ t ∷ [])),
      length-append own (settings_of_terminals s (j + 1) ts),
      length-settings_of_terminals-push s (j + 1) ts t,
    )

pub one_terminal_more :
    (s : Scheme) (ts : List Terminal) (i n k : ℕ) (t : Terminal) → i < length ts →
    t ≡ get_or ts i t → n ≡ length (settings_of_terminals s 0 (take i ts)) →
    k ≡ length (terminal_settings s t) →
    n + k ≡ length (settings_of_terminals s 0 (take (i + 1) ts))
one_terminal_more s ts i n k t lt is en ek =
    let more : take (i + 1) ts ≡ take i ts ++ t ∷ [] =
    take_more ts i t lt ∙ ap (λ u. take i ts ++ u ∷ []) (sym is) in
    omega (
      arith,
      ap (λ l. length (settings_of_terminals s 0 l)) more,
      length-settings_of_terminals-push s 0 (take i ts) t,
    )

length-settings_of_channels :
    (s : Scheme) (j : ℕ) (cs : List Channel) →
    length (settings_of_channels s j cs) ≡ length cs * length (channel_settings s)
length-settings_of_channels s j [] = omega arith
length-settings_of_channels s j (c ∷ cs) =
    let own : List OwnedSetting = owned_by (owner.Channel j) (channel_settings s) in
    omega (
      arith,
      length-append own (settings_of_channels s (j + 1) cs),
      length-owned_by (owner.Channel j) (channel_settings s),
      length-settings_of_channels s (j + 1) cs,
    )

-- the terminals' settings, and as many for each channel
pub setting_count :
    (s : Scheme) (ts : List Terminal) (cs : List Channel) (n k : ℕ) →
    n ≡ length (settings_of_terminals s 0 ts) → k ≡ length (channel_settings s) →
    n + length cs * k ≡ length (line_settings s ts cs)
unfolding line_settings
setting_count s ts cs n k before each =
    let count : length cs * k ≡ length cs * length (channel_settings s) =
    ap (λ m. length cs * m) each in
    omega (
      arith,
      length-append (settings_of_terminals s 0 ts) (settings_of_channels s 0 cs),
      length-settings_of_channels s 0 cs,
    )

-- each channel has a delay at least
some_settings : (s : Scheme) → 0 < length (channel_settings s)
some_settings Pott = omega arith
some_settings _ = omega arith

-- the settings of channel c are within the list
pub channel_within :
    (s : Scheme) (ts : List Terminal) (cs : List Channel) (c n k : ℕ) → c < length cs →
    n ≡ length (settings_of_terminals s 0 ts) → k ≡ length (channel_settings s) →
    n + c * k < length (line_settings s ts cs)
channel_within s ts cs c n k lt before each =
    let all : n + length cs * k ≡ length (line_settings s ts cs) =
    setting_count s ts cs n k before each in
    let some : 0 < length (channel_settings s) = some_settings s in
    let below : suc c * k ≤ length cs * k =
    mul-le-mul_right k (omega arith) in
    omega arith

-- a terminal has at most 13 settings, since none is weak or guarded in the other schemes
few_of_terminal :
    (s : Scheme) (g w : Bool) → has_flags s || not (w || g) ≡ true →
    length (all_of (groups_with s g w)) ≤ 13
few_of_terminal Pott g w h =
    with_flags (λ g w. length (all_of (groups_with Pott g w)) ≤ 13) (omega arith) (omega arith)
    (omega arith) (omega arith) g w
few_of_terminal Dcub g w h =
    with_flags (λ g w. length (all_of (groups_with Dcub g w)) ≤ 13) (omega arith) (omega arith)
    (omega arith) (omega arith) g w
few_of_terminal s false false h = omega arith
few_of_terminal s true true h = absurd (cc)
few_of_terminal s true false h = absurd (cc)
few_of_terminal s false true h = absurd (cc)

few_of_channel : (s : Scheme) → length (channel_settings s) ≤ 4
few_of_channel Pott = omega arith
few_of_channel _ = omega arith

-- what is so of all is so of the first and of the rest
first_of : (b c d : Bool) → b || (c && d) ≡ true → b || c ≡ true
first_of true c d h = refl
first_of false true d h = refl
first_of false false d h = h

rest_of : (b c d : Bool) → b || (c && d) ≡ true → b || d ≡ true
rest_of true c d h = refl
rest_of false true d h = h
rest_of false false d h = absurd (cc)

few_of_terminals :
    (s : Scheme) (j : ℕ) (ts : List Terminal) → flags_fit s ts ≡ true →
    length (settings_of_terminals s j ts) ≤ length ts * 13
few_of_terminals s j [] h = omega arith
few_of_terminals s j (t ∷ ts) h =
    let own : List OwnedSetting = owned_by (owner.Terminal j) (terminal_settings s t) in
    let first : has_flags s || has_no_flag t ≡ true =
    first_of (has_flags s) (has_no_flag t) (list_all has_no_flag ts) h in
    let rest : flags_fit s ts ≡ true =
    rest_of (has_flags s) (has_no_flag t) (list_all has_no_flag ts) h in
    let few : length (terminal_settings s t) ≤ 13 = few_of_terminal s t.guard t.weak first in
    omega (
      arith,
      length-append own (settings_of_terminals s (j + 1) ts),
      length-owned_by (owner.Terminal j) (terminal_settings s t),
      few_of_terminals s (j + 1) ts rest,
    )

-- two or three terminals have at most six channels
few_pairs : (n m : ℕ) → (2 ≤ n) × (n ≤ 3) → m ≡ n * (n - 1) → m ≤ 6
few_pairs n m h e =
    let less : n - 1 ≤ 2 = omega (arith, h.1) in
    let most : n * (n - 1) ≤ 3 * 2 = mul-le-mul h.1 less in
    omega arith

-- at most 63 parameters: three terminals of 13 and six channels of 4
pub few_params : (line : Line) → length line.params.items ≤ 63
unfolding line_settings
few_params line =
    let s : Scheme = line.scheme in
    let ts : List Terminal = line.terminals.items in
    let cs : List Channel = line.channels.items in
    let six : length cs ≤ 6 =
    few_pairs (length ts) (length cs) line.two_or_three line.pairs_once.count in
    let each : length cs * length (channel_settings s) ≤ 6 * 4 =
    mul-le-mul six (few_of_channel s) in
    omega (
      arith,
      length-line_settings line,
      length-append (settings_of_terminals s 0 ts) (settings_of_channels s 0 cs),
      length-settings_of_channels s 0 cs,
      few_of_terminals s 0 ts line.flags_by_scheme,
      line.two_or_three.1,
    )
