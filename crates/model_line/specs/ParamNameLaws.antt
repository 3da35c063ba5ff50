-- The names of a line's parameters, by owner.
use Rattle.std.proofs.Common.{◌≡◌, ℕ, zero, suc, ◌+◌, ◌<◌, ◌++◌, List, [], ◌∷◌, length, get_or}
use Rattle.std.proofs.Common.{refl, sym, ap, ◌∙◌, arith}
use Rattle.std.proofs.lemmas.List.{map-append}
use Rattle.std.specs.Prelude.{map, slice_get, Some}
use Rattle.model_line.specs.Settings.{OwnedSetting, owned_by, settings_of_terminals}
use Rattle.model_line.specs.Settings.{settings_of_channels, line_settings, terminal_settings}
use Rattle.model_line.specs.Settings.{channel_settings}
use Rattle.model_line.specs.ParamNames.{param_name, name_at, pair_name, owner_name, dotted}
use Rattle.model_line.specs.ParamNames.{terminal_names, channel_names}
use Rattle.model_line.specs.declared.line.Setting.{Setting}
use Rattle.model_line.specs.{declared.line.Scheme.Scheme, declared.line.Terminal.Terminal}
use Rattle.model_line.specs.{declared.line.Channel.Channel, declared.line.Owner.Owner}
use Rattle.model_line.specs.declared.line.Owner.TheVariants as owner

-- the name of a terminal by its place in the list
pub name_at-get :
    (ts : List Terminal) (i : ℕ) (d : Terminal) → i < length ts →
    name_at ts i ≡ (get_or ts i d).name
name_at-get [] i d lt = absurd (omega arith)
name_at-get (t ∷ ts) zero d lt = refl
name_at-get (t ∷ ts) (suc i) d lt = name_at-get ts i d (omega arith)

-- and of one that stands at a place
pub name_of-got : (ts : List Terminal) (k : ℕ) (t : Terminal) → k < length ts → t ≡ get_or ts k t
    → name_at ts k ≡ t.name
name_of-got ts k t below got =
    name_at-get ts k t below ∙ ap (λ (x : Terminal). x.name) (sym got)

pub pair_name_is :
    (ts : List Terminal) (c : Channel) (a b : Terminal) → c.from < length ts → c.to < length ts →
    a ≡ get_or ts c.from a → b ≡ get_or ts c.to b →
    a.name ++ (62 ∷ b.name) ≡ pair_name ts c
pair_name_is ts c a b from to is_a is_b =
    let n : name_at ts c.from ≡ a.name =
    name_at-get ts c.from a from ∙ ap (λ t. t.name) (sym is_a) in
    let m : name_at ts c.to ≡ b.name =
    name_at-get ts c.to b to ∙ ap (λ t. t.name) (sym is_b) in
    ap (λ x. x ++ (62 ∷ b.name)) (sym n) ∙ ap (λ x. name_at ts c.from ++ (62 ∷ x)) (sym m)

module _ (ts : List Terminal) (cs : List Channel) where
  map-owned_by :
      (o : Owner) (ss : List Setting) →
      map (param_name ts cs) (owned_by o ss) ≡ map (dotted (owner_name ts cs o)) ss
  unfolding param_name
  map-owned_by o [] = refl
  map-owned_by o (s ∷ ss) = ap (λ l. dotted (owner_name ts cs o) s ∷ l) (map-owned_by o ss)

  -- the last terminals, the first of which has number j
  names_of_terminals :
      (s : Scheme) (rest : List Terminal) (j : ℕ) →
      ((i : ℕ) → i < length rest → name_at ts (j + i) ≡ name_at rest i) →
      map (param_name ts cs) (settings_of_terminals s j rest) ≡ terminal_names s rest
  names_of_terminals s [] j same = refl
  names_of_terminals s (t ∷ rest) j same =
      let own : List OwnedSetting = owned_by (owner.Terminal j) (terminal_settings s t) in
      let here : j + 0 ≡ j = omega arith in
      let name : name_at ts j ≡ t.name = ap (name_at ts) (sym here) ∙ same 0 (omega arith) in
      let later : (i : ℕ) → i < length rest → name_at ts (j + 1 + i) ≡ name_at rest i =
      λ i lt. let e : j + 1 + i ≡ j + suc i = omega arith in
      ap (name_at ts) e ∙ same (suc i) (omega arith) in
      map-append (param_name ts cs) own (settings_of_terminals s (j + 1) rest)
      ∙ ap (λ l. l ++ map (param_name ts cs) (settings_of_terminals s (j + 1) rest))
      (map-owned_by (owner.Terminal j) (terminal_settings s t)
      ∙ ap (λ n. map (dotted n) (terminal_settings s t)) name)
      ∙ ap (λ l. map (dotted t.name) (terminal_settings s t) ++ l)
      (names_of_terminals s rest (j + 1) later)

  -- the last channels, the first of which has number j
  names_of_channels :
      (s : Scheme) (rest : List Channel) (j : ℕ) →
      ((i : ℕ) → i < length rest → slice_get cs (j + i) ≡ slice_get rest i) →
      map (param_name ts cs) (settings_of_channels s j rest) ≡ channel_names s ts rest
  names_of_channels s [] j same = refl
  names_of_channels s (c ∷ rest) j same =
      let own : List OwnedSetting = owned_by (owner.Channel j) (channel_settings s) in
      let here : j + 0 ≡ j = omega arith in
      let at : slice_get cs j ≡ Some c = ap (slice_get cs) (sym here) ∙ same 0 (omega arith) in
      let name : owner_name ts cs (owner.Channel j) ≡ pair_name ts c = rw at refl in
      let later : (i : ℕ) → i < length rest → slice_get cs (j + 1 + i) ≡ slice_get rest i =
      λ i lt. let e : j + 1 + i ≡ j + suc i = omega arith in
      ap (slice_get cs) e ∙ same (suc i) (omega arith) in
      map-append (param_name ts cs) own (settings_of_channels s (j + 1) rest)
      ∙ ap (λ l. l ++ map (param_name ts cs) (settings_of_channels s (j + 1) rest))
      (map-owned_by (owner.Channel j) (channel_settings s)
      ∙ ap (λ n. map (dotted n) (channel_settings s)) name)
      ∙ ap (λ l. map (dotted (pair_name ts c)) (channel_settings s) ++ l)
      (names_of_channels s rest (j + 1) later)

-- the names of a line's parameters are those of its terminals' and then of its channels' settings
pub names_of_line :
    (s : Scheme) (ts : List Terminal) (cs : List Channel) →
    map (param_name ts cs) (line_settings s ts cs) ≡ terminal_names s ts ++ channel_names s ts cs
unfolding line_settings
names_of_line s ts cs =
    map-append (param_name ts cs) (settings_of_terminals s 0 ts) (settings_of_channels s 0 cs)
    ∙ ap (λ l. l ++ map (param_name ts cs) (settings_of_channels s 0 cs))
    (names_of_terminals ts cs s ts 0
    (λ i lt. let e : 0 + i ≡ i = omega arith in ap (name_at ts) e))
    ∙ ap (λ l. terminal_names s ts ++ l)
    (names_of_channels ts cs s cs 0
    (λ i lt. let e : 0 + i ≡ i = omega arith in ap (slice_get cs) e))

-- the terminals' names and then the channels' are those of the line
pub names_made :
    (s : Scheme) (ts : List Terminal) (cs : List Channel) (none some all : List (List ℕ)) →
    none ≡ [] → some ≡ none ++ terminal_names s ts → all ≡ some ++ channel_names s ts cs →
    all ≡ map (param_name ts cs) (line_settings s ts cs)
names_made s ts cs none some all e f g =
    g ∙ ap (λ l. l ++ channel_names s ts cs) (f ∙ ap (λ l. l ++ terminal_names s ts) e)
    ∙ sym (names_of_line s ts cs)
