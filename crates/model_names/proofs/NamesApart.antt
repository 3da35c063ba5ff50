-- Each parameter of a line has a name of its own.
use Rattle.std.proofs.Common.{◌≡◌, ◌≢◌, ◌&&◌, ◌==◌, ℕ, zero, suc, ◌<◌, true, false}
use Rattle.std.proofs.Common.{None, List, [], ◌∷◌, ◌++◌, length, map, get_or}
use Rattle.std.proofs.Common.{Some, refl, sym, ap, ◌∙◌, arith, subst, inl, inr, eq-eqb, ne_eqb}
use Rattle.std.proofs.Common.{length-append, zero-add}
use Rattle.std.proofs.lemmas.Slice.Eq.{bytes_eq-Decides}
use Rattle.std.proofs.lemmas.Bool.{and_parts, and_from, cases_eq, cases_lt}
use Rattle.std.proofs.lemmas.List.{get_or-map, length-map, take_all}
use Rattle.std.proofs.lemmas.List.Folds.{list_all-append}
use Rattle.std.proofs.lemmas.List.Elements.{All-nil, All-cons, All-append, All-head, All-tail}
use Rattle.std.proofs.lemmas.List.Elements.{All-map, All-get_or, All-from_get_or}
use Rattle.std.specs.Prelude.{nat_le, not}
use Rattle.std.specs.List.{All, list_all, list_any, flat_map, position_from}
use Rattle.std.specs.Str.{bytes_eq}
use Rattle.model_line.specs.PlainNames.{is_plain_byte, is_plain_name}
use Rattle.model_line.specs.ParamNames.{name_at, pair_name, setting_text, dotted, terminal_names}
use Rattle.model_line.specs.ParamNames.{channel_names}
use Rattle.model_line.specs.FirstPositionLaws.{position_from-first, position_from-none, none_before}
use Rattle.model_line.specs.FirstPositionLaws.{list_any-take_none}
use Rattle.model_line.specs.Channels.{is_pair, from_of, to_of}
use Rattle.model_line.specs.Settings.{terminal_settings, channel_settings}
use Rattle.model_line.specs.ParamNameLaws.{name_at-get, names_of_line}
use Rattle.model_line.specs.Terminals.{are_plain_names}
use Rattle.model_line.specs.{declared.line.Line.Line, Parameters.param_count}
use Rattle.model_line.specs.{declared.line.Param.Param, declared.line.Setting.Setting}
use Rattle.model_line.specs.{declared.line.Terminal.Terminal, declared.line.Channel.Channel}
use Rattle.model_line.specs.NamesByNumber.{parameter_name}
use Rattle.model_names.specs.ParamNamesApart.{has_no, ParamNamesApart}
use Rattle.model_line.specs.TextLaws.{bytes_differ}
use Rattle.model_names.proofs.SettingTexts.{text_has_no_at, is_other_text, differ}
use Rattle.model_names.proofs.SettingTexts.{terminal_settings_differ, channel_settings_differ}

-- ---- lists in which no element stands twice

abbrev AreApart : {A : Type 0} → List A → Type 0
AreApart [] = Unit {0}
AreApart (x ∷ xs) = All (λ y. x ≢ y) xs × AreApart xs

-- the same of what is made of them
abbrev AreApartBy : {A B : Type 0} → (A → B) → List A → Type 0
AreApartBy f [] = Unit {0}
AreApartBy f (x ∷ xs) = All (λ y. f x ≢ f y) xs × AreApartBy f xs

apart_append : {A : Type 0} (xs ys : List A) → AreApart xs → AreApart ys
    → All (λ x. All (λ y. x ≢ y) ys) xs → AreApart (xs ++ ys)
apart_append [] ys first second cross = second
apart_append (x ∷ xs) ys first second cross = (
  All-append (λ y. x ≢ y) xs ys first.0 (All-head (λ z. All (λ y. z ≢ y) ys) x xs cross),
  apart_append xs ys first.1 second (All-tail (λ z. All (λ y. z ≢ y) ys) x xs cross),
)

apart_at : {A : Type 0} (xs : List A) (i j : ℕ) (d : A) → AreApart xs → i < j → j < length xs
    → get_or xs i d ≢ get_or xs j d
apart_at [] i j d apart less inside = absurd (omega arith)
apart_at (x ∷ xs) i zero d apart less inside = absurd (omega arith)
apart_at (x ∷ xs) zero (suc j) d apart less inside =
    All-get_or (λ y. x ≢ y) xs j d (omega arith) apart.0
apart_at (x ∷ xs) (suc i) (suc j) d apart less inside =
    apart_at xs i j d apart.1 (omega arith) (omega arith)

apart_by_places : {A B : Type 0} (f : A → B) (xs : List A) (d : A)
    → ((j k : ℕ) → j < k → k < length xs → f (get_or xs j d) ≢ f (get_or xs k d))
    → AreApartBy f xs
apart_by_places f [] d differ = tt
apart_by_places f (x ∷ xs) d differ = (
  All-from_get_or (λ y. f x ≢ f y) xs d
      (λ i inside. differ zero (suc i) (omega arith) (omega arith)),
  apart_by_places f xs d (λ j k less inside. differ (suc j) (suc k) (omega arith) (omega arith)),
)

-- ---- bytes that part a text

byte_is_other : (byte x : ℕ) → is_plain_byte x ≡ false → is_plain_byte byte ≡ true
    → not (byte == x) ≡ true
byte_is_other byte x other plain = elim (cases_eq byte x) [
  | inl same ↦ absurd (let free : is_plain_byte x ≡ true =
      subst (λ (b : ℕ). is_plain_byte b ≡ true) same plain in cc)
  | inr apart ↦ ap not (ne_eqb byte x apart)
]

plain_has_no : (x : ℕ) (bytes : List ℕ) → is_plain_byte x ≡ false
    → list_all is_plain_byte bytes ≡ true → has_no x bytes ≡ true
plain_has_no x [] other plain = refl
plain_has_no x (b ∷ bytes) other plain =
    let parts = and_parts (is_plain_byte b) (list_all is_plain_byte bytes) plain in
    and_from (not (b == x)) (has_no x bytes) (byte_is_other b x other parts.0)
    (plain_has_no x bytes other parts.1)

has_no-append : (x : ℕ) (a b : List ℕ) → has_no x a ≡ true → has_no x b ≡ true
    → has_no x (a ++ b) ≡ true
has_no-append x a b first second =
    list_all-append (λ y. not (y == x)) a b ∙ and_from (has_no x a) (has_no x b) first second

not_here : (x : ℕ) (bytes : List ℕ) → has_no x (x ∷ bytes) ≡ true → ⊥
not_here x bytes none =
    let free = (and_parts (not (x == x)) (has_no x bytes) none).0 in
    let yes = eq-eqb x x refl in
    (let e : not true ≡ true = ap not (sym yes) ∙ free in cc)

-- a byte parts two texts in one way, where it does not stand in their fronts
pub record IsSameParts (a c b d : List ℕ) : Type 0 where
  pub front : a ≡ c
  pub back : b ≡ d

parts : (x : ℕ) (a c b d : List ℕ) → has_no x a ≡ true → has_no x c ≡ true
    → a ++ (x ∷ b) ≡ c ++ (x ∷ d) → IsSameParts a c b d
parts x [] [] b d p q e = record { front = refl; back = cc }
parts x [] (y ∷ c) b d p q e =
    let head : y ≡ x = cc in
    absurd (not_here x c (subst (λ (z : ℕ). has_no x (z ∷ c) ≡ true) head q))
parts x (y ∷ a) [] b d p q e =
    let head : y ≡ x = cc in
    absurd (not_here x a (subst (λ (z : ℕ). has_no x (z ∷ a) ≡ true) head p))
parts x (y ∷ a) (z ∷ c) b d p q e =
    let head : y ≡ z = cc in
    let tail : a ++ (x ∷ b) ≡ c ++ (x ∷ d) = cc in
    let rest = parts x a c b d (and_parts (not (y == x)) (has_no x a) p).1
    (and_parts (not (z == x)) (has_no x c) q).1 tail in
    let front = rest.front in
    record { front = cc; back = rest.back }

-- ---- the names of owners

plain_at : (ts : List Terminal) (k : ℕ) (d : Terminal) → are_plain_names ts ≡ true
    → k < length ts → list_all is_plain_byte (get_or ts k d).name ≡ true
plain_at [] k d plain below = absurd (omega arith)
plain_at (t ∷ ts) zero d plain below =
    let p = and_parts (is_plain_name t.name) (are_plain_names ts) plain in
    let q = and_parts (nat_le 1 (length t.name))
    (nat_le (length t.name) 16 && list_all is_plain_byte t.name) p.0 in
    (and_parts (nat_le (length t.name) 16) (list_all is_plain_byte t.name) q.1).1
plain_at (t ∷ ts) (suc k) d plain below =
    plain_at ts k d (and_parts (is_plain_name t.name) (are_plain_names ts) plain).1 (omega arith)

module _ (line : Line) where
  abbrev ts : List Terminal
  ts = line.terminals.items

  abbrev cs : List Channel
  cs = line.channels.items

  abbrev no_terminal : Terminal
  no_terminal = record { name = []; weak = false; guard = false }

  abbrev no_channel : Channel
  no_channel = record { from = 0; to = 0 }

  terminals_differ : (j k : ℕ) → j < k → k < length ts
      → (get_or ts j no_terminal).name ≢ (get_or ts k no_terminal).name
  terminals_differ j k less below same =
      line.names_once j k less below
      (get_or-map (λ (t : Terminal). t.name) ts j no_terminal [] (omega arith) ∙ same
      ∙ sym (get_or-map (λ (t : Terminal). t.name) ts k no_terminal [] below))

  same_terminal : (j k : ℕ) → j < length ts → k < length ts
      → (get_or ts j no_terminal).name ≡ (get_or ts k no_terminal).name → j ≡ k
  same_terminal j k below_j below_k same = elim (cases_lt j k) [
    | inl less ↦ absurd (terminals_differ j k less below_k same)
    | inr more ↦ elim (cases_lt k j) [
      | inl less ↦ absurd (terminals_differ k j less below_j (sym same))
      | inr again ↦ omega arith
    ]
  ]

  from_below : (c : ℕ) → c < length cs → (get_or cs c no_channel).from < length ts
  from_below c inside =
      let bound = line.pairs_once.from c inside in
      let at = get_or-map (λ (h : Channel). h.from) cs c no_channel 0 inside in
      omega arith

  to_below : (c : ℕ) → c < length cs → (get_or cs c no_channel).to < length ts
  to_below c inside =
      let bound = line.pairs_once.to c inside in
      let at = get_or-map (λ (h : Channel). h.to) cs c no_channel 0 inside in
      omega arith

  -- a terminal's name as it is written in a channel's
  plain_name : (k : ℕ) → k < length ts → list_all is_plain_byte (name_at ts k) ≡ true
  plain_name k below =
      ap (list_all is_plain_byte) (name_at-get ts k no_terminal below)
      ∙ plain_at ts k no_terminal line.plain_names below

  channels_differ : (j k : ℕ) → j < k → k < length cs
      → pair_name ts (get_or cs j no_channel) ≢ pair_name ts (get_or cs k no_channel)
  channels_differ j k less below same =
      let one : Channel = get_or cs j no_channel in
      let two : Channel = get_or cs k no_channel in
      let before : j < length cs = omega arith in
      let p = parts 62 (name_at ts one.from) (name_at ts two.from) (name_at ts one.to)
      (name_at ts two.to)
      (plain_has_no 62 (name_at ts one.from) refl (plain_name one.from (from_below j before)))
      (plain_has_no 62 (name_at ts two.from) refl (plain_name two.from (from_below k below)))
      same in
      let from : one.from ≡ two.from =
      same_terminal one.from two.from (from_below j before) (from_below k below)
      (sym (name_at-get ts one.from no_terminal (from_below j before)) ∙ p.front
      ∙ name_at-get ts two.from no_terminal (from_below k below)) in
      let to : one.to ≡ two.to =
      same_terminal one.to two.to (to_below j before) (to_below k below)
      (sym (name_at-get ts one.to no_terminal (to_below j before)) ∙ p.back
      ∙ name_at-get ts two.to no_terminal (to_below k below)) in
      let from_k = get_or-map (λ (h : Channel). h.from) cs k no_channel 0 below in
      let to_k = get_or-map (λ (h : Channel). h.to) cs k no_channel 0 below in
      let passes : is_pair (from_of cs k) (to_of cs k) one ≡ true =
      and_from (one.from == from_of cs k) (one.to == to_of cs k)
      (eq-eqb one.from (from_of cs k) (from ∙ sym from_k))
      (eq-eqb one.to (to_of cs k) (to ∙ sym to_k)) in
      let none = none_before (is_pair (from_of cs k) (to_of cs k)) 0 k j cs no_channel
      (line.pairs_once.once k below ∙ ap (λ i. Some i) (sym (zero-add k))) less in
      (let e : true ≡ false = sym passes ∙ none in cc)

-- ---- the names of parameters, owner by owner

abbrev names_by : {X : Type 0} → (X → List ℕ) → (X → List Setting) → List X → List (List ℕ)
names_by name settings xs = flat_map (λ x. map (dotted (name x)) (settings x)) xs

module _ {X : Type 0} (name : X → List ℕ) (settings : X → List Setting) where
  -- what holds of each name of each owner
  all_names : (P : List ℕ → Type 0) (xs : List X)
      → All (λ x. All (λ s. P (dotted (name x) s)) (settings x)) xs
      → All P (names_by name settings xs)
  all_names P [] all = All-nil P
  all_names P (x ∷ xs) all =
      All-append P (map (dotted (name x)) (settings x)) (names_by name settings xs)
      (All-map P (dotted (name x)) (settings x)
      (All-head (λ y. All (λ s. P (dotted (name y) s)) (settings y)) x xs all))
      (all_names P xs
      (All-tail (λ y. All (λ s. P (dotted (name y) s)) (settings y)) x xs all))

each_setting : (P : Setting → Type 0) (xs : List Setting) → ((s : Setting) → P s) → All P xs
each_setting P [] each = All-nil P
each_setting P (x ∷ xs) each = All-cons P x xs (each x) (each_setting P xs each)

all_more : {X : Type 0} (P Q : X → Type 0) (xs : List X) → ((x : X) → P x → Q x) → All P xs
    → All Q xs
all_more P Q [] f all = All-nil Q
all_more P Q (x ∷ xs) f all =
    All-cons Q x xs (f x (All-head P x xs all)) (all_more P Q xs f (All-tail P x xs all))

all_both : {X : Type 0} (P Q : X → Type 0) (xs : List X) → All P xs → All Q xs
    → All (λ x. P x × Q x) xs
all_both P Q [] all both = All-nil (λ x. P x × Q x)
all_both P Q (x ∷ xs) all both =
    All-cons (λ y. P y × Q y) x xs (All-head P x xs all, All-head Q x xs both)
    (all_both P Q xs (All-tail P x xs all) (All-tail Q x xs both))

owners_differ : (n m : List ℕ) (s u : Setting) → has_no 46 n ≡ true → has_no 46 m ≡ true
    → n ≢ m → dotted n s ≢ dotted m u
owners_differ n m s u no_n no_m other same =
    other (parts 46 n m (setting_text s) (setting_text u) no_n no_m same).front

other_text : (n : List ℕ) (x y : Setting) → has_no 46 n ≡ true → is_other_text x y ≡ true
    → dotted n x ≢ dotted n y
other_text n x y free other same =
    let e = (bytes_eq-Decides (setting_text x) (setting_text y)).1
    (parts 46 n n (setting_text x) (setting_text y) free free same).back in
    (let f : not true ≡ true = ap not (sym e) ∙ other in cc)

all_other : (n : List ℕ) (x : Setting) (xs : List Setting) → has_no 46 n ≡ true
    → list_all (is_other_text x) xs ≡ true → All (λ y. dotted n x ≢ y) (map (dotted n) xs)
all_other n x [] free other = All-nil (λ y. dotted n x ≢ y)
all_other n x (y ∷ xs) free other =
    let both = and_parts (is_other_text x y) (list_all (is_other_text x) xs) other in
    All-cons (λ z. dotted n x ≢ z) (dotted n y) (map (dotted n) xs)
    (other_text n x y free both.0) (all_other n x xs free both.1)

own_apart : (n : List ℕ) (xs : List Setting) → has_no 46 n ≡ true → differ xs ≡ true
    → AreApart (map (dotted n) xs)
own_apart n [] free apart = tt
own_apart n (x ∷ xs) free apart =
    let both = and_parts (list_all (is_other_text x) xs) (differ xs) apart in
    (all_other n x xs free both.0, own_apart n xs free both.1)

module _ {X : Type 0} (name : X → List ℕ) (settings : X → List Setting)
    (differing : (x : X) → differ (settings x) ≡ true) where
  by_owners : (xs : List X) → All (λ x. has_no 46 (name x) ≡ true) xs → AreApartBy name xs
      → AreApart (names_by name settings xs)
  by_owners [] free apart = tt
  by_owners (x ∷ xs) free apart =
      let here : has_no 46 (name x) ≡ true = All-head (λ y. has_no 46 (name y) ≡ true) x xs free in
      let rest = All-tail (λ y. has_no 46 (name y) ≡ true) x xs free in
      apart_append (map (dotted (name x)) (settings x)) (names_by name settings xs)
      (own_apart (name x) (settings x) here (differing x))
      (by_owners xs rest apart.1)
      (All-map (λ a. All (λ b. a ≢ b) (names_by name settings xs)) (dotted (name x)) (settings x)
      (each_setting (λ s. All (λ b. dotted (name x) s ≢ b) (names_by name settings xs)) (settings x)
      (λ s. all_names name settings (λ b. dotted (name x) s ≢ b) xs
      (all_more (λ y. (has_no 46 (name y) ≡ true) × (name x ≢ name y))
      (λ y. All (λ u. dotted (name x) s ≢ dotted (name y) u) (settings y)) xs
      (λ y h. each_setting (λ u. dotted (name x) s ≢ dotted (name y) u) (settings y)
      (λ u. owners_differ (name x) (name y) s u here h.0 h.1))
      (all_both (λ y. has_no 46 (name y) ≡ true) (λ y. name x ≢ name y) xs rest apart.0)))))

-- ---- the names of a line's parameters

module _ (line : Line) where
  abbrev terminal_part : List (List ℕ)
  terminal_part = terminal_names line.scheme line.terminals.items

  abbrev channel_part : List (List ℕ)
  channel_part = channel_names line.scheme line.terminals.items line.channels.items

  terminal_names_plain : (x : ℕ) → is_plain_byte x ≡ false
      → All (λ (t : Terminal). has_no x t.name ≡ true) line.terminals.items
  terminal_names_plain x other =
      All-from_get_or (λ (t : Terminal). has_no x t.name ≡ true) line.terminals.items
      (no_terminal line)
      (λ i below. plain_has_no x (get_or line.terminals.items i (no_terminal line)).name other
      (plain_at line.terminals.items i (no_terminal line) line.plain_names below))

  channel_names_have_no : (x : ℕ) → is_plain_byte x ≡ false → not (62 == x) ≡ true
      → All (λ (c : Channel). has_no x (pair_name line.terminals.items c) ≡ true)
      line.channels.items
  channel_names_have_no x other apart =
      All-from_get_or (λ (c : Channel). has_no x (pair_name line.terminals.items c) ≡ true)
      line.channels.items (no_channel line)
      (λ i below.
      let c : Channel = get_or line.channels.items i (no_channel line) in
      let from = name_at line.terminals.items c.from in
      let to = name_at line.terminals.items c.to in
      has_no-append x from (62 ∷ to)
      (plain_has_no x from other (plain_name line c.from (from_below line i below)))
      (and_from (not (62 == x)) (has_no x to) apart
      (plain_has_no x to other (plain_name line c.to (to_below line i below)))))

  terminals_apart : AreApart terminal_part
  terminals_apart =
      by_owners (λ (t : Terminal). t.name) (terminal_settings line.scheme)
      (λ t. terminal_settings_differ line.scheme t.guard t.weak) line.terminals.items
      (terminal_names_plain 46 refl)
      (apart_by_places (λ (t : Terminal). t.name) line.terminals.items (no_terminal line)
      (terminals_differ line))

  channels_apart : AreApart channel_part
  channels_apart =
      by_owners (pair_name line.terminals.items) (λ _. channel_settings line.scheme)
      (λ _. channel_settings_differ line.scheme) line.channels.items
      (channel_names_have_no 46 refl refl)
      (apart_by_places (pair_name line.terminals.items) line.channels.items (no_channel line)
      (channels_differ line))

  -- a terminal's name has no `>`, and a channel's has one
  terminal_or_channel : (n a b : List ℕ) (s u : Setting) → has_no 46 n ≡ true
      → has_no 46 (a ++ (62 ∷ b)) ≡ true → has_no 62 n ≡ true
      → dotted n s ≢ dotted (a ++ (62 ∷ b)) u
  terminal_or_channel n a b s u no_n no_ab no_sign same =
      let front = (parts 46 n (a ++ (62 ∷ b)) (setting_text s) (setting_text u) no_n no_ab
      same).front in
      not_here 62 b
      ((and_parts (has_no 62 a) (has_no 62 (62 ∷ b))
      (sym (list_all-append (λ y. not (y == 62)) a (62 ∷ b)) ∙ ap (has_no 62) (sym front)
      ∙ no_sign)).1)

  names_are_apart : AreApart (terminal_part ++ channel_part)
  names_are_apart =
      apart_append terminal_part channel_part terminals_apart channels_apart
      (all_names (λ (t : Terminal). t.name) (terminal_settings line.scheme)
      (λ a. All (λ b. a ≢ b) channel_part) line.terminals.items
      (all_more (λ (t : Terminal). (has_no 46 t.name ≡ true) × (has_no 62 t.name ≡ true))
      (λ (t : Terminal). All (λ s. All (λ b. dotted t.name s ≢ b) channel_part)
      (terminal_settings line.scheme t)) line.terminals.items
      (λ t free. each_setting (λ s. All (λ b. dotted t.name s ≢ b) channel_part)
      (terminal_settings line.scheme t)
      (λ s. all_names (pair_name line.terminals.items) (λ _. channel_settings line.scheme)
      (λ b. dotted t.name s ≢ b) line.channels.items
      (all_more (λ (c : Channel). has_no 46 (pair_name line.terminals.items c) ≡ true)
      (λ (c : Channel). All (λ u. dotted t.name s ≢ dotted (pair_name line.terminals.items c) u)
      (channel_settings line.scheme)) line.channels.items
      (λ c no_c. each_setting
      (λ u. dotted t.name s ≢ dotted (pair_name line.terminals.items c) u)
      (channel_settings line.scheme)
      (λ u. terminal_or_channel t.name (name_at line.terminals.items c.from)
      (name_at line.terminals.items c.to) s u free.0 no_c free.1))
      (channel_names_have_no 46 refl refl))))
      (all_both (λ (t : Terminal). has_no 46 t.name ≡ true)
      (λ (t : Terminal). has_no 62 t.name ≡ true) line.terminals.items
      (terminal_names_plain 46 refl) (terminal_names_plain 62 refl))))

  -- what holds of each owner's names holds of all
  all_param_names : (P : List ℕ → Type 0)
      → ((n : List ℕ) (s : Setting) → has_no 64 n ≡ true → P (dotted n s))
      → All P (terminal_part ++ channel_part)
  all_param_names P each =
      All-append P terminal_part channel_part
      (all_names (λ (t : Terminal). t.name) (terminal_settings line.scheme) P line.terminals.items
      (all_more (λ (t : Terminal). has_no 64 t.name ≡ true)
      (λ (t : Terminal). All (λ s. P (dotted t.name s)) (terminal_settings line.scheme t))
      line.terminals.items
      (λ t free. each_setting (λ s. P (dotted t.name s)) (terminal_settings line.scheme t)
      (λ s. each t.name s free))
      (terminal_names_plain 64 refl)))
      (all_names (pair_name line.terminals.items) (λ _. channel_settings line.scheme) P
      line.channels.items
      (all_more (λ (c : Channel). has_no 64 (pair_name line.terminals.items c) ≡ true)
      (λ (c : Channel). All (λ s. P (dotted (pair_name line.terminals.items c) s))
      (channel_settings line.scheme)) line.channels.items
      (λ c free. each_setting (λ s. P (dotted (pair_name line.terminals.items c) s))
      (channel_settings line.scheme) (λ s. each (pair_name line.terminals.items c) s free))
      (channel_names_have_no 64 refl refl)))

  their_names : map (λ (p : Param). p.name) line.params.items ≡ terminal_part ++ channel_part
  their_names =
      line.param_names
      ∙ names_of_line line.scheme line.terminals.items line.channels.items

  differ_at : (i j : ℕ) → i < j → j < param_count line
      → parameter_name line i ≢ parameter_name line j
  differ_at i j less inside same =
      apart_at (terminal_part ++ channel_part) i j [] names_are_apart less
      (omega (arith, ap length their_names, length-map line.params.items (λ (p : Param). p.name)))
      (ap (λ (l : List (List ℕ)). get_or l i []) (sym their_names) ∙ same
      ∙ ap (λ (l : List (List ℕ)). get_or l j []) their_names)

  no_at_in : (i : ℕ) → i < param_count line → has_no 64 (parameter_name line i) ≡ true
  no_at_in i inside =
      subst (λ (l : List (List ℕ)). has_no 64 (get_or l i []) ≡ true) (sym their_names)
      (All-get_or (λ (n : List ℕ). has_no 64 n ≡ true) (terminal_part ++ channel_part) i []
      (omega (arith, ap length their_names, length-map line.params.items (λ (p : Param). p.name)))
      (all_param_names (λ (n : List ℕ). has_no 64 n ≡ true)
      (λ n s free. has_no-append 64 n (46 ∷ setting_text s) free
      (and_from (not (46 == 64)) (has_no 64 (setting_text s)) refl (text_has_no_at s)))))

  -- the name of a parameter as it stands in the list
  own_name : (i : ℕ) (d : Param) → i < param_count line
      → parameter_name line i ≡ (get_or line.params.items i d).name
  own_name i d inside = get_or-map (λ (p : Param). p.name) line.params.items i d [] inside

  found_by_name : (i : ℕ) → i < param_count line
      → position_from (λ p. bytes_eq p.name (parameter_name line i)) 0 line.params.items ≡ Some i
  found_by_name i inside =
      let d : Param = record { name = []; least = 0; greatest = 0 } in
      let name : List ℕ = parameter_name line i in
      position_from-first (λ p. bytes_eq p.name name) 0 i line.params.items d inside
      (list_any-take_none (λ p. bytes_eq p.name name) i line.params.items d
      (λ j less. bytes_differ (get_or line.params.items j d).name name
      (λ same. differ_at j i less inside (own_name j d (omega arith) ∙ same))))
      (ap (λ bytes. bytes_eq bytes name) (sym (own_name i d inside))
      ∙ (bytes_eq-Decides name name).1 refl)
      ∙ ap (λ k. Some k) (zero-add i)

  no_name_with_at : (bytes : List ℕ) → has_no 64 bytes ≡ false
      → position_from (λ p. bytes_eq p.name bytes) 0 line.params.items ≡ None
  no_name_with_at bytes at =
      let d : Param = record { name = []; least = 0; greatest = 0 } in
      position_from-none (λ p. bytes_eq p.name bytes) 0 line.params.items
      (sym (ap (list_any (λ p. bytes_eq p.name bytes)) (take_all (length line.params.items)
      line.params.items (omega arith)))
      ∙ list_any-take_none (λ p. bytes_eq p.name bytes) (length line.params.items)
      line.params.items d
      (λ j less. bytes_differ (get_or line.params.items j d).name bytes
      (λ same. (let e : true ≡ false =
      sym (no_at_in j less) ∙ ap (has_no 64) (own_name j d less ∙ same) ∙ at in cc))))

  pub names_apart : ParamNamesApart line
  names_apart = record {
    differ = differ_at;
    some = λ i inside.
        subst (λ (l : List (List ℕ)). 0 < length (get_or l i [])) (sym their_names)
        (All-get_or (λ (n : List ℕ). 0 < length n) (terminal_part ++ channel_part) i []
        (omega (arith, ap length their_names, length-map line.params.items (λ (p : Param). p.name)))
        (all_param_names (λ (n : List ℕ). 0 < length n)
        (λ n s free. omega (arith, length-append n (46 ∷ setting_text s)))));
    no_at = no_at_in;
    found = found_by_name;
    none_with_at = no_name_with_at;
  }
