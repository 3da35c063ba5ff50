-- Each id names one channel.
use Rattle.std.proofs.Common.{◌≡◌, ◌≢◌, ◌≤◌, ◌<◌, ◌+◌, ◌-◌, ◌*◌, ◌++◌, ◌∙◌, ℕ, zero, suc, true, false}
use Rattle.std.proofs.Common.{List, [], ◌∷◌, length, get_or, map, drop, Some, refl, ap, sym}
use Rattle.std.proofs.Common.{arith, inl, inr, subst, length-append}
use Rattle.std.proofs.lemmas.Bool.{and_from, and_parts, cases_order, eqb-true, false_from_ne_true}
use Rattle.std.proofs.lemmas.Bool.{leb-true, lt-ltb, ltb-true, or_cases}
use Rattle.std.proofs.lemmas.List.Elements.{All-from_get_or}
use Rattle.std.proofs.lemmas.List.{append-nil, get_or-append-add, get_or-drop, get_or-map, length-drop, length-map}
use Rattle.std.proofs.lemmas.List.Folds.{list_all-append, list_any_none}
use Rattle.std.proofs.lemmas.List.Sums.{position_or_len_is}
use Rattle.std.proofs.lemmas.Slice.Eq.{bytes_eq-Decides}
use Rattle.std.specs.Char.{is_ascii_alphanumeric}
use Rattle.std.specs.Int.{is_in_range}
use Rattle.std.specs.List.{list_all, list_any, position_or_len}
use Rattle.std.specs.Prelude.{◌==◌, ◌||◌, codes, nat_le, nat_lt, if◌then◌else◌}
use Rattle.std.specs.Str.{bytes_eq}
use Rattle.model_history.specs.Each.{each_below}
use Rattle.model_line.specs.Channels.{channel_number, from_of, to_of}
use Rattle.model_line.specs.{declared.line.Line.Line, Parameters.terminal_count}
use Rattle.model_line.specs.{PlainNames.is_plain_byte, PlainNames.is_plain_name}
use Rattle.model_line.specs.declared.line.Terminal.{Terminal}
use Rattle.model_line.specs.NamesByNumber.{terminal_name}
use Rattle.file_comtrade.specs.Named.{has_id, named_in}
use Rattle.file_comtrade.specs.declared.channel.Named.TheVariants.{One}
use Rattle.file_records.specs.declared.map.source.Signal.{Signal}
use Rattle.file_records.specs.recorded.Channels.{id_of, loss_signals, signals_of, terminal_signals, word_id}
use Rattle.file_records.proofs.recorded_lemmas.Fields.{IsField, all_weaker, is_field_byte, solid}
use Rattle.file_records.proofs.recorded_lemmas.Lists.{AtPlaces, length_below, places_append, places_at, places_below}

-- ---- names have no blank

abbrev pub IsSolid : List ℕ → Type 0
IsSolid f = list_all (λ b. nat_lt 44 b) f ≡ true

from_range : (low high b : ℕ) → 45 ≤ low → is_in_range low high b ≡ true → 44 < b
from_range low high b above inside =
    let least : low ≤ b = leb-true low b (and_parts (nat_le low b) (nat_le b high) inside).0 in
    omega arith

alphanumeric : (b : ℕ) → is_ascii_alphanumeric b ≡ true → 44 < b
alphanumeric b is = elim (or_cases (is_in_range 48 57 b || is_in_range 65 90 b) (is_in_range 97 122 b) is) [
  | inl other ↦ elim (or_cases (is_in_range 48 57 b) (is_in_range 65 90 b) other) [
    | inl digit ↦ from_range 48 57 b (omega arith) digit
    | inr upper ↦ from_range 65 90 b (omega arith) upper
  ]
  | inr lower ↦ from_range 97 122 b (omega arith) lower
]

plain_above : (b : ℕ) → is_plain_byte b ≡ true → 44 < b
plain_above b plain = elim (or_cases (is_ascii_alphanumeric b) ((b == 95) || (b == 45)) plain) [
  | inl letter ↦ alphanumeric b letter
  | inr mark ↦ elim (or_cases (b == 95) (b == 45) mark) [
    | inl under ↦ (let is : b ≡ 95 = eqb-true b 95 under in omega arith)
    | inr dash ↦ (let is : b ≡ 45 = eqb-true b 45 dash in omega arith)
  ]
]

plain_solid : (b : ℕ) → is_plain_byte b ≡ true → nat_lt 44 b ≡ true
plain_solid b plain = lt-ltb 44 b (plain_above b plain)

pub record IsName (name : List ℕ) : Type 0 where
  pub solid : IsSolid name
  pub some : 0 < length name

pub plain_name : (name : List ℕ) → is_plain_name name ≡ true → IsName name
plain_name name plain =
    let parts = and_parts _ _ plain in
    let more = and_parts _ _ parts.1 in
    record {
      solid = all_weaker is_plain_byte (λ b. nat_lt 44 b) plain_solid name more.1;
      some = leb-true 1 (length name) parts.0;
    }

name_of_list : (ts : List Terminal) (k : ℕ) → list_all (λ t. is_plain_name t.name) ts ≡ true
    → k < length ts → IsName (get_or (map (λ t. t.name) ts) k [])
name_of_list [] k plain within = absurd (omega arith)
name_of_list (t ∷ ts) zero plain within =
    plain_name t.name (and_parts (is_plain_name t.name) (list_all (λ u. is_plain_name u.name) ts) plain).0
name_of_list (t ∷ ts) (suc k) plain within =
    name_of_list ts k (and_parts (is_plain_name t.name) (list_all (λ u. is_plain_name u.name) ts) plain).1
    (omega arith)

pub name_is : (line : Line) (k : ℕ) → k < terminal_count line → IsName (terminal_name line k)
name_is line k within = name_of_list line.terminals.items k line.plain_names within

-- names are of one terminal each
same_terminal : (line : Line) (j k : ℕ) → j < terminal_count line → k < terminal_count line
    → terminal_name line j ≡ terminal_name line k → j ≡ k
same_terminal line j k first second same = elim (cases_order j k) [
  | inl equal ↦ equal
  | inr other ↦ elim other [
    | inl less ↦ absurd (line.names_once j k less second same)
    | inr more ↦ absurd (line.names_once k j more first (sym same))
  ]
]

-- ---- two parts

-- what stands before the first blank, and what behind it
parts_are : (a b x y : List ℕ) → IsSolid a → IsSolid b → a ++ 32 ∷ x ≡ b ++ 32 ∷ y → (a ≡ b) × (x ≡ y)
parts_are [] [] x y first second same = (refl, cc)
parts_are [] (d ∷ b) x y first second same =
    let here : 32 ≡ d = cc in
    let parts = and_parts (nat_lt 44 d) (list_all (λ b. nat_lt 44 b) b) second in
    let above : 44 < d = ltb-true 44 d parts.0 in
    absurd (omega arith)
parts_are (c ∷ a) [] x y first second same =
    let here : c ≡ 32 = cc in
    let parts = and_parts (nat_lt 44 c) (list_all (λ b. nat_lt 44 b) a) first in
    let above : 44 < c = ltb-true 44 c parts.0 in
    absurd (omega arith)
parts_are (c ∷ a) (d ∷ b) x y first second same =
    let here : c ≡ d = cc in
    let behind : a ++ 32 ∷ x ≡ b ++ 32 ∷ y = cc in
    let rest = parts_are a b x y
    (and_parts (nat_lt 44 c) (list_all (λ b. nat_lt 44 b) a) first).1
    (and_parts (nat_lt 44 d) (list_all (λ b. nat_lt 44 b) b) second).1 behind in
    let front = rest.0 in
    (cc, rest.1)

-- ---- what the id at a place is

-- which of a terminal's channels a word is of
abbrev pub word_place : List ℕ → ℕ
word_place word =
    if get_or word 0 0 == 122 then (if get_or word 1 0 == 49 then 0 else 1)
    else if get_or word 0 0 == 114 then 2 else if get_or word 0 0 == 117 then 3
    else if get_or word 0 0 == 99 then 4 else if get_or word 0 0 == 107 then 5 else 6

-- of a word of terminal k
pub record IsWord (line : Line) (place : ℕ) (id : List ℕ) (k : ℕ) (word : List ℕ) : Type 0 where
  pub terminal : k < terminal_count line
  pub is : id ≡ terminal_name line k ++ 32 ∷ word
  pub at : place ≡ 7 * k + word_place word
  pub apart : get_or word 0 0 ≢ 108
  pub solid : IsSolid word
  pub some : 0 < length word

-- of the loss of channel c
pub record IsLoss (line : Line) (place : ℕ) (id : List ℕ) (c : ℕ) : Type 0 where
  pub channel : c < length line.channels.items
  pub is : id ≡ terminal_name line (to_of line.channels.items c)
      ++ 32 ∷ 108 ∷ 111 ∷ 115 ∷ 116 ∷ 32 ∷ terminal_name line (from_of line.channels.items c)
  pub at : place ≡ 7 * terminal_count line + c

pub data IsId (line : Line) (place : ℕ) (id : List ℕ) : Type 0 where
  word_of : (k : ℕ) (word : List ℕ) → IsWord line place id k word → IsId line place id
  loss_of : (c : ℕ) → IsLoss line place id c → IsId line place id

abbrev pub HasId : Line → ℕ → Signal → Type 0
HasId line place signal = IsId line place (id_of line signal)

own_word : (line : Line) (k place : ℕ) (word : List ℕ) → k < terminal_count line
    → place ≡ 7 * k + word_place word → get_or word 0 0 ≢ 108 → IsSolid word → 0 < length word
    → IsId line place (word_id line k word)
own_word line k place word terminal at apart solid some = word_of k word (record {
  terminal = terminal;
  is = ap (λ (l : List ℕ). terminal_name line k ++ 32 ∷ l) (append-nil word);
  at = at;
  apart = apart;
  solid = solid;
  some = some;
})

ids_of_terminal : (line : Line) (k : ℕ) → k < terminal_count line
    → AtPlaces (HasId line) (0 + 7 * k) (terminal_signals k)
ids_of_terminal line k within = (
  own_word line k (0 + 7 * k) (codes "z1") within (omega arith) (λ e. absurd (omega arith)) refl (omega arith),
  (
    own_word line k (0 + 7 * k + 1) (codes "z2") within (omega arith) (λ e. absurd (omega arith)) refl (omega arith),
    (
      own_word line k (0 + 7 * k + 1 + 1) (codes "rv") within (omega arith) (λ e. absurd (omega arith)) refl (omega arith),
      (
        own_word line k (0 + 7 * k + 1 + 1 + 1) (codes "uv") within (omega arith) (λ e. absurd (omega arith)) refl (omega arith),
        (
          own_word line k (0 + 7 * k + 1 + 1 + 1 + 1) (codes "cur") within (omega arith) (λ e. absurd (omega arith)) refl (omega arith),
          (
            own_word line k (0 + 7 * k + 1 + 1 + 1 + 1 + 1) (codes "key") within (omega arith) (λ e. absurd (omega arith)) refl (omega arith),
            (
              own_word line k (0 + 7 * k + 1 + 1 + 1 + 1 + 1 + 1) (codes "trip") within (omega arith) (λ e. absurd (omega arith)) refl (omega arith),
              tt,
            ),
          ),
        ),
      ),
    ),
  ),
)

ids_of_loss : (line : Line) (c : ℕ) → c < length line.channels.items
    → AtPlaces (HasId line) (7 * terminal_count line + 1 * c) (loss_signals c)
ids_of_loss line c within =
    let to : List ℕ = terminal_name line (to_of line.channels.items c) in
    let from : List ℕ = terminal_name line (from_of line.channels.items c) in (
      loss_of c (record {
        channel = within;
        is = ap (λ (l : List ℕ). to ++ 32 ∷ 108 ∷ 111 ∷ 115 ∷ 116 ∷ 32 ∷ l) (append-nil from);
        at = omega arith;
      }),
      tt,
    )

pub ids_are : (line : Line) → AtPlaces (HasId line) 0 (signals_of line)
ids_are line =
    let n : ℕ = terminal_count line in
    let m : ℕ = length line.channels.items in
    let long = length_below terminal_signals 7 n (λ k. refl) in
    places_append (HasId line) 0 (7 * n) (each_below n terminal_signals) (each_below m loss_signals) (omega arith)
    (places_below (HasId line) terminal_signals 7 0 n (λ k. refl) (ids_of_terminal line))
    (places_below (HasId line) loss_signals 1 (7 * n) m (λ c. refl) (ids_of_loss line))

-- ---- an id has one place

lost_tail : (a b : List ℕ)
    → 108 ∷ 111 ∷ 115 ∷ 116 ∷ 32 ∷ a ≡ 108 ∷ 111 ∷ 115 ∷ 116 ∷ 32 ∷ b → a ≡ b
lost_tail a b same = cc

one_place : (line : Line) (p q : ℕ) (a b : List ℕ) → IsId line p a → IsId line q b → a ≡ b → p ≡ q
one_place line p q a b (word_of j v first) (word_of k w second) same =
    let parts = parts_are (terminal_name line j) (terminal_name line k) v w
    (name_is line j first.terminal).solid (name_is line k second.terminal).solid
    (sym first.is ∙ same ∙ second.is) in
    let terminal = same_terminal line j k first.terminal second.terminal parts.0 in
    first.at
    ∙ ap (λ (n : ℕ). 7 * n + word_place v) terminal
    ∙ ap (λ (x : List ℕ). 7 * k + word_place x) parts.1
    ∙ sym second.at
one_place line p q a b (word_of j v first) (loss_of c second) same =
    let parts = parts_are (terminal_name line j) (terminal_name line (to_of line.channels.items c)) v _
    (name_is line j first.terminal).solid
    (name_is line (to_of line.channels.items c) (line.pairs_once.to c second.channel)).solid
    (sym first.is ∙ same ∙ second.is) in
    absurd (first.apart (ap (λ (x : List ℕ). get_or x 0 0) parts.1))
one_place line p q a b (loss_of c first) (word_of k w second) same =
    let parts = parts_are (terminal_name line k) (terminal_name line (to_of line.channels.items c)) w _
    (name_is line k second.terminal).solid
    (name_is line (to_of line.channels.items c) (line.pairs_once.to c first.channel)).solid
    (sym second.is ∙ sym same ∙ first.is) in
    absurd (second.apart (ap (λ (x : List ℕ). get_or x 0 0) parts.1))
one_place line p q a b (loss_of c first) (loss_of e second) same =
    let cs = line.channels.items in
    let pairs = line.pairs_once in
    let parts = parts_are (terminal_name line (to_of cs c)) (terminal_name line (to_of cs e)) _ _
    (name_is line (to_of cs c) (pairs.to c first.channel)).solid
    (name_is line (to_of cs e) (pairs.to e second.channel)).solid
    (sym first.is ∙ same ∙ second.is) in
    let to = same_terminal line (to_of cs c) (to_of cs e) (pairs.to c first.channel)
    (pairs.to e second.channel) parts.0 in
    let from = same_terminal line (from_of cs c) (from_of cs e) (pairs.from c first.channel)
    (pairs.from e second.channel)
    (lost_tail (terminal_name line (from_of cs c)) (terminal_name line (from_of cs e)) parts.1) in
    let both : Some c ≡ Some e =
    sym (pairs.once c first.channel)
    ∙ ap (λ (n : ℕ). channel_number cs n (to_of cs c)) from
    ∙ ap (λ (n : ℕ). channel_number cs (from_of cs e) n) to
    ∙ pairs.once e second.channel in
    let one : c ≡ e = cc in
    first.at ∙ ap (λ (n : ℕ). 7 * terminal_count line + n) one ∙ sym second.at

-- ---- what an id names

module _ (line : Line) (i : ℕ) (d : Signal) (within : i < length (signals_of line)) where
  abbrev ids : List (List ℕ)
  ids = map (id_of line) (signals_of line)

  abbrev own : List ℕ
  own = id_of line (get_or (signals_of line) i d)

  id_there : (k : ℕ) → k < length (signals_of line)
      → get_or ids k [] ≡ id_of line (get_or (signals_of line) k d)
  id_there k less = get_or-map (id_of line) (signals_of line) k d [] less

  -- the channel at another place has another id
  other_id : (k : ℕ) → k < length (signals_of line) → k ≢ i → has_id own (get_or ids k []) ≡ false
  other_id k less apart =
      false_from_ne_true (bytes_eq (get_or ids k []) own) (λ same.
      let equal = (bytes_eq-Decides (get_or ids k []) own).0 same in
      let place : 0 + k ≡ 0 + i =
      one_place line (0 + k) (0 + i) (id_of line (get_or (signals_of line) k d)) own
      (places_at (HasId line) 0 k (signals_of line) d less (ids_are line))
      (places_at (HasId line) 0 i (signals_of line) d within (ids_are line))
      (sym (id_there k less) ∙ equal) in
      apart (omega arith))

  first_there : position_or_len (has_id own) ids ≡ i
  first_there =
      let long = length-map (signals_of line) (id_of line) in
      position_or_len_is (has_id own) ids i [] (omega arith)
      (λ k less. other_id k (omega arith) (λ e. absurd (omega arith)))
      (λ there. (bytes_eq-Decides (get_or ids i []) own).1 (id_there i within))

  none_behind : list_any (has_id own) (drop (i + 1) ids) ≡ false
  none_behind =
      let long = length-map (signals_of line) (id_of line) in
      let rest = length-drop (i + 1) ids in
      list_any_none (has_id own) (drop (i + 1) ids)
      (All-from_get_or (λ x. has_id own x ≡ false) (drop (i + 1) ids) [] (λ k less.
      ap (has_id own) (get_or-drop (i + 1) ids k [])
      ∙ other_id (i + 1 + k) (omega arith) (λ e. absurd (omega arith))))

  pub named_there : named_in ids own ≡ One i
  named_there =
      let long = length-map (signals_of line) (id_of line) in
      let inside : nat_lt i (length ids) ≡ true = lt-ltb i (length ids) (omega arith) in
      rw (first_there, inside, none_behind) refl

-- ---- an id is a field

last_of : (b : ℕ) (f : List ℕ) → nat_lt 44 (get_or (b ∷ f) (length (b ∷ f) - 1) 45) ≡ true
    → nat_lt 44 (get_or (32 ∷ b ∷ f) (length (b ∷ f)) 45) ≡ true
last_of b f last =
    let at : length f ≡ length (b ∷ f) - 1 = omega arith in
    ap (λ (k : ℕ). nat_lt 44 (get_or (b ∷ f) k 45)) at ∙ last

spaced : (a f : List ℕ) → IsName a → IsField f → 0 < length f → IsField (a ++ 32 ∷ f)
spaced [] f name field some = let none = name.some in absurd (omega arith)
spaced (c ∷ a) [] name field some = absurd (omega arith)
spaced (c ∷ a) (b ∷ f) name field some =
    let before : List ℕ = c ∷ a in
    let after : List ℕ = b ∷ f in
    let whole : List ℕ = before ++ 32 ∷ after in
    let long : length whole ≡ length before + length (32 ∷ after) = length-append before (32 ∷ after) in
    let end : length whole - 1 ≡ length before + length after = omega arith in
    record {
      bytes =
          list_all-append is_field_byte before (32 ∷ after)
          ∙ and_from (list_all is_field_byte before) (list_all is_field_byte (32 ∷ after))
          (solid before name.solid).bytes field.bytes;
      first = (solid before name.solid).first;
      last =
          ap (λ (k : ℕ). nat_lt 44 (get_or whole k 45)) end
          ∙ ap (nat_lt 44) (get_or-append-add before (32 ∷ after) (length after) 45)
          ∙ last_of b f field.last;
    }

id_field : (line : Line) (place : ℕ) (id : List ℕ) → IsId line place id → IsField id
id_field line place id (word_of k word is) =
    subst IsField (sym is.is)
    (spaced (terminal_name line k) word (name_is line k is.terminal) (solid word is.solid) is.some)
id_field line place id (loss_of c is) =
    let cs = line.channels.items in
    let from = name_is line (from_of cs c) (line.pairs_once.from c is.channel) in
    let lost : List ℕ = 108 ∷ 111 ∷ 115 ∷ 116 ∷ [] in
    subst IsField (sym is.is)
    (spaced (terminal_name line (to_of cs c)) (lost ++ 32 ∷ terminal_name line (from_of cs c))
    (name_is line (to_of cs c) (line.pairs_once.to c is.channel))
    (spaced lost (terminal_name line (from_of cs c)) (record { solid = refl; some = omega arith })
    (solid (terminal_name line (from_of cs c)) from.solid) from.some)
    (omega arith))

pub id_is_field : (line : Line) (k : ℕ) (d : Signal) → k < length (signals_of line)
    → IsField (id_of line (get_or (signals_of line) k d))
id_is_field line k d within =
    id_field line (0 + k) (id_of line (get_or (signals_of line) k d))
    (places_at (HasId line) 0 k (signals_of line) d within (ids_are line))
