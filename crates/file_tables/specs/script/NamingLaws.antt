-- A terminal or a channel is found by its own name.
use Rattle.std.proofs.Common.{◌≡◌, ◌≢◌, ◌&&◌, ◌==◌, ℕ, ◌<◌, true, false}
use Rattle.std.proofs.Common.{List, [], ◌∷◌, ◌++◌, length, get_or, Some, refl, sym, ap, ◌∙◌, arith}
use Rattle.std.proofs.Common.{eq-eqb, inl, inr, subst, zero-add}
use Rattle.std.proofs.lemmas.Bool.{cases_lt, and_parts}
use Rattle.std.proofs.lemmas.List.{get_or-map}
use Rattle.std.proofs.lemmas.List.Sums.{AllPass-from_list_all}
use Rattle.std.proofs.lemmas.Option.{slice_get-get_or}
use Rattle.std.proofs.lemmas.Slice.Eq.{bytes_eq-Decides}
use Rattle.std.specs.Prelude.{nat_le, slice_get}
use Rattle.std.specs.List.{list_all, position_from}
use Rattle.std.specs.Str.{bytes_eq}
use Rattle.model_line.specs.FirstPositionLaws.{position_from-first, none_before, list_any-take_none}
use Rattle.model_line.specs.PlainNames.{is_plain_byte, is_plain_name}
use Rattle.model_line.specs.Terminals.{are_plain_names, NamesDiffer}
use Rattle.model_line.specs.Channels.{AreChannels, is_pair, from_of, to_of}
use Rattle.model_line.specs.ParamNames.{name_at, pair_name, channel_name}
use Rattle.model_line.specs.{declared.line.Terminal.Terminal, declared.line.Channel.Channel}
use Rattle.model_line.specs.TextLaws.{bytes_differ}
use Rattle.model_names.specs.NumbersByName.{has_name}

-- what has a name of its own is found by it
found_by_name : {X : Type 0} (name : X → List ℕ) (xs : List X) (k : ℕ) (d : X) → k < length xs
    → ((j : ℕ) → j < k → name (get_or xs j d) ≢ name (get_or xs k d))
    → position_from (λ x. bytes_eq (name x) (name (get_or xs k d))) 0 xs ≡ Some k
found_by_name name xs k d below other =
    let own : List ℕ = name (get_or xs k d) in
    position_from-first (λ x. bytes_eq (name x) own) 0 k xs d below
    (list_any-take_none (λ x. bytes_eq (name x) own) k xs d
    (λ j less. bytes_differ (name (get_or xs j d)) own (other j less)))
    ((bytes_eq-Decides own own).1 refl)
    ∙ ap (λ i. Some i) (zero-add k)

-- the name of a terminal by its number
name_at-get : (ts : List Terminal) (k : ℕ) (d : Terminal) → k < length ts
    → name_at ts k ≡ (get_or ts k d).name
name_at-get ts k d below = get_or-map (λ (t : Terminal). t.name) ts k d [] below

module _ (ts : List Terminal) (differ : NamesDiffer ts (length ts)) where
  -- two terminals of one name are one
  pub same_terminal : (j k : ℕ) → j < length ts → k < length ts → name_at ts j ≡ name_at ts k
      → j ≡ k
  same_terminal j k below_j below_k same = elim (cases_lt j k) [
    | inl less ↦ absurd (differ j k less below_k same)
    | inr more ↦ elim (cases_lt k j) [
      | inl less ↦ absurd (differ k j less below_j (sym same))
      | inr again ↦ omega arith
    ]
  ]

  pub terminal_found : (k : ℕ) (d : Terminal) → k < length ts
      → position_from (λ t. bytes_eq t.name (name_at ts k)) 0 ts ≡ Some k
  terminal_found k d below =
      ap (λ (name : List ℕ). position_from (λ (t : Terminal). bytes_eq t.name name) 0 ts)
      (name_at-get ts k d below)
      ∙ found_by_name (λ (t : Terminal). t.name) ts k d below
      (λ j less same. differ j k less below
      (name_at-get ts j d (omega arith) ∙ same ∙ sym (name_at-get ts k d below)))

-- the names of a line's terminals are of plain bytes
plain_at : (ts : List Terminal) (k : ℕ) (d : Terminal) → are_plain_names ts ≡ true → k < length ts
    → list_all is_plain_byte (name_at ts k) ≡ true
plain_at ts k d plain below =
    let t : Terminal = get_or ts k d in
    let here : is_plain_name t.name ≡ true =
    AllPass-from_list_all (λ (u : Terminal). is_plain_name u.name) ts plain k d below in
    let (some, more) = and_parts (nat_le 1 (length t.name)) _ here in
    let (few, bytes) = and_parts (nat_le (length t.name) 16) _ more in
    rw (name_at-get ts k d below) bytes

-- a `>` parts two names in one way
pub record IsSameParts (a c b d : List ℕ) : Type 0 where
  pub front : a ≡ c
  pub back : b ≡ d

parts : (a c b d : List ℕ) → list_all is_plain_byte a ≡ true → list_all is_plain_byte c ≡ true
    → a ++ (62 ∷ b) ≡ c ++ (62 ∷ d) → IsSameParts a c b d
parts [] [] b d p q e = record { front = refl; back = cc }
parts [] (y ∷ c) b d p q e =
    let head : 62 ≡ y = cc in
    let plain = (and_parts (is_plain_byte y) (list_all is_plain_byte c) q).0 in
    let none : is_plain_byte 62 ≡ true =
    subst (λ (z : ℕ). is_plain_byte z ≡ true) (sym head) plain in
    absurd (cc)
parts (x ∷ a) [] b d p q e =
    let head : x ≡ 62 = cc in
    let plain = (and_parts (is_plain_byte x) (list_all is_plain_byte a) p).0 in
    let none : is_plain_byte 62 ≡ true = subst (λ (z : ℕ). is_plain_byte z ≡ true) head plain in
    absurd (cc)
parts (x ∷ a) (y ∷ c) b d p q e =
    let head : x ≡ y = cc in
    let tail : a ++ (62 ∷ b) ≡ c ++ (62 ∷ d) = cc in
    let rest = parts a c b d (and_parts (is_plain_byte x) (list_all is_plain_byte a) p).1
    (and_parts (is_plain_byte y) (list_all is_plain_byte c) q).1 tail in
    let front = rest.front in
    record { front = cc; back = rest.back }

module _ (ts : List Terminal) (cs : List Channel) (plain : are_plain_names ts ≡ true)
    (differ : NamesDiffer ts (length ts)) (pairs : AreChannels (length ts) cs)
    (c : ℕ) (d : Channel) (below : c < length cs) where
  from_below : (j : ℕ) → j < length cs → (get_or cs j d).from < length ts
  from_below j inside =
      let bound = pairs.from j inside in
      let at = get_or-map (λ (h : Channel). h.from) cs j d 0 inside in
      omega arith

  to_below : (j : ℕ) → j < length cs → (get_or cs j d).to < length ts
  to_below j inside =
      let bound = pairs.to j inside in
      let at = get_or-map (λ (h : Channel). h.to) cs j d 0 inside in
      omega arith

  -- a channel of the same name has the same ends
  same_ends : (j : ℕ) → j < length cs → pair_name ts (get_or cs j d) ≡ pair_name ts (get_or cs c d)
      → is_pair (from_of cs c) (to_of cs c) (get_or cs j d) ≡ true
  same_ends j inside same =
      let here : Channel = get_or cs j d in
      let there : Channel = get_or cs c d in
      let no_terminal : Terminal = record { name = []; weak = false; guard = false } in
      let p = parts (name_at ts here.from) (name_at ts there.from) (name_at ts here.to)
      (name_at ts there.to) (plain_at ts here.from no_terminal plain (from_below j inside))
      (plain_at ts there.from no_terminal plain (from_below c below)) same in
      let from = same_terminal ts differ here.from there.from (from_below j inside)
      (from_below c below) p.front in
      let to = same_terminal ts differ here.to there.to (to_below j inside) (to_below c below)
      p.back in
      let from_c = get_or-map (λ (h : Channel). h.from) cs c d 0 below in
      let to_c = get_or-map (λ (h : Channel). h.to) cs c d 0 below in
      ap (λ b. b && (here.to == to_of cs c)) (eq-eqb here.from (from_of cs c) (from ∙ sym from_c))
      ∙ eq-eqb here.to (to_of cs c) (to ∙ sym to_c)

  pub channel_found : position_from (has_name ts (pair_name ts (get_or cs c d))) 0 cs ≡ Some c
  channel_found =
      found_by_name (pair_name ts) cs c d below (λ j less same.
      let passes = same_ends j (omega arith) same in
      let none = none_before (is_pair (from_of cs c) (to_of cs c)) 0 c j cs d
      (pairs.once c below ∙ ap (λ i. Some i) (sym (zero-add c))) less in
      (let e : true ≡ false = sym passes ∙ none in cc))

-- the name of the channel that stands at a place
pub channel_name-got : (ts : List Terminal) (cs : List Channel) (c : ℕ) (h : Channel)
    → c < length cs → h ≡ get_or cs c h
    → channel_name ts (slice_get cs c) ≡ pair_name ts h
channel_name-got ts cs c h below got =
    ap (channel_name ts) (slice_get-get_or cs c h below) ∙ ap (pair_name ts) (sym got)

-- the ends of the channel that stands at a place
pub ends_of-got : (n : ℕ) (cs : List Channel) (c : ℕ) (h : Channel) → AreChannels n cs
    → c < length cs → h ≡ get_or cs c h → (h.from < n) × (h.to < n)
ends_of-got n cs c h pairs below got =
    let from = get_or-map (λ (x : Channel). x.from) cs c h 0 below in
    let to = get_or-map (λ (x : Channel). x.to) cs c h 0 below in
    let from_is = ap (λ (x : Channel). x.from) got in
    let to_is = ap (λ (x : Channel). x.to) got in
    let from_bound = pairs.from c below in
    let to_bound = pairs.to c below in
    (omega arith, omega arith)
