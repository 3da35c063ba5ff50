-- The text of two lists, of which an element of each has its own text, one after another.
use Rattle.std.proofs.Common.{◌≡◌, ◌+◌, ◌<◌, ◌≤◌, ℕ, true, List, [], ◌∷◌, ◌++◌, length, map, take}
use Rattle.std.proofs.Common.{get_or, sym, ◌∙◌, ap, subst, arith, append_assoc}
use Rattle.std.proofs.lemmas.List.{append-nil, take_more, take_all, map-append, length-map}
use Rattle.std.proofs.lemmas.List.{length-take-le}
use Rattle.std.proofs.lemmas.List.Elements.{All-head, All-tail}
use Rattle.std.specs.List.{All, flat_map}
use Rattle.base_text.specs.lines.Lines.{Lines, is_one_line}
use Rattle.cert_claims.specs.text.Text.{fed}

-- ---- the text grows

module _ {A B : Type 0} (own : A → B → List ℕ) (text : List A → List B → List ℕ)
    (none : text [] [] ≡ [])
    (both : (a : A) (xs : List A) (b : B) (ys : List B)
    → text (a ∷ xs) (b ∷ ys) ≡ own a b ++ text xs ys) where
  -- the text of some pairs, and of one more
  pub pairs_push : (xs : List A) (ys : List B) (a : A) (b : B) → length xs ≡ length ys
      → text (xs ++ a ∷ []) (ys ++ b ∷ []) ≡ text xs ys ++ own a b
  pairs_push [] [] a b long =
      both a [] b [] ∙ ap (λ (l : List ℕ). own a b ++ l) none ∙ append-nil (own a b)
      ∙ sym (ap (λ (l : List ℕ). l ++ own a b) none)
  pairs_push [] (y ∷ ys) a b long = absurd (omega arith)
  pairs_push (x ∷ xs) [] a b long = absurd (omega arith)
  pairs_push (x ∷ xs) (y ∷ ys) a b long =
      both x (xs ++ a ∷ []) y (ys ++ b ∷ [])
      ∙ ap (λ (l : List ℕ). own x y ++ l) (pairs_push xs ys a b (omega arith))
      ∙ sym (append_assoc (own x y) (text xs ys) (own a b))
      ∙ sym (ap (λ (l : List ℕ). l ++ own a b) (both x xs y ys))

  -- the text of the first pairs, and of the next
  pub pairs_more : {X : Type 0} (of : X → B) (xs : List A) (zs : List X) (k : ℕ) (d : A) (e : X)
      → k < length xs → k < length zs
      → text (take (k + 1) xs) (map of (take (k + 1) zs))
      ≡ text (take k xs) (map of (take k zs)) ++ own (get_or xs k d) (of (get_or zs k e))
  pairs_more of xs zs k d e inside within =
      let one : take (k + 1) xs ≡ take k xs ++ get_or xs k d ∷ [] = take_more xs k d inside in
      let other : map of (take (k + 1) zs) ≡ map of (take k zs) ++ of (get_or zs k e) ∷ [] =
      ap (map of) (take_more zs k e within) ∙ map-append of (take k zs) (get_or zs k e ∷ []) in
      let long : length (take k xs) ≡ length (map of (take k zs)) =
      length-take-le k xs (omega arith) ∙ sym (length-map (take k zs) of
      ∙ length-take-le k zs (omega arith)) in
      ap (λ (l : List A). text l (map of (take (k + 1) zs))) one
      ∙ ap (λ (l : List B). text (take k xs ++ get_or xs k d ∷ []) l) other
      ∙ pairs_push (take k xs) (map of (take k zs)) (get_or xs k d) (of (get_or zs k e)) long

-- the text of all pairs
pub pairs_all : {A B X : Type 0} (text : List A → List B → List ℕ) (of : X → B) (xs : List A)
    (zs : List X) (k : ℕ) → length xs ≤ k → length zs ≤ k
    → text (take k xs) (map of (take k zs)) ≡ text xs (map of zs)
pairs_all {A} {B} {X} text of xs zs k a b =
    ap (λ (l : List A). text l (map of (take k zs))) (take_all k xs a)
    ∙ ap (λ l. text xs (map of l)) (take_all k zs b)

-- a text to which two more were added, one after the other
pub two_added : (start texts before between after first last : List ℕ) → before ≡ start ++ texts
    → between ≡ before ++ first → after ≡ between ++ last
    → after ≡ start ++ (texts ++ (first ++ last))
two_added start texts before between after first last a b c =
    c ∙ ap (λ (l : List ℕ). l ++ last) (b ∙ ap (λ (l : List ℕ). l ++ first) a)
    ∙ append_assoc (start ++ texts) first last ∙ append_assoc start texts (first ++ last)

-- ---- its lines stand

module _ {K M : Type 0} (stands : K → M → List ℕ → Type 0) (opens : K → M → List K) where
  -- one line in front of others
  pub stand_one : (place : K) (places : List K) (m : M) (more : List M) (bytes text : List ℕ)
      (left : List K) (rest : List ℕ) → is_one_line bytes ≡ true → stands place m bytes
      → Lines stands opens (opens place m ++ places) more text left rest
      → Lines stands opens (place ∷ places) (m ∷ more) (fed bytes ++ text) left rest
  stand_one place places m more bytes text left rest whole there next = (
    bytes,
    (
      text,
      (record { whole = whole; is = append_assoc bytes (10 ∷ []) text }, (there, next)),
    ),
  )

  -- one line in front of a text that stands in front of others
  pub stand_headed : (place : K) (places : List K) (m : M) (more : List M)
      (bytes body text : List ℕ) (left : List K) (rest : List ℕ) → is_one_line bytes ≡ true
      → stands place m bytes
      → Lines stands opens (opens place m ++ places) more (body ++ text) left rest
      → Lines stands opens (place ∷ places) (m ∷ more) ((fed bytes ++ body) ++ text) left rest
  stand_headed place places m more bytes body text left rest whole there next =
      subst (λ (t : List ℕ). Lines stands opens (place ∷ places) (m ∷ more) t left rest)
      (sym (append_assoc (fed bytes) body text))
      (stand_one place places m more bytes (body ++ text) left rest whole there next)

module _ {A B K M : Type 0} (stands : K → M → List ℕ → Type 0) (opens : K → M → List K)
    (own : A → B → List ℕ) (text : List A → List B → List ℕ) (none : text [] [] ≡ [])
    (both : (a : A) (xs : List A) (b : B) (ys : List B)
    → text (a ∷ xs) (b ∷ ys) ≡ own a b ++ text xs ys)
    (places : A → List K) (said : B → List M) (IsFirst : A → Type 0) (IsSecond : B → Type 0)
    (one : (a : A) (b : B) (later : List K) (more : List M) (bytes : List ℕ) (left : List K)
    (rest : List ℕ) → IsFirst a → IsSecond b → Lines stands opens later more bytes left rest
    → Lines stands opens (places a ++ later) (said b ++ more) (own a b ++ bytes) left rest) where
  -- where the lines of each pair stand, those of all stand
  pub pairs_stand : (xs : List A) (ys : List B) (later : List K) (more : List M) (bytes : List ℕ)
      (left : List K) (rest : List ℕ) → length ys ≡ length xs → All IsFirst xs → All IsSecond ys
      → Lines stands opens later more bytes left rest
      → Lines stands opens (flat_map places xs ++ later) (flat_map said ys ++ more)
      (text xs ys ++ bytes) left rest
  pairs_stand [] [] later more bytes left rest long first second next =
      subst (λ (t : List ℕ). Lines stands opens later more (t ++ bytes) left rest) (sym none) next
  pairs_stand [] (y ∷ ys) later more bytes left rest long first second next = absurd (omega arith)
  pairs_stand (x ∷ xs) [] later more bytes left rest long first second next = absurd (omega arith)
  pairs_stand (x ∷ xs) (y ∷ ys) later more bytes left rest long first second next =
      let open_to : List K = flat_map places xs in
      let says : List M = flat_map said ys in
      let others : List ℕ = text xs ys in
      let all = one x y (open_to ++ later) (says ++ more) (others ++ bytes) left rest
      (All-head IsFirst x xs first) (All-head IsSecond y ys second)
      (pairs_stand xs ys later more bytes left rest (omega arith) (All-tail IsFirst x xs first)
      (All-tail IsSecond y ys second) next) in
      let P : List K → Type 0 = λ p. Lines stands opens p (said y ++ (says ++ more))
      (own x y ++ (others ++ bytes)) left rest in
      let Q : List M → Type 0 = λ l. Lines stands opens ((places x ++ open_to) ++ later) l
      (own x y ++ (others ++ bytes)) left rest in
      let R : List ℕ → Type 0 = λ t. Lines stands opens ((places x ++ open_to) ++ later)
      ((said y ++ says) ++ more) t left rest in
      subst R (sym (ap (λ (l : List ℕ). l ++ bytes) (both x xs y ys)
      ∙ append_assoc (own x y) others bytes))
      (subst Q (sym (append_assoc (said y) says more))
      (subst P (sym (append_assoc (places x) open_to later)) all))
