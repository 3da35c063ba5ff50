-- Laws of what a text says of several scripts: it has one first fault, and none where all is good.
use Rattle.std.proofs.Common.{◌≡◌, ◌<◌, ◌+◌, ◌⊎◌, ⊎_elim, ℕ, List, Some, length, map, get_or}
use Rattle.std.proofs.Common.{refl, sym, ◌∙◌, ap, subst, arith}
use Rattle.std.proofs.lemmas.Bool.{cases_lt}
use Rattle.std.proofs.lemmas.List.{length-map}
use Rattle.std.proofs.lemmas.Option.{same_Some, slice_get_read, slice_get_within}
use Rattle.std.proofs.Math.ListN.{get_or-map}
use Rattle.std.specs.Prelude.{slice_get, Result, Ok, Err, IfOk}
use Rattle.std.specs.List.{All}
use Rattle.model_history.specs.BelowLaws.{neither_below}
use Rattle.base_memory.specs.{Gives.OfFault, declared.stopped.Stopped.Stopped}
use Rattle.base_memory.specs.declared.stopped.Stopped.TheVariants as stopped
use Rattle.model_line.specs.declared.script.Script.{Script}
use Rattle.cert_claims.specs.text.Grammar.{Verdict}
use Rattle.cert_claims.specs.declared.check.counts.Counts.{Counts}
use Rattle.cert_claims.specs.check.Firsts.{EachOf, IsWrongFirst}
use Rattle.cert_claims.specs.check.Scripts.{EachBelow, IsAllGood, IsFirstWrong}

-- ---- elements of lists, as loops meet them

module _ {A B : Type 0} (f : A → B) (xs : List A) (i : ℕ) (x : A) (inside : i < length xs)
    (is : x ≡ get_or xs i x) where
  mapped_at : get_or (map f xs) i (f x) ≡ f x
  mapped_at = get_or-map f xs i x ∙ ap f (sym is)

  -- what holds of the image of each holds of this one
  pub each_mapped : (P : B → Type 0) → All P (map f xs) → P (f x)
  each_mapped P each =
      subst P mapped_at (each i (f x) (omega (arith, inside, length-map xs f)))

  pub slice_mapped : slice_get (map f xs) i ≡ Some (f x)
  slice_mapped =
      slice_get_read (map f xs) (length (map f xs)) i (f x) refl
      (omega (arith, inside, length-map xs f)) (sym mapped_at)

-- script i, and what is said of it, where that is made of an item of a list
pub script_at : {A Said : Type 0} (f : A → Said) (scripts : List Script) (items : List A) (i : ℕ)
    (script : Script) (item : A) → i < length scripts → length items ≡ length scripts
    → script ≡ get_or scripts i script → item ≡ get_or items i item
    → (slice_get scripts i ≡ Some script) × (slice_get (map f items) i ≡ Some (f item))
script_at f scripts items i script item inside many script_is item_is = (
  slice_get_read scripts (length scripts) i script refl inside script_is,
  slice_mapped f items i item (omega (arith, inside, many)) item_is,
)

-- what holds of each before one, and of that one, holds of one more
pub one_more : {X : Type 0} (P : ℕ → X → Type 0) (xs : List X) (i : ℕ) (x : X)
    → slice_get xs i ≡ Some x → EachOf P xs i → P i x → EachOf P xs (i + 1)
one_more {X} P xs i x at before now k y lt is =
    ⊎_elim (λ early. before k y early is)
    (λ late.
    let here : i ≡ k = omega (arith, lt, late) in
    let there : slice_get xs i ≡ Some y = ap (slice_get xs) here ∙ is in
    subst (λ (n : ℕ). P n y) here (subst (P i) (same_Some x y (sym at ∙ there)) now))
    (cases_lt k i)

-- ---- what is wrong with the first of several

-- where all before one are good, what is wrong with that one
pub first_wrong : {X Fault : Type 0} (IsGood : ℕ → X → Type 0) (IsWrong : ℕ → X → Fault → Type 0)
    (xs : List X) (i : ℕ) (x : X) → slice_get xs i ≡ Some x → EachOf IsGood xs i
    → (why : Stopped Fault) → OfFault (IsWrong i x) why
    → OfFault (IsWrongFirst IsGood IsWrong xs) why
first_wrong IsGood IsWrong xs i x is before (stopped.Fault fault) wrong = record {
  place = i;
  item = x;
  is = is;
  before = before;
  wrong = wrong;
}
first_wrong IsGood IsWrong xs i x is before stopped.Memory wrong = tt

module _ {X Fault : Type 0} (IsGood : ℕ → X → Type 0) (IsWrong : ℕ → X → Fault → Type 0)
    (refused : (k : ℕ) (x : X) (f : Fault) → IsWrong k x f → ¬ (IsGood k x))
    (xs : List X) where
  pub wrong_refuses : (f : Fault) → IsWrongFirst IsGood IsWrong xs f
      → EachOf IsGood xs (length xs) → ⊥
  wrong_refuses f h good =
      refused h.place h.item f h.wrong
      (good h.place h.item (slice_get_within xs h.place h.item h.is) h.is)

  -- the place of one is not before that of another
  not_sooner : (f g : Fault) → (a : IsWrongFirst IsGood IsWrong xs f)
      → (b : IsWrongFirst IsGood IsWrong xs g) → ¬ (a.place < b.place)
  not_sooner f g a b lt =
      refused a.place a.item f a.wrong (b.before a.place a.item lt a.is)

  pub wrong_once : ((k : ℕ) (x : X) (f g : Fault) → IsWrong k x f → IsWrong k x g → f ≡ g)
      → (f g : Fault) → IsWrongFirst IsGood IsWrong xs f → IsWrongFirst IsGood IsWrong xs g → f ≡ g
  wrong_once once f g a b =
      let k : b.place ≡ a.place =
      neither_below b.place a.place (not_sooner g f b a) (not_sooner f g a b) in
      let x : b.item ≡ a.item =
      same_Some b.item a.item (sym b.is ∙ ap (slice_get xs) k ∙ a.is) in
      once a.place a.item f g a.wrong
      (subst (λ (y : X). IsWrong a.place y g) x
      (subst (λ (j : ℕ). IsWrong j b.item g) k b.wrong))

-- ---- what is said of each script

module _ {Said : Type 0} where
  -- what is said of one script more
  pub one_script : (holds : Script → Said → Type 0) (scripts : List Script) (claims : List Said)
      (i : ℕ) (script : Script) (said : Said) → slice_get scripts i ≡ Some script
      → slice_get claims i ≡ Some said → EachBelow holds scripts claims i → holds script said
      → EachBelow holds scripts claims (i + 1)
  one_script holds scripts claims i script said at there before now j other told lt is is_told =
      one_more (λ k s. (c : Said) → slice_get claims k ≡ Some c → holds s c) scripts i script at
      (λ k s early is_s c is_c. before k s c early is_s is_c)
      (λ c is_c. subst (holds script) (same_Some said c (sym there ∙ is_c)) now)
      j other lt is told is_told

  -- what holds of what was read holds of all that the text says
  pub each_told : {U E : Type 0} (Says : List Said → Type 0) (holds : Script → Said → Type 0)
      (scripts : List Script) (claims : List Said)
      → ((others : List Said) → Says others → claims ≡ others) → (r : Result U E)
      → IfOk r (λ _. EachBelow holds scripts claims (length scripts))
      → IfOk r (λ _. (others : List Said) → Says others
      → EachBelow holds scripts others (length scripts))
  each_told Says holds scripts claims one (Ok x) each = λ others is.
      subst (λ (said : List Said). EachBelow holds scripts said (length scripts)) (one others is)
      each
  each_told Says holds scripts claims one (Err fault) each = tt

-- ---- one first fault

-- a text says one thing, or leaves its grammar at one line
pub record IsOneText {Said : Type 0} (Says : List Said → Type 0) (leaves : ℕ → Type 0)
    : Type 0 where
  pub one : (claims others : List Said) → Says claims → Says others → claims ≡ others
  pub line : (n m : ℕ) → leaves n → leaves m → n ≡ m
  pub none : (claims : List Said) (n : ℕ) → leaves n → ¬ (Says claims)

-- one thing at most is wrong with what is said of a script, and nothing where that is good
pub record AreApart {Said Fault : Type 0} (IsGood : Script → Said → Type 0)
    (IsWrong : Script → Said → Fault → Type 0) : Type 0 where
  pub refused : (script : Script) (said : Said) (f : Fault) → IsWrong script said f
      → ¬ (IsGood script said)
  pub one : (script : Script) (said : Said) (f g : Fault) → IsWrong script said f
      → IsWrong script said g → f ≡ g

module _ {Said Fault Whole : Type 0} (Says : List Said → Type 0) (leaves : ℕ → Type 0)
    (IsGood : Script → Said → Type 0) (IsWrong : Script → Said → Fault → Type 0)
    (scripts : List Script) (at_line : ℕ → Whole) (in_script : ℕ → Fault → Whole) where
  -- a fault of the text
  pub record IsOfText (f : Whole) : Type 0 where
    pub number : ℕ
    pub leaves_there : leaves number
    pub same : f ≡ at_line number

  -- a fault of a script
  pub record IsOfScript (f : Whole) : Type 0 where
    pub place : ℕ
    pub fault : Fault
    pub first : IsFirstWrong Says IsGood IsWrong scripts place fault
    pub same : f ≡ in_script place fault

  -- a fault of either
  abbrev pub IsOfEither : Whole → Type 0
  IsOfEither f = IsOfText f ⊎ IsOfScript f

  module _ (text : IsOneText Says leaves) (apart : AreApart IsGood IsWrong) where
    pub refuses : (all_verdicts : List Said → List Verdict) (counts : Counts) (f : Whole)
        → IsOfEither f → ¬ (IsAllGood Says IsGood all_verdicts scripts counts)
    refuses all_verdicts counts f of good =
        ⊎_elim (λ x. text.none good.claims x.number x.leaves_there good.is)
        (λ y.
        let h = y.first in
        let same : h.claims ≡ good.claims = text.one h.claims good.claims h.is good.is in
        apart.refused h.script h.said y.fault h.wrong
        (good.each y.place h.script h.said (slice_get_within scripts y.place h.script h.script_is)
        h.script_is (ap (λ (l : List Said). slice_get l y.place) (sym same) ∙ h.said_is)))
        of

    -- the script of a fault is not before that of another
    not_before : (i j : ℕ) (f g : Fault) → (h : IsFirstWrong Says IsGood IsWrong scripts i f)
        → IsFirstWrong Says IsGood IsWrong scripts j g → ¬ (i < j)
    not_before i j f g h k lt =
        let same : k.claims ≡ h.claims = text.one k.claims h.claims k.is h.is in
        apart.refused h.script h.said f h.wrong
        (k.before i h.script h.said lt h.script_is
        (ap (λ (l : List Said). slice_get l i) same ∙ h.said_is))

    script_once : (i j : ℕ) (f g : Fault) → IsFirstWrong Says IsGood IsWrong scripts i f
        → IsFirstWrong Says IsGood IsWrong scripts j g → in_script i f ≡ in_script j g
    script_once i j f g h k =
        let place : i ≡ j = neither_below i j (not_before i j f g h k) (not_before j i g f k h) in
        let claims : k.claims ≡ h.claims = text.one k.claims h.claims k.is h.is in
        let script : k.script ≡ h.script =
        same_Some k.script h.script
        (sym k.script_is ∙ ap (slice_get scripts) (sym place) ∙ h.script_is) in
        let said : k.said ≡ h.said =
        same_Some k.said h.said
        (sym k.said_is ∙ ap (λ (l : List Said). slice_get l j) claims
        ∙ ap (slice_get h.claims) (sym place) ∙ h.said_is) in
        let fault : f ≡ g =
        apart.one h.script h.said f g h.wrong
        (subst (λ (c : Said). IsWrong h.script c g) said
        (subst (λ (s : Script). IsWrong s k.said g) script k.wrong)) in
        ap (λ (n : ℕ). in_script n f) place ∙ ap (in_script j) fault

    pub one_fault : (f g : Whole) → IsOfEither f → IsOfEither g → f ≡ g
    one_fault f g of other =
        ⊎_elim
        (λ x. ⊎_elim
        (λ y. x.same ∙ ap at_line (text.line x.number y.number x.leaves_there y.leaves_there)
        ∙ sym y.same)
        (λ y. absurd (text.none y.first.claims x.number x.leaves_there y.first.is)) other)
        (λ x. ⊎_elim
        (λ y. absurd (text.none x.first.claims y.number y.leaves_there x.first.is))
        (λ y. x.same ∙ script_once x.place y.place x.fault y.fault x.first y.first
        ∙ sym y.same) other)
        of
