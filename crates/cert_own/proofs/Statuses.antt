-- What follows where no verdict is of a kind, and where some is.
use Rattle.std.proofs.Common.{◌≡◌, ◌||◌, ℕ, zero, suc, ◌<◌, Bool, true, false, List, [], ◌∷◌, Some}
use Rattle.std.proofs.Common.{length, get_or, refl, sym, ◌∙◌, ap, subst, arith}
use Rattle.std.proofs.lemmas.Bool.{or_parts}
use Rattle.std.proofs.lemmas.List.Folds.{list_any-append}
use Rattle.std.proofs.lemmas.Option.{same_Some, slice_get_within, slice_get-get_or}
use Rattle.std.specs.Prelude.{slice_get}
use Rattle.std.specs.List.{All, AllZip, flat_map, list_any}
use Rattle.model_line.specs.{declared.line.Line.Line, declared.script.Script.Script, Fits.Fits}
use Rattle.cert_claims.specs.text.Grammar.{Claims, HasOneEach, Verdict, yes, no, undecided}
use Rattle.cert_claims.specs.check.Counts.{all_verdicts, is_no, is_undecided}
use Rattle.cert_own.specs.Certified.{AreCertified, IsCertified}
use Rattle.cert_own.specs.Obligations.{AllMet, HoldsAsCertified, HoldsSomewhere}
use Rattle.cert_own.specs.Obligations.{IsFailedBySome}
use Rattle.cert_own.specs.Obligations.{IsUnknown}
use Rattle.model_history.specs.ListLaws.{all_at}

-- ---- lists

none_at : {X : Type 0} (p : X → Bool) (xs : List X) (k : ℕ) (x : X) → list_any p xs ≡ false
    → slice_get xs k ≡ Some x → p x ≡ false
none_at p [] k x none at = absurd (cc)
none_at p (y ∷ xs) zero x none at =
    subst (λ z. p z ≡ false) (same_Some y x at) (or_parts (p y) (list_any p xs) none).0
none_at p (y ∷ xs) (suc k) x none at =
    none_at p xs k x (or_parts (p y) (list_any p xs) none).1 at

none_in : {X Y : Type 0} (p : Y → Bool) (f : X → List Y) (xs : List X) (i : ℕ) (x : X)
    → list_any p (flat_map f xs) ≡ false → slice_get xs i ≡ Some x → list_any p (f x) ≡ false
none_in p f [] i x none at = absurd (cc)
none_in p f (y ∷ xs) zero x none at =
    subst (λ z. list_any p (f z) ≡ false) (same_Some y x at)
    (or_parts (list_any p (f y)) (list_any p (flat_map f xs))
    (sym (list_any-append p (f y) (flat_map f xs)) ∙ none)).0
none_in p f (y ∷ xs) (suc i) x none at =
    none_in p f xs i x
    (or_parts (list_any p (f y)) (list_any p (flat_map f xs))
    (sym (list_any-append p (f y) (flat_map f xs)) ∙ none)).1 at

-- one that is such, and its place
abbrev Found : {X : Type 0} → (X → Bool) → List X → Type 0
Found {X} p xs = (k : ℕ) × ((x : X) × ((slice_get xs k ≡ Some x) × (p x ≡ true)))

found_by : {X : Type 0} (p : X → Bool) (x : X) (xs : List X) (o : Bool) → p x ≡ o
    → o || list_any p xs ≡ true → (list_any p xs ≡ true → Found p xs) → Found p (x ∷ xs)
found_by p x xs true is some rest = (zero, (x, (refl, is)))
found_by p x xs false is some rest =
    let (k, (y, (at, such))) = rest some in (suc k, (y, (at, such)))

found : {X : Type 0} (p : X → Bool) (xs : List X) → list_any p xs ≡ true → Found p xs
found p [] some = absurd (cc)
found p (x ∷ xs) some = found_by p x xs (p x) refl some (found p xs)

-- one of a list of lists
abbrev FoundIn : {X Y : Type 0} → (Y → Bool) → (X → List Y) → List X → Type 0
FoundIn {X} p f xs = (i : ℕ) × ((x : X) × ((slice_get xs i ≡ Some x) × (list_any p (f x) ≡ true)))

found_in_by : {X Y : Type 0} (p : Y → Bool) (f : X → List Y) (x : X) (xs : List X) (o : Bool)
    → list_any p (f x) ≡ o → o || list_any p (flat_map f xs) ≡ true
    → (list_any p (flat_map f xs) ≡ true → FoundIn p f xs) → FoundIn p f (x ∷ xs)
found_in_by p f x xs true is some rest = (zero, (x, (refl, is)))
found_in_by p f x xs false is some rest =
    let (i, (y, (at, such))) = rest some in (suc i, (y, (at, such)))

found_in : {X Y : Type 0} (p : Y → Bool) (f : X → List Y) (xs : List X)
    → list_any p (flat_map f xs) ≡ true → FoundIn p f xs
found_in p f [] some = absurd (cc)
found_in p f (x ∷ xs) some =
    found_in_by p f x xs (list_any p (f x)) refl
    (sym (list_any-append p (f x) (flat_map f xs)) ∙ some) (found_in p f xs)

-- what stands beside an element of one of two lists
zip_right : {A B : Type 0} (R : A → B → Type 0) (xs : List A) (ys : List B) (i : ℕ) (x : A)
    → AllZip R xs ys → slice_get xs i ≡ Some x → (y : B) × ((slice_get ys i ≡ Some y) × R x y)
zip_right R [] ys i x zip at = absurd (cc)
zip_right R (a ∷ xs) [] i x zip at = absurd zip
zip_right R (a ∷ xs) (b ∷ ys) zero x zip at =
    (b, (refl, subst (λ z. R z b) (same_Some a x at) zip.0))
zip_right R (a ∷ xs) (b ∷ ys) (suc i) x zip at = zip_right R xs ys i x zip.1 at

zip_left : {A B : Type 0} (R : A → B → Type 0) (xs : List A) (ys : List B) (i : ℕ) (y : B)
    → AllZip R xs ys → slice_get ys i ≡ Some y → (x : A) × ((slice_get xs i ≡ Some x) × R x y)
zip_left R xs [] i y zip at = absurd (cc)
zip_left R [] (b ∷ ys) i y zip at = absurd zip
zip_left R (a ∷ xs) (b ∷ ys) zero y zip at =
    (a, (refl, subst (λ z. R a z) (same_Some b y at) zip.0))
zip_left R (a ∷ xs) (b ∷ ys) (suc i) y zip at = zip_left R xs ys i y zip.1 at

-- ---- verdicts

only_yes : (v : Verdict) → is_no v ≡ false → is_undecided v ≡ false → v ≡ yes
only_yes yes a b = refl
only_yes (no values) a b = absurd (cc)
only_yes undecided a b = absurd (cc)

failed_by : (line : Line) (script : Script) (k : ℕ) (v : Verdict) → is_no v ≡ true
    → HoldsAsCertified v line script k → IsFailedBySome line script k
failed_by line script k yes is holds = absurd (cc)
failed_by line script k (no values) is holds = (values, holds)
failed_by line script k undecided is holds = absurd (cc)

unknown_by : (line : Line) (script : Script) (k : ℕ) (v : Verdict) → is_undecided v ≡ true
    → HoldsAsCertified v line script k → IsUnknown line script k
unknown_by line script k yes is holds = absurd (cc)
unknown_by line script k (no values) is holds = absurd (cc)
unknown_by line script k undecided is holds = holds

module _
    (certified_true : (line : Line) (script : Script) (said : Claims) (k : ℕ) (v : Verdict)
    → Fits line script → IsCertified line script said → slice_get said.verdicts k ≡ Some v
    → HoldsAsCertified v line script k)
    (whole : (line : Line) (script : Script) (said : Claims) → IsCertified line script said
    → HasOneEach line said)
    (line : Line) (scripts : List Script) (claims : List Claims) (fit : All (Fits line) scripts)
    (certified : AreCertified line scripts claims) where
  pub all_met : list_any is_no (all_verdicts claims) ≡ false
      → list_any is_undecided (all_verdicts claims) ≡ false → AllMet line scripts
  all_met no_no no_open i k script at there =
      let (said, (said_at, is)) =
      zip_right (IsCertified line) scripts claims i script certified at in
      let many = (whole line script said is).verdicts in
      let within : k < length said.verdicts = omega arith in
      let v : Verdict = get_or said.verdicts k undecided in
      let v_at : slice_get said.verdicts k ≡ Some v =
      slice_get-get_or said.verdicts k undecided within in
      let verdicts : Claims → List Verdict = λ c. c.verdicts in
      let is_yes : v ≡ yes =
      only_yes v
      (none_at is_no said.verdicts k v (none_in is_no verdicts claims i said no_no said_at) v_at)
      (none_at is_undecided said.verdicts k v
      (none_in is_undecided verdicts claims i said no_open said_at) v_at) in
      certified_true line script said k yes (all_at (Fits line) scripts i script fit at) is
      (v_at ∙ ap Some is_yes)

  somewhere : (p : Verdict → Bool) (Fact : Line → Script → ℕ → Type 0)
      → ((script : Script) (k : ℕ) (v : Verdict) → p v ≡ true → HoldsAsCertified v line script k
      → Fact line script k)
      → list_any p (all_verdicts claims) ≡ true → HoldsSomewhere line scripts Fact
  somewhere p Fact follows some =
      let verdicts : Claims → List Verdict = λ c. c.verdicts in
      let (i, (said, (said_at, some_said))) = found_in p verdicts claims some in
      let (k, (v, (v_at, is_such))) = found p said.verdicts some_said in
      let (script, (at, is)) = zip_left (IsCertified line) scripts claims i said certified said_at in
      let many = (whole line script said is).verdicts in
      let within = slice_get_within said.verdicts k v v_at in
      record {
        place = i;
        script = script;
        script_is = at;
        k = k;
        exists = omega arith;
        holds = follows script k v is_such
            (certified_true line script said k v (all_at (Fits line) scripts i script fit at) is
            v_at);
      }

  pub some_failed : list_any is_no (all_verdicts claims) ≡ true
      → HoldsSomewhere line scripts IsFailedBySome
  some_failed = somewhere is_no IsFailedBySome (failed_by line)

  pub some_unknown : list_any is_undecided (all_verdicts claims) ≡ true
      → HoldsSomewhere line scripts IsUnknown
  some_unknown = somewhere is_undecided IsUnknown (unknown_by line)
