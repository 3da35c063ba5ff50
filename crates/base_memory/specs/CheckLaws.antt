-- Laws of checks one after another: where one fails, and what is known where all passed.
use Rattle.std.specs.Prelude.{◌≡◌, Bool, true, false, cond, Option, None, Some, Result, Ok, Err}
use Rattle.std.specs.Prelude.{refl}
use Rattle.std.proofs.Common.{ap, ok_or, subst}
use Rattle.std.proofs.lemmas.Map.Entries.{option_filter}
use Rattle.base_memory.specs.Gives.{◌>>=◌, Fails, passes_or}
use Rattle.base_memory.specs.declared.stopped.Stopped.{Stopped}
use Rattle.base_memory.specs.declared.stopped.Stopped.TheVariants as stopped

-- the fault that is said may be answered
pub fails_is : {Y F : Type 0} (why : Stopped F) (fault : F) (said : Result Y F)
    → why ≡ stopped.Fault fault → said ≡ Err fault → Fails why said
fails_is (stopped.Fault other) fault said is e = let same : other ≡ fault = cc in rw same e
fails_is stopped.Memory fault said is e = tt

-- what follows a check that fails, fails so too
pub fails_first : {A B F : Type 0} (why : Stopped F) (r : Result A F) (next : A → Result B F)
    → Fails why r → Fails why (r >>= next)
fails_first (stopped.Fault fault) r next fails = ap (λ x. x >>= next) fails
fails_first stopped.Memory r next fails = tt

-- and so does all, where that is what follows
pub fails_ends : {A B F : Type 0} (why : Stopped F) (r : Result A F) (next : A → Result B F)
    (total : Result B F) → Fails why r → (r >>= next) ≡ total → Fails why total
fails_ends why r next total fails all =
    subst (λ t. Fails why t) all (fails_first why r next fails)

-- a check that passed, and then the rest
pub record Passed {A B F : Type 0} (r : Result A F) (f : A → Result B F) (y : B) : Type 0 where
  pub value : A
  pub was : r ≡ Ok value
  pub rest : f value ≡ Ok y

pub passed : {A B F : Type 0} (r : Result A F) (f : A → Result B F) (y : B) → (r >>= f) ≡ Ok y
    → Passed r f y
passed (Ok x) f y e = record { value = x; was = refl; rest = e }
passed (Err d) f y e = absurd (cc)

-- a test and then a value
pub test_passed : {A F : Type 0} (b : Bool) (x : A) (d : F) (y : A)
    → cond b (Ok x) (Err d) ≡ Ok y → (b ≡ true) × (x ≡ y)
test_passed true x d y e = (refl, cc)
test_passed false x d y e = absurd (cc)

-- a test and then a check
pub choice_passed : {A F : Type 0} (b : Bool) (r : Result A F) (d : F) (y : A)
    → cond b r (Err d) ≡ Ok y → r ≡ Ok y
choice_passed true r d y e = e
choice_passed false r d y e = absurd (cc)

-- the other way round: the test refuses
pub refusal_passed : {A F : Type 0} (b : Bool) (r : Result A F) (d : F) (y : A)
    → cond b (Err d) r ≡ Ok y → (b ≡ false) × (r ≡ Ok y)
refusal_passed true r d y e = absurd (cc)
refusal_passed false r d y e = (refl, e)

-- a test and then a value, or none
pub tested : {A : Type 0} (b : Bool) (o : Option A) (x : A) → cond b o None ≡ Some x
    → (b ≡ true) × (o ≡ Some x)
tested true o x e = (refl, e)
tested false o x e = absurd (cc)

pub same_ok : {A F : Type 0} (x y : A) → (let r : Result A F = Ok x in r ≡ Ok y) → x ≡ y
same_ok x y e = cc

-- what is there, or else a fault
pub found : {A F : Type 0} (o : Option A) (d : F) (x : A) → ok_or o d ≡ Ok x → o ≡ Some x
found None d x e = absurd (cc)
found (Some y) d x e = cc

-- a test, or else a fault
pub test_held : {F : Type 0} (b : Bool) (d : F) (y : Unit {0}) → passes_or b d ≡ Ok y → b ≡ true
test_held true d y e = refl
test_held false d y e = absurd (cc)

-- what is there and passes
pub filtered : {A : Type 0} (p : A → Bool) (o : Option A) (x : A) → option_filter p o ≡ Some x
    → (o ≡ Some x) × (p x ≡ true)
filtered p None x e = absurd (cc)
filtered {A} p (Some y) x e =
    let t = tested (p y) (Some y) x e in
    let same : y ≡ x = (let f = t.1 in cc) in
    (t.1, subst (λ (z : A). p z ≡ true) same t.0)
