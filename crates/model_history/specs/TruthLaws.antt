-- Truth values: each is one of two, and what they tell.
use Rattle.std.proofs.Common.{◌≡◌, ◌⊎◌, ◌≤◌, ◌&&◌, ◌||◌, ℕ, Bool, true, false, refl, sym, ap, ◌∙◌}
use Rattle.std.proofs.Common.{inl, inr, not, subst}
use Rattle.std.proofs.lemmas.Bool.{leb-true, le-leb}
use Rattle.std.specs.Prelude.{IsTrue, Decides, nat_le}

pub not_both : (b : Bool) → b ≡ false → b ≡ true → ⊥
not_both b off on = let both : true ≡ false = sym on ∙ off in absurd (cc)

-- a test tells whether the fact holds
pub told : {P : Type 0} (b : Bool) → Decides b P → P ⊎ (¬ P)
told true tells = inl (tells.0 refl)
told false tells = inr (λ p. let e : false ≡ true = tells.1 p in cc)

-- a value tells itself
pub Decides-true : (b : Bool) → Decides b (IsTrue b)
Decides-true b = (λ e. e, λ e. e)

-- and a test of two numbers which is the smaller
pub Decides-le : (a b : ℕ) → Decides (nat_le a b) (a ≤ b)
Decides-le a b = (leb-true a b, le-leb a b)

-- what one of two tells
pub or_split : (a b : Bool) → IsTrue (a || b) → IsTrue a ⊎ IsTrue b
or_split true b on = inl refl
or_split false b on = inr on

pub or_left : (a b : Bool) → IsTrue a → IsTrue (a || b)
or_left a b on = ap (λ (v : Bool). v || b) on

pub or_right : (a b : Bool) → IsTrue b → IsTrue (a || b)
or_right true b on = refl
or_right false b on = on

-- what is not so is denied
pub denied_unless : (b : Bool) → (IsTrue b → ⊥) → IsTrue (not b)
denied_unless true never = absurd (never refl)
denied_unless false never = refl

-- a signal that is on at a tick is on at the same tick, however it is counted
pub on_at : (u : ℕ → Bool) (r s : ℕ) → r ≡ s → IsTrue (u r) → IsTrue (u s)
on_at u r s e on = subst (λ (x : ℕ). IsTrue (u x)) e on

-- what follows from each of two follows from both, and from either
pub and_both : (a b c d : Bool) → (IsTrue a → IsTrue c) → (IsTrue b → IsTrue d) → IsTrue (a && b)
    → IsTrue (c && d)
and_both true b c d f g on = ap (λ x. x && d) (f refl) ∙ g on
and_both false b c d f g on = absurd (cc)

pub or_both : (a b c d : Bool) → (IsTrue a → IsTrue c) → (IsTrue b → IsTrue d) → IsTrue (a || b)
    → IsTrue (c || d)
or_both true b c d f g on = ap (λ x. x || d) (f refl)
or_both false b true d f g on = refl
or_both false b false d f g on = g on
