-- Lists in which a mark ends one stretch and begins the next.
use Rattle.std.proofs.Common.{◌≡◌, List, [], ◌∷◌, ◌++◌, drop, get_or, refl, sym, ap, subst}

module _ {X : Type 0} (IsMark : X → Type 0) where
  -- no element is a mark
  abbrev pub Unmarked : List X → Type 0
  Unmarked [] = Unit {0}
  Unmarked (x ∷ xs) = (¬ (IsMark x)) × Unmarked xs

  -- nothing, or a mark first
  abbrev pub BeginsMarked : List X → Type 0
  BeginsMarked [] = Unit {0}
  BeginsMarked (x ∷ xs) = IsMark x

  -- what stands before the first mark is the same, and what stands from it on
  pub fronts_tell : (a b x y : List X) → Unmarked a → Unmarked b → BeginsMarked x
      → BeginsMarked y → a ++ x ≡ b ++ y → (a ≡ b) × (x ≡ y)
  fronts_tell [] [] x y plain other from to same = (refl, same)
  fronts_tell [] (c ∷ b) [] y plain other from to same = absurd (cc)
  fronts_tell [] (c ∷ b) (z ∷ x) y plain other from to same =
      let head : z ≡ c = ap (λ (l : List X). get_or l 0 z) same in
      absurd (other.0 (subst IsMark head from))
  fronts_tell (c ∷ a) [] x [] plain other from to same = absurd (cc)
  fronts_tell (c ∷ a) [] x (z ∷ y) plain other from to same =
      let head : c ≡ z = ap (λ (l : List X). get_or l 0 c) same in
      absurd (plain.0 (subst IsMark (sym head) to))
  fronts_tell (c ∷ a) (d ∷ b) x y plain other from to same =
      let head : c ≡ d = ap (λ (l : List X). get_or l 0 c) same in
      let rest = fronts_tell a b x y plain.1 other.1 from to (ap (drop 1) same) in
      (cc, rest.1)

  -- a list with a mark in it is not unmarked
  marked : (a x : List X) (m : X) → IsMark m → ¬ (Unmarked (a ++ m ∷ x))
  marked [] x m mark plain = plain.0 mark
  marked (c ∷ a) x m mark plain = marked a x m mark plain.1

  -- what stands before the last mark is the same, and what stands behind it
  pub backs_tell : (a b x y : List X) (m n : X) → IsMark m → IsMark n → Unmarked x → Unmarked y
      → a ++ m ∷ x ≡ b ++ n ∷ y → (a ≡ b) × (x ≡ y)
  backs_tell [] [] x y m n mark other plain clear same = (refl, ap (drop 1) same)
  backs_tell [] (c ∷ b) x y m n mark other plain clear same =
      let rest : x ≡ b ++ n ∷ y = ap (drop 1) same in
      absurd (marked b y n other (subst Unmarked rest plain))
  backs_tell (c ∷ a) [] x y m n mark other plain clear same =
      let rest : a ++ m ∷ x ≡ y = ap (drop 1) same in
      absurd (marked a x m mark (subst Unmarked (sym rest) clear))
  backs_tell (c ∷ a) (d ∷ b) x y m n mark other plain clear same =
      let head : c ≡ d = ap (λ (l : List X). get_or l 0 c) same in
      let rest = backs_tell a b x y m n mark other plain clear (ap (drop 1) same) in
      (cc, rest.1)
