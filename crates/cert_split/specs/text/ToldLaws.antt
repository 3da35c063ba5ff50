-- What all lines say tells the results, where a mark begins the lines of a part and of a result.
use Rattle.std.proofs.Common.{◌≡◌, ℕ, List, [], ◌∷◌, ◌++◌, length, drop, refl, sym, ◌∙◌, ap, subst}
use Rattle.std.proofs.Common.{arith, append_assoc}
use Rattle.std.proofs.lemmas.List.Elements.{All-head, All-tail}
use Rattle.std.specs.List.{All, flat_map}
use Rattle.cert_split.specs.text.StretchLaws.{Unmarked, BeginsMarked, fronts_tell}

-- where a mark begins what each one says, and each is told in front of a mark, all are told
module _ {P X : Type 0} (IsMark : X → Type 0) (said : P → List X) (IsWhole : P → Type 0)
    (begins : (p : P) (y : List X) → BeginsMarked IsMark (said p ++ y))
    (told : (p q : P) (x y : List X) → IsWhole p → IsWhole q → BeginsMarked IsMark x
    → BeginsMarked IsMark y → said p ++ x ≡ said q ++ y → (p ≡ q) × (x ≡ y)) where
  all_marked : (ps : List P) (y : List X) → BeginsMarked IsMark y
      → BeginsMarked IsMark (flat_map said ps ++ y)
  all_marked [] y mark = mark
  all_marked (p ∷ ps) y mark =
      subst (λ (l : List X). BeginsMarked IsMark l)
      (sym (append_assoc (said p) (flat_map said ps) y)) (begins p (flat_map said ps ++ y))

  all_told : (ps qs : List P) (x y : List X) → length ps ≡ length qs → All IsWhole ps
      → All IsWhole qs → BeginsMarked IsMark x → BeginsMarked IsMark y
      → flat_map said ps ++ x ≡ flat_map said qs ++ y → (ps ≡ qs) × (x ≡ y)
  all_told [] [] x y long a b from to same = (refl, same)
  all_told [] (q ∷ qs) x y long a b from to same = absurd (omega arith)
  all_told (p ∷ ps) [] x y long a b from to same = absurd (omega arith)
  all_told (p ∷ ps) (q ∷ qs) x y long a b from to same =
      let more : List X = flat_map said ps ++ x in
      let then : List X = flat_map said qs ++ y in
      let lines : said p ++ more ≡ said q ++ then =
      sym (append_assoc (said p) (flat_map said ps) x) ∙ same
      ∙ append_assoc (said q) (flat_map said qs) y in
      let first = told p q more then (All-head IsWhole p ps a) (All-head IsWhole q qs b)
      (all_marked ps x from) (all_marked qs y to) lines in
      let rest = all_told ps qs x y (omega arith) (All-tail IsWhole p ps a) (All-tail IsWhole q qs b)
      from to first.1 in (
        ap (λ (z : P). z ∷ ps) first.0 ∙ ap (λ (l : List P). q ∷ l) rest.0,
        rest.1,
      )

module _ {R X : Type 0} (IsMark : X → Type 0) (mark : X) (marks : IsMark mark) (said : R → List X)
    (unmarked : (r : R) → Unmarked IsMark (said r))
    (told : (r s : R) → said r ≡ said s → r ≡ s) where
  -- what the lines of a result say with its mark, and of a part
  abbrev result_marked : R → List X
  result_marked r = mark ∷ said r

  abbrev part_marked : List R → List X
  part_marked results = mark ∷ flat_map result_marked results

  result_told : (r s : R) (x y : List X) → Unit {0} → Unit {0} → BeginsMarked IsMark x
      → BeginsMarked IsMark y → result_marked r ++ x ≡ result_marked s ++ y → (r ≡ s) × (x ≡ y)
  result_told r s x y a b from to same =
      let parts = fronts_tell IsMark (said r) (said s) x y (unmarked r) (unmarked s) from to
      (ap (drop 1) same) in (told r s parts.0, parts.1)

  part_told : (count : ℕ) (p q : List R) (x y : List X) → length p ≡ count → length q ≡ count
      → BeginsMarked IsMark x → BeginsMarked IsMark y → part_marked p ++ x ≡ part_marked q ++ y
      → (p ≡ q) × (x ≡ y)
  part_told count p q x y a b from to same =
      all_told IsMark result_marked (λ r. Unit {0}) (λ r z. marks) result_told p q x y (a ∙ sym b)
      (λ k d there. tt) (λ k d there. tt) from to (ap (drop 1) same)

  pub parts_told : (count : ℕ) (parts others : List (List R)) → length parts ≡ length others
      → All (λ p. length p ≡ count) parts → All (λ p. length p ≡ count) others
      → flat_map part_marked parts ≡ flat_map part_marked others → parts ≡ others
  parts_told count parts others long a b same =
      (all_told IsMark part_marked (λ p. length p ≡ count) (λ p z. marks) (part_told count) parts
      others (mark ∷ []) (mark ∷ []) long a b marks marks
      (ap (λ (l : List X). l ++ mark ∷ []) same)).0
