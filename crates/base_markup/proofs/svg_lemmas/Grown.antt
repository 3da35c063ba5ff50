-- Content that grows piece by piece.
use Rattle.std.proofs.Common.{◌≡◌, ◌++◌, ℕ, List, [], sym, subst, append_assoc}
use Rattle.std.proofs.Math.Logic.{∥∥₁_elim, ∥∥₁_map}
use Rattle.std.proofs.lemmas.List.{append-nil}
use Rattle.std.specs.Prelude.{IsTrue}
use Rattle.base_markup.specs.declared.svg.tag.Tag.{Tag}
use Rattle.base_markup.specs.svg.Content.{IsContent, nothing, words, leaf, element, leaf_text}
use Rattle.base_markup.specs.svg.Content.{element_text}
use Rattle.base_markup.specs.{declared.svg.attribute.Key.Key, svg.Escape.escaped, svg.Attributes.keys_differ}

-- content behind content
pub IsContent-append : {first second : List ℕ} → IsContent first → IsContent second
    → IsContent (first ++ second)
IsContent-append nothing after = after
IsContent-append {second = second} (words text rest inner) after =
    subst IsContent (sym (append_assoc (escaped text) rest second))
    (words text (rest ++ second) (IsContent-append inner after))
IsContent-append {second = second} (leaf tag attributes rest differ inner) after =
    subst IsContent (sym (append_assoc (leaf_text tag attributes) rest second))
    (leaf tag attributes (rest ++ second) differ (IsContent-append inner after))
IsContent-append {second = second} (element tag attributes inside rest differ within inner) after =
    subst IsContent (sym (append_assoc (element_text tag attributes inside) rest second))
    (element tag attributes inside (rest ++ second) differ within (IsContent-append inner after))

-- one piece alone
pub words_alone : (text : List ℕ) → IsContent (escaped text)
words_alone text = subst IsContent (append-nil (escaped text)) (words text [] nothing)

pub leaf_alone : (tag : Tag) (attributes : List (Key × List ℕ)) → IsTrue (keys_differ attributes)
    → IsContent (leaf_text tag attributes)
leaf_alone tag attributes differ =
    subst IsContent (append-nil (leaf_text tag attributes)) (leaf tag attributes [] differ nothing)

pub element_alone : (tag : Tag) (attributes : List (Key × List ℕ)) (inside : List ℕ)
    → IsTrue (keys_differ attributes) → IsContent inside
    → IsContent (element_text tag attributes inside)
element_alone tag attributes inside differ within =
    subst IsContent (append-nil (element_text tag attributes inside))
    (element tag attributes inside [] differ within nothing)

-- that a text is content follows from how it was made
pub made_of_both : (text first second : List ℕ) → text ≡ first ++ second → ∥ IsContent first ∥₁
    → ∥ IsContent second ∥₁ → ∥ IsContent text ∥₁
made_of_both text first second is before after =
    ∥∥₁_elim before squash₁ (λ a.
    ∥∥₁_map after (λ b. subst IsContent (sym is) (IsContent-append a b)))

pub made_of_words : (text said : List ℕ) → text ≡ escaped said → ∥ IsContent text ∥₁
made_of_words text said is = ∣ subst IsContent (sym is) (words_alone said) ∣₁

pub made_of_leaf : (text : List ℕ) (tag : Tag) (attributes : List (Key × List ℕ))
    → text ≡ leaf_text tag attributes → IsTrue (keys_differ attributes) → ∥ IsContent text ∥₁
made_of_leaf text tag attributes is differ =
    ∣ subst IsContent (sym is) (leaf_alone tag attributes differ) ∣₁

pub made_of_element : (text : List ℕ) (tag : Tag) (attributes : List (Key × List ℕ))
    (inside : List ℕ) → text ≡ element_text tag attributes inside
    → IsTrue (keys_differ attributes) → ∥ IsContent inside ∥₁ → ∥ IsContent text ∥₁
made_of_element text tag attributes inside is differ within =
    ∥∥₁_map within
    (λ a. subst IsContent (sym is) (element_alone tag attributes inside differ a))
