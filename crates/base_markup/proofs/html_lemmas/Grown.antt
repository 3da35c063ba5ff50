-- Content that grows piece by piece.
use Rattle.std.proofs.Common.{◌≡◌, ◌++◌, ℕ, List, [], sym, subst, append_assoc}
use Rattle.std.proofs.Math.Logic.{∥∥₁_elim, ∥∥₁_map}
use Rattle.std.proofs.lemmas.List.{append-nil}
use Rattle.std.specs.Prelude.{IsTrue}
use Rattle.base_markup.specs.svg.Attributes as svg
use Rattle.base_markup.specs.svg.Content as svg_content
use Rattle.base_markup.specs.declared.svg.tag.Tag.TheVariants as svg_tag
use Rattle.base_markup.specs.declared.svg.attribute.Key.{Key as SvgKey}
use Rattle.base_markup.specs.declared.html.{tag.Tag.Tag, tag.Void.Void, attribute.Key.Key, sign.Sign.Sign}
use Rattle.base_markup.specs.html.Names.{sign_text}
use Rattle.base_markup.specs.{html.Attributes.keys_differ}
use Rattle.base_markup.specs.html.Content.{IsHtml, nothing, words, sign, void, element, sheet, drawing}
use Rattle.base_markup.specs.html.Words.{words_text}
use Rattle.base_markup.specs.html.Content.{void_text, element_text, sheet_text, document_text}
use Rattle.base_markup.specs.html.Content.{IsDocument}

-- content behind content
pub IsHtml-append : {first second : List ℕ} → IsHtml first → IsHtml second
    → IsHtml (first ++ second)
IsHtml-append nothing after = after
IsHtml-append {second = second} (words text rest inner) after =
    subst IsHtml (sym (append_assoc (words_text text) rest second))
    (words text (rest ++ second) (IsHtml-append inner after))
IsHtml-append {second = second} (sign which rest inner) after =
    subst IsHtml (sym (append_assoc (sign_text which) rest second))
    (sign which (rest ++ second) (IsHtml-append inner after))
IsHtml-append {second = second} (void tag attributes rest differ inner) after =
    subst IsHtml (sym (append_assoc (void_text tag attributes) rest second))
    (void tag attributes (rest ++ second) differ (IsHtml-append inner after))
IsHtml-append {second = second} (element tag attributes inside rest differ within inner) after =
    subst IsHtml (sym (append_assoc (element_text tag attributes inside) rest second))
    (element tag attributes inside (rest ++ second) differ within (IsHtml-append inner after))
IsHtml-append {second = second} (sheet text rest inner) after =
    subst IsHtml (sym (append_assoc (sheet_text text) rest second))
    (sheet text (rest ++ second) (IsHtml-append inner after))
IsHtml-append {second = second} (drawing attributes inside rest differ within inner) after =
    subst IsHtml
    (sym (append_assoc (svg_content.element_text svg_tag.Svg attributes inside) rest second))
    (drawing attributes inside (rest ++ second) differ within (IsHtml-append inner after))

-- that a text is content follows from how it was made
pub made_of_both : (text first second : List ℕ) → text ≡ first ++ second → ∥ IsHtml first ∥₁
    → ∥ IsHtml second ∥₁ → ∥ IsHtml text ∥₁
made_of_both text first second is before after =
    ∥∥₁_elim before squash₁ (λ a.
    ∥∥₁_map after (λ b. subst IsHtml (sym is) (IsHtml-append a b)))

pub made_of_words : (text said : List ℕ) → text ≡ words_text said → ∥ IsHtml text ∥₁
made_of_words text said is =
    ∣ subst IsHtml (sym is) (subst IsHtml (append-nil (words_text said)) (words said [] nothing)) ∣₁

pub made_of_sign : (text : List ℕ) (which : Sign) → text ≡ sign_text which → ∥ IsHtml text ∥₁
made_of_sign text which is =
    ∣ subst IsHtml (sym is) (subst IsHtml (append-nil (sign_text which)) (sign which [] nothing)) ∣₁

pub made_of_void : (text : List ℕ) (tag : Void) (attributes : List (Key × List ℕ))
    → text ≡ void_text tag attributes → IsTrue (keys_differ attributes) → ∥ IsHtml text ∥₁
made_of_void text tag attributes is differ =
    ∣ subst IsHtml (sym is) (subst IsHtml (append-nil (void_text tag attributes))
    (void tag attributes [] differ nothing)) ∣₁

pub made_of_element : (text : List ℕ) (tag : Tag) (attributes : List (Key × List ℕ))
    (inside : List ℕ) → text ≡ element_text tag attributes inside
    → IsTrue (keys_differ attributes) → ∥ IsHtml inside ∥₁ → ∥ IsHtml text ∥₁
made_of_element text tag attributes inside is differ within =
    ∥∥₁_map within (λ a. subst IsHtml (sym is)
    (subst IsHtml (append-nil (element_text tag attributes inside))
    (element tag attributes inside [] differ a nothing)))

pub made_of_sheet : (text said : List ℕ) → text ≡ sheet_text said → ∥ IsHtml text ∥₁
made_of_sheet text said is =
    ∣ subst IsHtml (sym is) (subst IsHtml (append-nil (sheet_text said)) (sheet said [] nothing)) ∣₁

pub made_of_drawing : (text : List ℕ) (attributes : List (SvgKey × List ℕ)) (inside : List ℕ)
    → text ≡ svg_content.element_text svg_tag.Svg attributes inside
    → IsTrue (svg.keys_differ attributes) → ∥ svg_content.IsContent inside ∥₁ → ∥ IsHtml text ∥₁
made_of_drawing text attributes inside is differ within =
    ∥∥₁_map within (λ a. subst IsHtml (sym is)
    (subst IsHtml (append-nil (svg_content.element_text svg_tag.Svg attributes inside))
    (drawing attributes inside [] differ a nothing)))

pub made_of_parts : (text head body : List ℕ) → text ≡ document_text head body → ∥ IsHtml head ∥₁
    → ∥ IsHtml body ∥₁ → IsDocument text
made_of_parts text head body is above below =
    ∥∥₁_elim above squash₁ (λ a. ∥∥₁_map below (λ b. record {
      head = head;
      body = body;
      head_formed = a;
      body_formed = b;
      is = is;
    }))
