use Rattle.std.proofs.Common.{◌≡◌, ◌++◌, ℕ, List, [], ◌∷◌, IfOk, subst, ap, ◌∙◌}
use Rattle.base_markup.specs.declared.svg.attribute.Key.{Key}
use Rattle.base_markup.specs.declared.svg.tag.Tag.TheVariants as tag
use Rattle.base_markup.specs.{svg.Attributes.said, svg.Content.element_text}
use Rattle.draw_shapes.specs.Svg.{hatching_text, hatching_attributes, end_of_line}
use Rattle.draw_shapes.proofs.style.hatching.Goals as goal

pub returns : goal.returns
unfolding hatching_text
returns c =
    let attributes : said (c.words.result ∷ (c.words-2.result ∷ (c.words-3.result
    ∷ (c.words-4.result ∷ (c.words-5.result ∷ [])))))
    ≡ hatching_attributes c.args.name.now c.args.turn.now = cc in
    let own : List ℕ = c.in_ok-inside.inside.text.items in
    let whole : c.in_ok-pattern.pattern.text.items ++ end_of_line
    ≡ hatching_text c.args.name.now c.args.turn.now c.args.pale c.args.stripe =
    ap (λ (l : List ℕ). l ++ end_of_line)
    (c.in_ok-pattern.ensures
    ∙ ap (λ (a : List (Key × List ℕ)). element_text tag.Pattern a own) attributes
    ∙ ap (λ (l : List ℕ). element_text tag.Pattern
    (hatching_attributes c.args.name.now c.args.turn.now) l) c.in_ok-inside.ensures) in
    subst (λ (l : List ℕ). IfOk c.ended.result (λ markup. markup.text.items ≡ l)) whole
    c.ended.ensures
