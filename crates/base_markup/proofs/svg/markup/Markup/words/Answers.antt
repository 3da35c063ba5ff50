use Rattle.std.proofs.Common.{◌++◌, ℕ, List, ◌∙◌, ap}
use Rattle.base_markup.specs.svg.Escape.{escaped}
use Rattle.base_markup.proofs.svg_lemmas.Grown.{made_of_words}
use Rattle.base_markup.proofs.svg.markup.Markup.words.Goals as goal

pub invariant_of-result : goal.invariant_of-result
invariant_of-result c =
    record {
      well_formed =
          made_of_words _ c.args.words.now
          (c.in_ok-put_escaped.ensures
          ∙ ap (λ (l : List ℕ). l ++ escaped c.args.words.now) c.new-text.ensures.items);
    }
