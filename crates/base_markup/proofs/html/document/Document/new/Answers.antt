use Rattle.std.proofs.Common.{ℕ, List, ◌∙◌, ap}
use Rattle.base_markup.specs.html.Content.{document_text}
use Rattle.base_markup.proofs.html_lemmas.Grown.{made_of_parts}
use Rattle.base_markup.proofs.html.document.Document.new.Goals as goal

pub invariant_of-result : goal.invariant_of-result
invariant_of-result c =
    let head : List ℕ = c.args.head.now.text.items in
    let body : List ℕ = c.args.body.now.text.items in
    record {
      one_root =
          made_of_parts _ head body
          (c.in_ok-text.ensures
          ∙ ap (λ (h : List ℕ). document_text h c.deref-2.result.now) c.deref.ensures.value
          ∙ ap (λ (b : List ℕ). document_text head b) c.deref-2.ensures.value)
          c.args.head.now.well_formed c.args.body.now.well_formed;
    }
