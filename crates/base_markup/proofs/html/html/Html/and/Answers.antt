use Rattle.std.proofs.Common.{◌++◌, ℕ, List, ◌∙◌, ap}
use Rattle.base_markup.proofs.html_lemmas.Grown.{made_of_both}
use Rattle.base_markup.proofs.html.html.Html.and.Goals as goal

pub invariant_of-result : goal.invariant_of-result
invariant_of-result c =
    let own : List ℕ = c.args.self.text.items in
    record {
      well_formed =
          made_of_both _ own c.args.other.now.text.items
          (c.in_ok-extend_from_slice.ensures.items
          ∙ ap (λ (l : List ℕ). own ++ l) c.deref.ensures.value)
          c.args.self.well_formed c.args.other.now.well_formed;
    }
