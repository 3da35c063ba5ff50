use Rattle.std.proofs.Common.{sym, subst}
use Rattle.base_markup.specs.html.Content.{IsHtml, nothing}
use Rattle.base_markup.proofs.html.html.Html.new.Goals as goal

pub invariant_of-result : goal.invariant_of-result
invariant_of-result c = record { well_formed = ∣ subst IsHtml (sym c.new.ensures.items) nothing ∣₁ }
