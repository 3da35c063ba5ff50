use Rattle.std.proofs.Common.{sym, subst}
use Rattle.base_markup.specs.svg.Content.{IsContent, nothing}
use Rattle.base_markup.proofs.svg.markup.Markup.new.Goals as goal

pub invariant_of-result : goal.invariant_of-result
invariant_of-result c = record { well_formed = ∣ subst IsContent (sym c.new.ensures.items) nothing ∣₁ }
