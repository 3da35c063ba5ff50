use Rattle.std.proofs.Common.{ℕ, List, length, sym, ap, subst}
use Rattle.std.proofs.Common.{arith}
use Rattle.call_page.specs.declared.parts.Part.{Part}
use Rattle.call_page.specs.Parts.{AreParts}
use Rattle.call_page.proofs.page.page.Goals as goal

pub page_of-requires-clause-parts : goal.page_of-requires-clause-parts
page_of-requires-clause-parts c =
    let study = c.args.known.now.study.now in
    subst (λ (ps : List Part). AreParts c.args.known.now.groups.now (length study.scripts.items) ps)
    (sym c.as_slice.ensures.value)
    (subst (λ (n : ℕ). AreParts c.args.known.now.groups.now n c.in_ok-parts.parts.items)
    (omega (arith, c.len.ensures)) c.in_ok-parts.ensures.all)

pub page_of-requires-clause-few : goal.page_of-requires-clause-few
page_of-requires-clause-few c =
    let same = ap length c.as_slice.ensures.value in
    omega (arith, same, c.in_ok-parts.ensures.few, c.len.ensures, c.requires.known.study.counted)
