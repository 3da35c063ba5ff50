use Rattle.std.proofs.Common.{◌≡◌, ◌+◌, List, ◌∷◌, ◌++◌, [], sym, ◌∙◌, ap, subst, arith}
use Rattle.std.proofs.Common.{length, length-append}
use Rattle.std.proofs.lemmas.List.Elements.{All-push}
use Rattle.std.specs.List.{All}
use Rattle.call_page.specs.declared.parts.Part.{Part}
use Rattle.call_page.specs.Parts.{Follow, IsPart}
use Rattle.call_page.proofs.Chains.{follow_push}
use Rattle.call_page.proofs.parts.parts.Goals as goal

pub parts-preserved : goal.parts-preserved
parts-preserved c =
    let groups = c.args.groups.now in
    let part : Part = c.part_from-part.result in
    let old : List Part = c.parts.parts.items in
    let new : List Part = c.push.new.self.items in
    let is : new ≡ old ++ part ∷ [] = c.in_ok-push.ensures.items in
    let own = c.part_from-part.ensures.part in
    let at : part.start ≡ c.parts.start = c.part_from-part.ensures.start in
    record {
      within = omega (arith, own.within, at);
      few = omega (
        arith,
        c.parts.invariant.few,
        own.some,
        ap length is ∙ length-append old (part ∷ []),
      );
      each = subst (All (IsPart groups c.args.scripts)) (sym is)
          (All-push (IsPart groups c.args.scripts) old part c.parts.invariant.each own);
      follow = subst (λ (ps : List Part). Follow 0 ps (c.parts.start + part.count)) (sym is)
          (follow_push 0 c.parts.start old part c.parts.invariant.follow at);
    }
