use Rattle.std.proofs.Common.{◌≡◌, ◌∙◌, ℕ, List, true, false, below_more, subst, sym}
use Rattle.std.specs.Prelude.{codes}
use Rattle.model_line.specs.NamesByNumber.{parameter_name}
use Rattle.model_settle.specs.Parts.{CanPart}
use Rattle.cert_settle.specs.Grammar.{part_line}
use Rattle.cert_settle.proofs.{LineLaws.one_after, NodeLaws.as_views}
use Rattle.cert_settle.proofs.branch_line.part_in.Goals as goal
use Rattle.cert_settle.proofs.branch_line.part_in.Goals.{in-Some+else-can_part, in_default}

pub loop-p-preserved : goal.loop-p-preserved
loop-p-preserved c =
    let line = c.args.line.now in
    let view = c.args.view.now in
    let bytes : List ℕ = c.args.bytes.now in
    let name : List ℕ = parameter_name line c.loop-p.p in
    below_more _ _ c.loop-p.invariant (elim c.match-number_after.branch [
      | in-Some+else-can_part w ↦ (λ box mid over small can there.
          let here : bytes ≡ part_line name w.in-Some.mid =
          subst (λ (n : List ℕ). bytes ≡ part_line n w.in-Some.mid) c.param_name_at.ensures
          w.in-Some.ensures.1 in
          let same : mid ≡ w.in-Some.mid =
          one_after (codes "part") name mid w.in-Some.mid small w.in-Some.ensures.0
          (sym there ∙ here) in
          let yes : w.can_part.result ≡ true =
          (w.can_part.ensures box view.assumed.items (as_views line box view over)).1
          (subst (λ (m : ℕ). CanPart line box c.loop-p.p m) same can) in
          let no : w.can_part.result ≡ false = w.if-can_part.false in
          cc)
      | in_default w ↦ (λ box mid over small can there.
          w.in_default.ensures mid small
          (subst (λ (n : List ℕ). bytes ≡ part_line n mid) (sym c.param_name_at.ensures) there))
    ])
