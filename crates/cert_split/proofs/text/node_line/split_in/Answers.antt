use Rattle.std.proofs.Common.{◌≡◌, ◌≢◌, ◌∙◌, ℕ, List, true, false, below_more, arith, subst, sym}
use Rattle.model_logic.specs.Choice.{declared_box}
use Rattle.model_line.specs.NamesByNumber.{parameter_name}
use Rattle.model_logic.specs.Boxes.{CanSplit}
use Rattle.cert_split.specs.text.Grammar.{split_line}
use Rattle.cert_split.proofs.text_lemmas.NodeLaws.{one_mid}
use Rattle.cert_split.proofs.text.node_line.split_in.Goals as goal
use Rattle.cert_split.proofs.text.node_line.split_in.Goals.{in-Some+else-can_split, in_default}

pub loop-p-preserved : goal.loop-p-preserved
loop-p-preserved c =
    let part = c.args.part.now in
    let bytes : List ℕ = c.args.bytes.now in
    let name : List ℕ = parameter_name c.args.line.now c.loop-p.p in
    let T : List ℕ → ℕ → Type 0 = λ n m. bytes ≢ split_line n m in
    below_more _ _ c.loop-p.invariant (elim c.match-mid_in.branch [
      | in-Some+else-can_split w ↦ (λ mid can is.
          let here : bytes ≡ split_line name w.in-Some.mid =
          subst (λ (n : List ℕ). bytes ≡ split_line n w.in-Some.mid) c.param_name_at.ensures
          w.in-Some.ensures in
          let small = c.middles_are_below_the_greatest_interval.ensures part c.loop-p.p mid can in
          let same : mid ≡ w.in-Some.mid =
          one_mid name mid w.in-Some.mid (omega arith) (rw w.in-Some.is at c.mid_in.type_inv).1.1.1.1.0.1 (sym is ∙ here) in
          let yes : w.can_split.result ≡ true = w.can_split.ensures.1
          (subst (λ (m : ℕ). CanSplit part (declared_box part) c.loop-p.p m) same can) in
          let no : w.can_split.result ≡ false = w.if-can_split.false in
          cc)
      | in_default w ↦ (λ mid can is.
          let small = c.middles_are_below_the_greatest_interval.ensures part c.loop-p.p mid can in
          w.in_default.ensures mid (omega arith)
          (subst (λ (n : List ℕ). bytes ≡ split_line n mid) (sym c.param_name_at.ensures) is))
    ])
