use Rattle.std.proofs.Common.{◌≡◌, ◌∙◌, ℕ, List, true, false, below_more, subst, sym}
use Rattle.model_settle.specs.Assumed.{HasSpan}
use Rattle.judge_cases.specs.AssumedAt.{span_at}
use Rattle.cert_settle.specs.Grammar.{span_line, name_of_terminal}
use Rattle.cert_settle.proofs.LineLaws.{one_ticks, span_small}
use Rattle.cert_settle.proofs.branch_line.span_in.Goals as goal
use Rattle.cert_settle.proofs.branch_line.span_in.Goals.{in-Some+else-has_span, in_default}

pub loop-k-preserved : goal.loop-k-preserved
loop-k-preserved c =
    let line = c.args.line.now in
    let bytes : List ℕ = c.args.bytes.now in
    let k : ℕ = c.loop-k.k in
    let name : List ℕ = name_of_terminal line k in
    below_more _ _ c.loop-k.invariant (elim c.match-numbers_after.branch [
      | in-Some+else-has_span w ↦ (λ from to has there.
          let since : ℕ = w.in-Some.from in
          let until : ℕ = w.in-Some.to in
          let here : bytes ≡ span_line name since until =
          subst (λ (n : List ℕ). bytes ≡ span_line n since until) c.name_at.ensures
          w.in-Some.ensures.1.1 in
          let small = span_small line k from to has in
          let same = one_ticks name from since to until small.0 w.in-Some.ensures.0 small.1
          w.in-Some.ensures.1.0 (sym there ∙ here) in
          let yes : w.has_span.result ≡ true = w.has_span.ensures.1
          (subst (λ (m : ℕ). HasSpan line (span_at k since m)) same.1
          (subst (λ (m : ℕ). HasSpan line (span_at k m to)) same.0 has)) in
          let no : w.has_span.result ≡ false = w.if-has_span.false in
          cc)
      | in_default w ↦ (λ from to has there.
          let small = span_small line k from to has in
          w.in_default.ensures from to small.0 small.1
          (subst (λ (n : List ℕ). bytes ≡ span_line n from to) (sym c.name_at.ensures) there))
    ])
