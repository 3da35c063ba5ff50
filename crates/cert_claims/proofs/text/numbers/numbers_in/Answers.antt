use Rattle.std.proofs.Common.{◌++◌, ◌∷◌, [], ◌<◌, List, ℕ, take, length, sym, ◌∙◌, ap, arith}
use Rattle.std.proofs.lemmas.List.{take_more, take_all}
use Rattle.cert_claims.proofs.text_lemmas.NumberLaws.{next_number}
use Rattle.cert_claims.proofs.text.numbers.numbers_in.Goals as goal

pub loop-i-init : goal.loop-i-init
loop-i-init c = λ all are text. (c.new-numbers.ensures.items, text)

pub returns-in_default : goal.returns-in_default
returns-in_default c = λ all are text.
    let h = c.loop-i.invariant all are text in
    let inside : c.loop-i._i < length all = omega (arith, are.many) in
    absurd (c.in_default.ensures _ _ (next_number all c.loop-i._i 0 c.loop-i.rest.now are.small
    inside h.1))

pub loop-i-preserved : goal.loop-i-preserved
loop-i-preserved c = λ all are text.
    let h = c.loop-i.invariant all are text in
    let inside : c.loop-i._i < length all = omega (arith, are.many) in
    let e = c.in-Some.ensures _ _ (next_number all c.loop-i._i 0 c.loop-i.rest.now are.small inside
    h.1) in (
      c.in_ok-push.ensures.items ∙ ap (λ (l : List ℕ). l ++ c.in-Some.number ∷ []) h.0
          ∙ ap (λ (n : ℕ). take c.loop-i._i all ++ n ∷ []) e.0
          ∙ sym (take_more all c.loop-i._i 0 inside),
      e.1,
    )

pub returns : goal.returns
returns c = λ all are text.
    (c.loop-i.invariant all are text).0 ∙ take_all c.loop-i._i all (omega (arith, are.many))
