use Rattle.std.proofs.Common.{◌≡◌, ◌∙◌, ap, arith, sym}
use Rattle.std.specs.List.{after_first, before_first}
use Rattle.std.specs.Prelude.{◌==◌, None}
use Rattle.file_comtrade.specs.Places.{line_in}
use Rattle.file_comtrade.specs.Sections.{head_of}
use Rattle.file_comtrade.specs.SectionViews.{if_wanted}
use Rattle.file_comtrade.proofs.Finding.{behind_more, found_is, is_not_there, none_found, none_left}
use Rattle.file_comtrade.proofs.Finding.{nothing_there, passed_over, something_there}
use Rattle.file_comtrade.proofs.sections.find.Goals as goal

pub returns-then-is_empty-clause-first : goal.returns-then-is_empty-clause-first
returns-then-is_empty-clause-first c =
    let empty = nothing_there c.loop-n.rest.now (sym c.is_empty.ensures ∙ c.if-is_empty.true) in
    sym (c.loop-n.invariant.first
    ∙ none_left c.args.what c.args.text.now c.loop-n.n _ (sym c.loop-n.invariant.rest ∙ empty))

pub returns-in-Some-clause-first : goal.returns-in-Some-clause-first
returns-in-Some-clause-first c =
    found_is c.args.what c.args.text.now c.loop-n.n c.in-Some.head c.loop-n.rest.now
    c.behind_first-next.result.now c.before_byte.result.now c.loop-n-test.true
    c.loop-n.invariant.rest c.before_byte.ensures c.behind_first-next.ensures.rest
    (sym c.in_ok-head.ensures ∙ c.in-Some.is) c.loop-n.invariant.first

pub returns-in-Some-clause-inside : goal.returns-in-Some-clause-inside
returns-in-Some-clause-inside c =
    let some = something_there c.loop-n.rest.now (sym c.is_empty.ensures ∙ c.if-is_empty.false) in
    omega (arith, some, c.behind_first-next.ensures.shorter, c.loop-n.invariant.inside)

pub loop-n-preserved : goal.loop-n-preserved
loop-n-preserved c =
    let text = c.args.text.now in
    let what = c.args.what in
    let n = c.loop-n.n in
    let some = something_there c.loop-n.rest.now (sym c.is_empty.ensures ∙ c.if-is_empty.false) in
    let line = c.before_byte.ensures ∙ ap (before_first (λ b. b == 10)) c.loop-n.invariant.rest in
    let none : if_wanted what (head_of (line_in text n)) ≡ None =
    ap (λ l. if_wanted what (head_of l)) (sym line) ∙ sym c.in_ok-head.ensures ∙ c.in_default.is in
    record {
      rest = c.behind_first-next.ensures.rest
          ∙ ap (after_first (λ b. b == 10)) c.loop-n.invariant.rest ∙ sym (behind_more 10 n text);
      first = c.loop-n.invariant.first
          ∙ passed_over what text n _ c.loop-n-test.true (is_not_there what _ none);
      inside = omega (arith, some, c.behind_first-next.ensures.shorter, c.loop-n.invariant.inside);
    }

pub returns-clause-first : goal.returns-clause-first
returns-clause-first c =
    none_found c.args.what c.args.text.now c.loop-n.n c.loop-n-test.false c.loop-n.invariant.first
