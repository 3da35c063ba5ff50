use Rattle.std.proofs.Common.{◌≡◌, ◌++◌, ◌&&◌, ◌∙◌, Bool, true, refl, sym, ap, subst}
use Rattle.judge_settle.specs.declared.settle.answer.Answer.{Answer}
use Rattle.judge_settle.specs.settle.Answers.{is_failing as fails_so}
use Rattle.call_tables.specs.Table.{is_failing}
use Rattle.call_page.specs.Choices.{IsChoiceOf, begins}
use Rattle.call_facts.specs.Lists.{EachOf, if_one}
use Rattle.call_facts.specs.SideLaws.{each_push}
use Rattle.call_page.proofs.choices.push_choice.Goals as goal

pub returns-in_ok-push : goal.returns-in_ok-push
returns-in_ok-push c = λ before so_far.
    let known = c.args.known.now in
    let line = known.study.now.line in
    let scripts = known.study.now.scripts.items in
    let rows = known.rows.now in
    let parts = c.args.parts.now in
    let row = c.args.row.now in
    let fails : is_failing row ≡ true = ap (λ (a : Answer). fails_so a) c.in-Fails.is in
    let first : begins line parts rows row.script row.terminal ≡ true =
    sym c.begins.ensures ∙ c.if-begins.true in
    let on : (is_failing row && begins line parts rows row.script row.terminal) ≡ true =
    rw (fails, first) refl in
    subst (λ (b : Bool). EachOf (IsChoiceOf line scripts parts rows) (before ++ if_one b row)
    c.push.new.self.items) (sym on)
    (each_push (IsChoiceOf line scripts parts rows) before c.args.choices.now.items
    c.push.new.self.items row c.in_ok-choice.choice c.in_ok-push.ensures.items
    c.in_ok-choice.ensures so_far)
