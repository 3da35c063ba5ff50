use Rattle.std.proofs.Common.{◌≡◌, ◌++◌, ◌∙◌, Bool, true, sym, subst}
use Rattle.call_tables.specs.Table.{is_open}
use Rattle.call_page.specs.Choices.{IsUndecidedOf}
use Rattle.call_facts.specs.Lists.{EachOf, if_one}
use Rattle.call_facts.specs.SideLaws.{each_push}
use Rattle.call_page.proofs.undecided.push_open.Goals as goal

pub returns-in_ok-push : goal.returns-in_ok-push
returns-in_ok-push c = λ before so_far.
    let line = c.args.study.now.line in
    let scripts = c.args.study.now.scripts.items in
    let parts = c.args.parts.now in
    let row = c.args.row.now in
    let on : is_open row ≡ true = sym c.is_open.ensures ∙ c.if-is_open.true in
    subst (λ (b : Bool). EachOf (IsUndecidedOf line scripts parts) (before ++ if_one b row)
    c.push.new.self.items) (sym on)
    (each_push (IsUndecidedOf line scripts parts) before c.args.those.now.items
    c.push.new.self.items row c.in_ok-one.one c.in_ok-push.ensures.items c.in_ok-one.ensures so_far)
