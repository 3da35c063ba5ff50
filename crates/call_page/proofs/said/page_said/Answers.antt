use Rattle.std.proofs.Common.{sym, subst}
use Rattle.call_answer.specs.{declared.done.Done.Done}
use Rattle.call_page.specs.{Pages.IsPageText, Sources.words_of}
use Rattle.call_page.proofs.said.page_said.Goals as goal

pub returns : goal.returns
returns c =
    let study = c.args.study.now in
    subst (λ (status : Done). IsPageText study.line study.scripts.items c.args.groups.now
    (words_of c.args.asked.now) status c.in_ok-text.text.items)
    (sym c.status_of-status.ensures) c.in_ok-text.ensures
