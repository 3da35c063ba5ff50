use Rattle.std.proofs.lemmas.List.Elements.{All-push}
use Rattle.file_borders.specs.Studies.{IsAnswerable}
use Rattle.file_borders.proofs.study.push_loose.Goals as goal

pub returns-clause-can : goal.returns-clause-can
returns-clause-can c = λ before.
    rw c.in_ok-push.ensures.items
    (All-push (IsAnswerable c.args.line.now) c.args.all.now.items c.in_ok-loose.loose before c.in_ok-loose.ensures.is.1)
