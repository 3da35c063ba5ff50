use Rattle.std.proofs.Common.{◌≡◌, ◌∙◌, true, false, sym, subst}
use Rattle.cert_settle.specs.Grammar.{Follows}
use Rattle.cert_settle.specs.Reading.{last_of}
use Rattle.cert_settle.proofs.LineLaws.{one_step}
use Rattle.cert_settle.proofs.read_timing.next_step.Goals as goal

pub returns-else-follows : goal.returns-else-follows
returns-else-follows c = λ step inside follows is.
    let own = c.in_ok-step.step in
    let same : step ≡ own =
    one_step c.laws_below.ensures c.args.line.now step own inside c.in_ok-step.ensures.0
    (sym is ∙ c.in_ok-step.ensures.1) in
    let yes : c.follows.result ≡ true =
    c.follows.ensures.1 (subst (λ s. Follows (last_of c.args.steps.now) s) same follows) in
    let no : c.follows.result ≡ false = c.if-follows.false in
    cc
