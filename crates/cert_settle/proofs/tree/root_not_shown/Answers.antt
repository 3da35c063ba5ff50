use Rattle.cert_settle.proofs.OneLeaf.{root_undecided, root_shown, root_is_not_shown}
use Rattle.cert_settle.proofs.tree.root_not_shown.Goals as goal

pub returns-then-not-is_yes : goal.returns-then-not-is_yes
returns-then-not-is_yes c = λ are.
    root_undecided c.args.of.now.compiled.line.now c.args.of.now.script.now c.args.of.now.terminal
    c.args.root are (λ same. let on = c.is_yes.ensures.1 same in
    let off = c.if-not-is_yes.true in cc)

pub returns-then-is_shown_at_once : goal.returns-then-is_shown_at_once
returns-then-is_shown_at_once c = λ are.
    root_shown c.args.of.now.compiled.line.now c.args.of.now.script.now c.args.of.now.terminal
    c.args.root (c.is_yes.ensures.0 c.if-not-is_yes.false)
    (c.is_shown_at_once.ensures.0 c.if-is_shown_at_once.true)

pub returns : goal.returns
returns c = λ are.
    root_is_not_shown c.args.of.now.compiled.line.now c.args.of.now.script.now
    c.args.of.now.terminal c.args.root (c.is_yes.ensures.0 c.if-not-is_yes.false)
    (λ shown. let on = c.is_shown_at_once.ensures.1 shown in
    let off = c.if-is_shown_at_once.false in cc)
