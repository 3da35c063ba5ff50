use Rattle.std.proofs.Common.{◌≡◌, ℕ, Bool, List, Some, subst}
use Rattle.call_why.specs.Reasons.{IsToldWhy}
use Rattle.std.proofs.lemmas.Option.{slice_get_within, get_or_from_slice_get}
use Rattle.std.specs.Prelude.{slice_get}
use Rattle.model_line.specs.{declared.script.Script.Script, Fits.Fits}
use Rattle.call_page.proofs.choice.choice.Goals as goal

pub cut-requires-clause-fails : goal.cut-requires-clause-fails
cut-requires-clause-fails c =
    let failing = c.requires.fails c.script_at-of_script.result.now c.script_at-of_script.ensures in
    record { inside = failing.inside; fails = failing.fails }

pub told_why-requires-clause-fails : goal.told_why-requires-clause-fails
told_why-requires-clause-fails c =
    c.requires.fails c.script_at-of_script.result.now c.script_at-of_script.ensures

pub told_why-requires-clause-fits : goal.told_why-requires-clause-fits
told_why-requires-clause-fits c =
    let scripts : List Script = c.args.known.now.study.now.scripts.items in
    let i : ℕ = c.args.row.now.script in
    let script : Script = c.script_at-of_script.result.now in
    let at : slice_get scripts i ≡ Some script = c.script_at-of_script.ensures in
    subst (Fits c.args.known.now.study.now.line) (get_or_from_slice_get scripts i script script at)
    (c.requires.known.study.fit i script (slice_get_within scripts i script at))

pub choice_of-requires-clause-fits : goal.choice_of-requires-clause-fits
choice_of-requires-clause-fits c =
    let scripts : List Script = c.args.known.now.study.now.scripts.items in
    let i : ℕ = c.args.row.now.script in
    let script : Script = c.script_at-of_script.result.now in
    let at : slice_get scripts i ≡ Some script = c.script_at-of_script.ensures in
    subst (Fits c.args.known.now.study.now.line) (get_or_from_slice_get scripts i script script at)
    (c.requires.known.study.fit i script (slice_get_within scripts i script at))

pub returns : goal.returns
returns c =
    let why = subst (λ (every : Bool). IsToldWhy c.args.known.now.study.now.line
    c.script_at-of_script.result.now c.args.row.now.terminal c.args.timing.now every
    c.in_ok-why.why.items) c.fails_for_every-each.ensures c.in_ok-why.ensures in
    c.choice_of.ensures c.args.timing.now c.in_ok-cut.ensures why c.args.known.now.study.now.scripts.items
    c.args.known.now.rows.now c.script_at-of_script.ensures c.stretch-count.ensures c.in_ok-last.ensures
