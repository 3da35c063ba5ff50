use Rattle.std.proofs.Common.{refl, sym}
use Rattle.std.specs.Option.{option_copied}
use Rattle.std.proofs.lemmas.Result.{err_from_is_err_and}
use Rattle.call_study.proofs.Explaining.{explain_halts}
use Rattle.call_study.proofs.explain.explain_over.Goals as goal

pub returns-in_default : goal.returns-in_default
returns-in_default c =
    rw (sym (rw c.as_slice-scripts.ensures.value at c.in_default.ensures))
    (_, rw c.as_slice-scripts.ensures.value at c.in_ok-why.ensures, (refl, refl))

pub returns-in_err-said : goal.returns-in_err-said
returns-in_err-said c =
    let p = err_from_is_err_and c.from_residual-in_err-said.result c.from_residual-in_err-said.ensures.1 in
    let study = c.args.study.now in
    rw (p.1, p.2) (explain_halts c.args.how.within c.args.how.form study.line study.scripts.items
    c.args.recording.now (option_copied c.args.script) c.in-Some.which
    (sym (rw c.as_slice-scripts.ensures.value at c.in-Some.ensures))
    c.in_err-said.field-0.0 c.requires.few
    (rw c.as_slice-scripts.ensures.value at c.in_err-said.ensures))

pub returns : goal.returns
returns c =
    let said = rw c.as_slice-scripts.ensures.value at c.in_ok-said.ensures in
    let named = sym (rw c.as_slice-scripts.ensures.value at c.in-Some.ensures) in
    rw (named, said.read, said.picks) said
