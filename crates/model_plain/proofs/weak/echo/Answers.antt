use Rattle.std.proofs.Common.{◌≡◌, subst, sym}
use Rattle.std.specs.Prelude.{IfOk}
use Rattle.model_logic.specs.Permissive.{permission}
use Rattle.model_plain.specs.Formulas.{tree_of}
use Rattle.model_plain.proofs.WeakLaws.{echo_is}
use Rattle.model_plain.proofs.weak.echo.Goals as goal

pub returns : goal.returns
returns c parts =
    let line = c.args.line.now in
    let p = permission line c.args.k in
    subst (λ t. IfOk c.pulsed.result (λ f. tree_of parts f ≡ t))
    (sym (echo_is line c.args.k p c.requires.weak))
    (c.pulsed.ensures parts _
    (c.wanted_with-wanted.ensures parts p (c.permission.ensures parts))
    (c.wanted_with-again.ensures parts p (c.permission-2.ensures parts)))
