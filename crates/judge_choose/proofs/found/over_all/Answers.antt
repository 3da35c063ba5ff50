use Rattle.std.proofs.Common.{◌+◌, ◌-◌, ℕ, drop, subst, sym}
use Rattle.std.proofs.lemmas.List.Elements.{All-drop, All-take}
use Rattle.std.specs.List.{All}
use Rattle.model_line.specs.Fits.{Fits}
use Rattle.judge_choose.proofs.found.over_all.Goals as goal

pub over_script-requires-clause-fit : goal.over_script-requires-clause-fit
over_script-requires-clause-fit c =
    let fits = Fits c.args.compiled.now.line.now in
    let s : ℕ = c.loop-s.s in
    subst (All fits) (sym c.alone.ensures)
    (All-take fits (s + 1 - s) (drop s c.args.scripts.now)
    (All-drop fits s c.args.scripts.now c.requires.fit))
