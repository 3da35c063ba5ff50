use Rattle.std.proofs.Common.{◌≡◌, ℕ, Some, arith, subst, ⊎_elim}
use Rattle.std.proofs.lemmas.Bool.{cases_lt}
use Rattle.std.proofs.lemmas.Option.{slice_get_within}
use Rattle.std.specs.Prelude.{slice_get}
use Rattle.judge_margins.proofs.margins.lists.widest.Goals as goal

pub loop-place-preserved : goal.loop-place-preserved
loop-place-preserved c i b lt at =
    ⊎_elim (λ earlier. let old = c.loop-place.invariant i b earlier at in omega (arith, old, c.larger-width.ensures.first))
    (λ last.
    let same : i ≡ c.loop-place.place = omega arith in
    let here = c.width_at.ensures b
    (subst (λ (n : ℕ). slice_get c.args.brackets.now n ≡ Some b) same at) in omega (arith, here, c.larger-width.ensures.second))
    (cases_lt i c.loop-place.place)

pub returns : goal.returns
returns c place b at =
    let inside = slice_get_within c.args.brackets.now place b at in
    c.loop-place.invariant place b (omega arith) at
