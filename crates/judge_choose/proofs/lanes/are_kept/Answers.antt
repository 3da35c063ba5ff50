use Rattle.std.proofs.Common.{◌≡◌, ℕ, Some, ◌∙◌, sym, subst, arith, ⊎_elim}
use Rattle.std.proofs.lemmas.Bool.{cases_lt}
use Rattle.std.specs.Prelude.{slice_get}
use Rattle.run_signal.specs.Bits.{bit_on}
use Rattle.judge_choose.proofs.choose_lemmas.LaneLaws.{other_on}
use Rattle.judge_choose.proofs.lanes.are_kept.Goals as goal

pub loop-place-preserved : goal.loop-place-preserved
loop-place-preserved c p bits b lt at here on =
    ⊎_elim (λ early. c.loop-place.invariant p bits b early at here on)
    (λ late.
    let same : p ≡ c.loop-place.place = omega (arith, lt, late) in
    other_on (bit_on bits c.args.lane) b
    (sym (c.is_given_up.ensures b bits
    (subst (λ (n : ℕ). slice_get c.args.kept.now n ≡ Some b) same at)
    (subst (λ (n : ℕ). slice_get c.args.told.now n ≡ Some bits) same here)) ∙ c.if-is_given_up.false)
    on)
    (cases_lt p c.loop-place.place)
