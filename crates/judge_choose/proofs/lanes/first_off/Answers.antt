use Rattle.std.proofs.Common.{◌≡◌, ℕ, Bool, true, Some, ◌∙◌, sym, subst, refl, arith, ⊎_elim}
use Rattle.std.proofs.lemmas.Bool.{cases_lt}
use Rattle.std.specs.Prelude.{slice_get}
use Rattle.run_signal.specs.Bits.{bit_on}
use Rattle.model_history.specs.ListLaws.{exists_at}
use Rattle.judge_choose.proofs.choose_lemmas.LaneLaws.{both_told, other_on}
use Rattle.judge_choose.proofs.lanes.first_off.Goals as goal

pub loop-place-preserved : goal.loop-place-preserved
loop-place-preserved c p bits lt at here =
    ⊎_elim (λ early. c.loop-place.invariant p bits early at here)
    (λ late.
    let same : p ≡ c.loop-place.place = omega (arith, lt, late) in
    other_on true (bit_on bits c.args.lane)
    (sym (c.is_off.ensures true bits
    (subst (λ (n : ℕ). slice_get c.args.kept.now n ≡ Some true) same at)
    (subst (λ (n : ℕ). slice_get c.args.told.now n ≡ Some bits) same here)) ∙ c.if-is_off.false)
    refl)
    (cases_lt p c.loop-place.place)

pub returns-then-is_off : goal.returns-then-is_off
returns-then-is_off c =
    let place : ℕ = c.loop-place.place in
    let count = c.requires.count in
    let (b, at) = exists_at c.args.kept.now place (omega (arith, c.loop-place-test.true)) in
    let (bits, here) = exists_at c.args.told.now place (omega (arith, c.loop-place-test.true, count)) in
    let both = both_told b (bit_on bits c.args.lane)
    (sym (c.is_off.ensures b bits at here) ∙ c.if-is_off.true) in record {
      own = subst (λ (x : Bool). slice_get c.args.kept.now place ≡ Some x) both.0 at;
      bits = bits;
      at = here;
      off = both.1;
      before = c.loop-place.invariant;
    }
