use Rattle.std.proofs.Common.{◌≡◌, ℕ, true, false, Some, subst, ⊎_elim, arith, refl}
use Rattle.std.proofs.lemmas.Bool.{cases_lt}
use Rattle.std.proofs.lemmas.Option.{slice_get_within}
use Rattle.std.specs.Prelude.{slice_get}
use Rattle.model_history.specs.ListLaws.{exists_at}
use Rattle.judge_margins.proofs.map.intervals.can_place_all.Goals as goal

pub returns-then-not-can_place_at : goal.returns-then-not-can_place_at
returns-then-not-can_place_at c =
    let (param, at) = exists_at c.args.params.now c.loop-i.i c.loop-i-test.true in (
      λ e. absurd (cc),
      λ all.
          let on : c.can_place_at.result ≡ true =
          (c.can_place_at.ensures param at).1 (all.each c.loop-i.i param at) in
          let off : c.can_place_at.result ≡ false = c.if-not-can_place_at.true in cc,
    )

pub loop-i-preserved : goal.loop-i-preserved
loop-i-preserved c j param lt at =
    ⊎_elim (λ earlier. c.loop-i.invariant j param earlier at)
    (λ last.
    let same : j ≡ c.loop-i.i = omega (arith, lt, last) in
    (c.can_place_at.ensures param
    (subst (λ (n : ℕ). slice_get c.args.params.now n ≡ Some param) same at)).0
    c.if-not-can_place_at.false)
    (cases_lt j c.loop-i.i)

pub returns : goal.returns
returns c = (
  λ on. record {
    each = λ j param at.
        let inside = slice_get_within c.args.params.now j param at in
        c.loop-i.invariant j param (omega (arith, inside, c.loop-i-test.false)) at;
  },
  λ all. refl,
)
