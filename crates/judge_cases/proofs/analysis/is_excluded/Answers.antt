use Rattle.std.proofs.Common.{◌≡◌, ◌<◌, ◌≤◌, Some, length, refl, sym, ◌∙◌, ap, subst, arith, ⊎_elim}
use Rattle.std.proofs.lemmas.Bool.{cases_lt}
use Rattle.std.proofs.lemmas.Option.{slice_get_read, slice_get-get_or}
use Rattle.std.specs.Prelude.{slice_get}
use Rattle.model_settle.specs.Assumed.{Assumption}
use Rattle.judge_cases.specs.Excluded.{ExcludedIn}
use Rattle.judge_cases.proofs.analysis.is_excluded.Goals as goal

one_value : (x y : Assumption) {o : _} → o ≡ Some x → o ≡ Some y → x ≡ y
one_value x y e f = cc

pub loop-i-preserved : goal.loop-i-preserved
loop-i-preserved c = λ j a lt at excluded.
    let assumed = c.args.assumed.now in
    let now : slice_get assumed c.loop-i.i ≡ Some c.index-assumed-i.result =
    slice_get_read assumed (length assumed) c.loop-i.i c.index-assumed-i.result refl
    c.loop-i-test.true c.index-assumed-i.is in
    ⊎_elim
    (λ before. c.loop-i.invariant j a before at excluded)
    (λ last. let same : c.loop-i.i ≡ j = omega arith in
    let here : slice_get assumed c.loop-i.i ≡ Some a =
    ap (slice_get assumed) same ∙ at in
    let one : a ≡ c.index-assumed-i.result = one_value a c.index-assumed-i.result here now in
    let on = c.is_one_excluded.ensures.1
    (subst (ExcludedIn c.args.compiled.now.line.now c.args.compiled.now.net.now c.args.lane
    c.args.waves.now) one excluded) in
    let off = c.if-is_one_excluded.false in
    absurd (cc))
    (cases_lt j c.loop-i.i)

pub returns-then-is_one_excluded : goal.returns-then-is_one_excluded
returns-then-is_one_excluded c = (
  λ on. record {
    one = c.index-assumed-i.result;
    is = (c.loop-i.i, c.loop-i-test.true, sym c.index-assumed-i.is);
    excluded = c.is_one_excluded.ensures.0 c.if-is_one_excluded.true;
  },
  λ one. refl,
)

pub returns : goal.returns
returns c = (
  λ on. absurd (cc),
  λ one.
      let over : length c.args.assumed.now ≤ c.loop-i.i = c.loop-i-test.false in
      let inside : one.is.0 < length c.args.assumed.now = one.is.1 in
      absurd (c.loop-i.invariant one.is.0 one.one (omega (arith, over, inside))
      (slice_get-get_or c.args.assumed.now one.is.0 one.one inside ∙ ap Some one.is.2)
      one.excluded),
)
