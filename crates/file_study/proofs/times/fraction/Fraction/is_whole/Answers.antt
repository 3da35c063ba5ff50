use Rattle.std.proofs.Common.{◌≡◌, ◌≤◌, ℕ, arith, eq-eqb, subst, sym}
use Rattle.std.proofs.lemmas.Bool.{eqb-true}
use Rattle.file_study.specs.{times.Fractions.IsAtMost, times.Rounding.ticks}
use Rattle.file_study.specs.times.RoundedLaws.{down-up}
use Rattle.file_study.proofs.times.fraction.Fraction.is_whole.Goals as goal

pub returns : goal.returns
returns c = (
  λ same.
      let e : c.ticks_down.result ≡ c.ticks_up.result = eqb-true _ _ same in
      let P : ℕ → Type 0 = λ n. IsAtMost c.args.self (ticks c.args.tick_us n) in
      (c.ticks_down.result, (c.ticks_down.ensures.0, subst P (sym e) c.ticks_up.ensures.0)),
  λ (n, (low, high)).
      let a : n ≤ c.ticks_down.result = c.ticks_down.ensures.1 n low in
      let b : c.ticks_up.result ≤ n = c.ticks_up.ensures.1 n high in
      let d : c.ticks_down.result ≤ c.ticks_up.result =
      down-up c.args.self c.args.tick_us _ _ c.requires.number c.requires.tick c.ticks_down.ensures
      c.ticks_up.ensures in
      eq-eqb _ _ (omega arith),
)
