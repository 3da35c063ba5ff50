-- An end has one slack.
use Rattle.std.proofs.Common.{◌≡◌, ◌+◌, ℕ, List, Some, None, Option, subst, ap, ◌∙◌}
use Rattle.std.proofs.Common.{⊎_elim, arith, refl}
use Rattle.std.proofs.lemmas.Bool.{cases_lt}
use Rattle.std.specs.Prelude.{slice_get}
use Rattle.model_logic.specs.Choice.{Box}
use Rattle.model_line.specs.{declared.line.Line.Line, declared.script.Script.Script}
use Rattle.judge_report.specs.declared.upper_end.Lost.{Lost}
use Rattle.judge_margins.specs.{declared.margins.end.Side.Side, declared.margins.end.End.End, margins.Kept.IsFirstLost}
use Rattle.judge_margins.specs.margins.Ends.{IsSlack, IsLostBeyond, IsEnd}
use Rattle.judge_margins.specs.margins.Widened.{widened}

module _ (line : Line) (scripts : List Script) (obligations : List Lost) (n : ℕ) where
  first_once : (box : Box) (a b : Lost) → IsFirstLost line scripts box obligations n a
      → IsFirstLost line scripts box obligations n b → a ≡ b
  first_once box a b p q =
      ⊎_elim (λ lt. absurd (p.lost (q.before.each p.place a lt p.at)))
      (λ ge.
      ⊎_elim (λ lt. absurd (q.lost (p.before.each q.place b lt q.at)))
      (λ le.
      let same : p.place ≡ q.place = omega (arith, ge, le) in
      let at_a : slice_get obligations q.place ≡ Some a =
      subst (λ (i : ℕ). slice_get obligations i ≡ Some a) same p.at in
      let at_b = q.at in cc)
      (cases_lt q.place p.place))
      (cases_lt p.place q.place)

  module _ (param : ℕ) (side : Side) where
    slack_once : (u v : ℕ) → IsSlack line scripts obligations n param side u
        → IsSlack line scripts obligations n param side v → u ≡ v
    slack_once u v p q =
        ⊎_elim (λ lt. absurd (p.furthest v lt q.within q.kept))
        (λ ge.
        ⊎_elim (λ lt. absurd (q.furthest u lt p.within p.kept))
        (λ le. omega (arith, ge, le)) (cases_lt v u))
        (cases_lt u v)

    lost_once : (v : ℕ) (a b : Option Lost)
        → IsLostBeyond line scripts obligations n param side v a
        → IsLostBeyond line scripts obligations n param side v b → a ≡ b
    lost_once v None None p q = refl
    lost_once v None (Some b) p q = absurd (omega (arith, p, q.0))
    lost_once v (Some a) None p q = absurd (omega (arith, p.0, q))
    lost_once v (Some a) (Some b) p q =
        ap Some (first_once (widened line param side (v + 1)) a b p.1 q.1)

    pub one_end : (a b : End) → IsEnd line scripts obligations n param side a
        → IsEnd line scripts obligations n param side b → a ≡ b
    one_end a b p q =
        let same : a.slack ≡ b.slack = slack_once a.slack b.slack p.slack q.slack in
        let lost : a.lost ≡ b.lost =
        lost_once b.slack a.lost b.lost
        (subst (λ (v : ℕ). IsLostBeyond line scripts obligations n param side v a.lost) same p.lost)
        q.lost in
        let by_slack : ℕ → End = λ v. record { slack = v; lost = a.lost } in
        let by_lost : Option Lost → End = λ l. record { slack = b.slack; lost = l } in
        ap by_slack same ∙ ap by_lost lost
