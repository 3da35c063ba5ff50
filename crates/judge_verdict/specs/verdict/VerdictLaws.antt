-- Laws of verdicts: an obligation has one at most.
use Rattle.std.proofs.Common.{◌≡◌, ℕ, refl, sym, ◌∙◌, ap, arith, ⊎_elim}
use Rattle.std.proofs.lemmas.Bool.{cases_lt}
use Rattle.model_logic.specs.Histories.{PairHistory}
use Rattle.model_line.specs.{declared.line.Line.Line, declared.script.Script.Script}
use Rattle.model_timing.specs.Candidates.{candidate}
use Rattle.judge_verdict.specs.declared.verdict.verdict.Verdict.{Verdict}
use Rattle.judge_verdict.specs.declared.verdict.verdict.Verdict.TheVariants.{Yes, No, Undecided}
use Rattle.judge_verdict.specs.verdict.Verdicts.{PassesAt, FailsAt, IsFirstFailing, IsRuleHeld, IsVerdict}

module _ (line : Line) (script : Script) (k : ℕ) where
  -- a candidate that passes does not fail
  pass_or_fail : (i : ℕ) → PassesAt line script k (candidate line i)
      → FailsAt line script k (candidate line i) → ⊥
  pass_or_fail i passes fails = fails.fails (passes.meets fails.h fails.is)

  -- one candidate alone is the first that fails
  first_once : (i j : ℕ) → IsFirstFailing line script k i → IsFirstFailing line script k j → i ≡ j
  first_once i j p q =
      ⊎_elim (λ before. absurd (pass_or_fail i (q.earlier i before) p.fails))
      (λ late.
      ⊎_elim (λ after. absurd (pass_or_fail j (p.earlier j after) q.fails))
      (λ even. omega (arith, late, even))
      (cases_lt j i))
      (cases_lt i j)

  -- over two interval histories whose rules are held together
  pub verdict_once : (v w : PairHistory) → (IsRuleHeld line script k v → IsRuleHeld line script k w)
      → (IsRuleHeld line script k w → IsRuleHeld line script k v) → (a b : Verdict)
      → IsVerdict line script k v a → IsVerdict line script k w b → a ≡ b
  verdict_once v w there back Yes Yes p q = refl
  verdict_once v w there back Yes (No timing) p q = absurd (q.not_held (there p))
  verdict_once v w there back Yes Undecided p q = absurd (q.not_held (there p))
  verdict_once v w there back (No timing) Yes p q = absurd (p.not_held (back q))
  verdict_once v w there back (No timing) (No other) p q =
      ap No (p.is ∙ ap (candidate line) (first_once p.number q.number p.first q.first) ∙ sym q.is)
  verdict_once v w there back (No timing) Undecided p q =
      absurd (pass_or_fail p.number (q.passes p.number p.first.below) p.first.fails)
  verdict_once v w there back Undecided Yes p q = absurd (p.not_held (back q))
  verdict_once v w there back Undecided (No timing) p q =
      absurd (pass_or_fail q.number (p.passes q.number q.first.below) q.first.fails)
  verdict_once v w there back Undecided Undecided p q = refl
