-- The ends of a parameter among all.
use Rattle.std.proofs.Common.{◌≡◌, ◌+◌, ◌*◌, ◌/◌, ◌%◌, ◌==◌, ℕ, List, Some, ap, subst, arith}
use Rattle.std.specs.Prelude.{slice_get, if◌then◌else◌}
use Rattle.model_line.specs.{declared.line.Line.Line, declared.script.Script.Script}
use Rattle.judge_report.specs.declared.upper_end.Lost.{Lost}
use Rattle.judge_margins.specs.declared.margins.end.{End.End, Side.Side}
use Rattle.judge_margins.specs.declared.margins.end.Side.TheVariants.{Above, Below}
use Rattle.judge_margins.specs.margins.Ends.{AreEnds, IsEnd}
use Rattle.judge_margins.specs.margins.Widened.{side_at}

even_half : (i : ℕ) → (2 * i) / 2 ≡ i
even_half i = omega arith

even_rest : (i : ℕ) → (2 * i) % 2 ≡ 0
even_rest i = omega arith

odd_half : (i : ℕ) → (2 * i + 1) / 2 ≡ i
odd_half i = omega arith

odd_rest : (i : ℕ) → (2 * i + 1) % 2 ≡ 1
odd_rest i = omega arith

abbrev side_by : ℕ → Side
side_by rest = if rest == 0 then Above else Below

module _ (line : Line) (scripts : List Script) (held : List Lost) (n : ℕ) (ends : List End)
    (are : AreEnds line scripts held n ends) (i : ℕ) (end : End) where
  pub end_above : slice_get ends (2 * i) ≡ Some end → IsEnd line scripts held n i Above end
  end_above at =
      subst (λ (side : Side). IsEnd line scripts held n i side end)
      (ap side_by (even_rest i))
      (subst (λ (p : ℕ). IsEnd line scripts held n p (side_at (2 * i)) end) (even_half i)
      (are.each (2 * i) end at))

  pub end_below : slice_get ends (2 * i + 1) ≡ Some end → IsEnd line scripts held n i Below end
  end_below at =
      subst (λ (side : Side). IsEnd line scripts held n i side end)
      (ap side_by (odd_rest i))
      (subst (λ (p : ℕ). IsEnd line scripts held n p (side_at (2 * i + 1)) end) (odd_half i)
      (are.each (2 * i + 1) end at))
