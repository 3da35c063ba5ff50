-- What is held as declared is kept.
use Rattle.std.proofs.Common.{◌≡◌, ◌%◌, ◌+◌, ℕ, Bool, List, [], ◌∷◌, ◌++◌, Some, length, length-append}
use Rattle.std.proofs.Common.{subst, sym, ap, ◌∙◌, arith}
use Rattle.std.proofs.lemmas.Option.{slice_get_within}
use Rattle.std.specs.Prelude.{slice_get}
use Rattle.model_history.specs.ListLaws.{each_more, exists_at}
use Rattle.model_line.specs.{declared.line.Line.Line, declared.script.Script.Script}
use Rattle.model_line.specs.Parameters.{terminal_count}
use Rattle.model_logic.specs.Choice.{declared_box}
use Rattle.judge_choose.specs.{Known.Known, declared.range.Range.Range, declared.setting.Setting.Setting}
use Rattle.judge_choose.specs.{Told.IsHeldAt, Lanes.AreKeptBefore, Lanes.TellsOver, Positions.IsSetting}
use Rattle.judge_choose.specs.{Positions.position_box, Ranges.AreKept, Ranges.AreRangesBelow}
use Rattle.judge_choose.specs.Ranges.{IsRange, KeepsToday}
use Rattle.judge_choose.proofs.choose_lemmas.CoverLaws.{declared_position}

module _ (known : Known) (line : Line) (scripts : List Script) (setting : Setting)
    (is : IsSetting line setting) where
  -- what is held over the declared box is held at the declared position
  held_there : (place : ℕ) → IsHeldAt line scripts (declared_box line) place
      → IsHeldAt line scripts (position_box line setting setting.declared) place
  held_there place held = record {
    script = held.script;
    at = held.at;
    held = known.held.same line held.script (place % terminal_count line) (declared_box line)
        (position_box line setting setting.declared) (declared_position known line setting is)
        held.held;
  }

  pub today_told : (kept : List Bool) (told : List ℕ) (lane : ℕ) → length kept ≡ length told
      → TellsOver line scripts told lane (position_box line setting setting.declared)
      → AreKeptBefore kept told lane (length kept) → KeepsToday line scripts kept
  today_told kept told lane count tells all place b at held =
      let short = slice_get_within kept place b at in
      let (bits, here) = exists_at told place (omega (arith, short, count)) in
      all place bits b short at here ((tells.each place bits here).1 (held_there place held))

  pub today_declared : (kept : List Bool)
      → AreKept line scripts (position_box line setting setting.declared) kept
      → KeepsToday line scripts kept
  today_declared kept are place b at held = (are.each place b at).1 (held_there place held)

-- one range more
pub range_more : (line : Line) (scripts : List Script) (settings : List Setting) (n : ℕ)
    (old new : List Range) (range : Range) (setting : Setting) → slice_get settings n ≡ Some setting
    → IsRange line scripts setting range → new ≡ old ++ range ∷ []
    → AreRangesBelow line scripts settings n old → AreRangesBelow line scripts settings (n + 1) new
range_more line scripts settings n old new range setting there is grown are = record {
  count = ap length grown ∙ length-append old (range ∷ []) ∙ ap (λ (m : ℕ). m + 1) are.count;
  each = each_more (λ i r. (s : Setting) → slice_get settings i ≡ Some s → IsRange line scripts s r)
      old new range n grown (sym are.count) are.each
      (λ s at.
      let same : setting ≡ s = cc in subst (λ (x : Setting). IsRange line scripts x range) same is);
}
