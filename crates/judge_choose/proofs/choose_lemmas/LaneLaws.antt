-- What lanes tell of a range.
use Rattle.std.proofs.Common.{◌≡◌, ◌≤◌, ◌<◌, ◌+◌, ◌-◌, ℕ, Bool, true, false, List, Option, None, Some}
use Rattle.std.proofs.Common.{length, sym, ◌∙◌, ap, subst, refl, arith}
use Rattle.std.proofs.Math.Nat.{min-eq_left}
use Rattle.std.proofs.lemmas.Bool.{eqb-false, eqb-true}
use Rattle.std.proofs.lemmas.Option.{slice_get_within}
use Rattle.std.specs.Prelude.{Decides, min, ◌==◌}
use Rattle.model_history.specs.ListLaws.{exists_at}
use Rattle.model_line.specs.{declared.line.Line.Line, declared.script.Script.Script}
use Rattle.model_logic.specs.Choice.{Box}
use Rattle.judge_choose.specs.{declared.cover.Cover.Cover, declared.range.Bound.Bound}
use Rattle.judge_choose.specs.{declared.range.Range.Range, declared.setting.Setting.Setting, Told.IsHeldAt}
use Rattle.judge_choose.specs.Lanes.{AreInLane, TellOf, TellsFirstOff, TellsOver, bound_of, kept_and_off}
use Rattle.judge_choose.specs.Positions.{IsCover, cover_box, position_box}
use Rattle.judge_choose.specs.Ranges.{AllHeldAt, AreKept, IsAbove, IsBelow, IsFirstLost, IsShown}

-- where one is not on while the other is off, the other is on with it
pub other_on : (a b : Bool) → kept_and_off a b ≡ false → a ≡ true → b ≡ true
other_on true true off on = refl
other_on true false off on = absurd (cc)
other_on false b off on = absurd (cc)

module _ (line : Line) (scripts : List Script) (told : List ℕ) (lane : ℕ) (box : Box)
    (tells : TellsOver line scripts told lane box) where
  -- the bits of a lane tell what is kept over its box
  pub kept_in_lane : (kept : List Bool) → AreInLane told lane kept → AreKept line scripts box kept
  kept_in_lane kept are = record {
    count = are.count ∙ tells.count;
    each = λ place b at.
        let short = slice_get_within kept place b at in
        let count = are.count in
        let (bits, here) = exists_at told place (omega (arith, short, count)) in
        subst (λ (x : Bool). Decides x (IsHeldAt line scripts box place))
        (sym (are.each place b at bits here)) (tells.each place bits here);
  }

  -- what is off is lost
  none_lost : (kept : List Bool) → length kept ≡ length told → TellsFirstOff kept told lane None
      → AllHeldAt line scripts box kept
  none_lost kept count on place at =
      let short = slice_get_within kept place true at in
      let (bits, here) = exists_at told place (omega (arith, short, count)) in
      (tells.each place bits here).0 (on place bits short at here)

  one_lost : (kept : List Bool) (place : ℕ) → length kept ≡ length told
      → TellsFirstOff kept told lane (Some place) → IsFirstLost line scripts box kept place
  one_lost kept place count off = record {
    own = off.own;
    lost = λ held.
        let yes = (tells.each place off.bits off.at).1 held in
        let no = off.off in absurd (cc);
    before = λ p lt at.
        let short = slice_get_within kept p true at in
        let (bits, here) = exists_at told p (omega (arith, short, count)) in
        (tells.each p bits here).0 (off.before p bits lt at here);
  }

-- one tick beyond the end of a range, where there is a position
none_beyond : (a b : ℕ) → (a ≡ b → ⊥) → b ≤ a → b < a
none_beyond a b apart le = omega (arith, apart, le)

module _ (line : Line) (scripts : List Script) (told : List ℕ) (setting : Setting) (range : Range)
    (count : length range.kept.items ≡ length told) where
  below_is : (lane : ℕ) (limit : Bool) (lost : Option ℕ) → (range.first == 0) ≡ limit
      → TellsOver line scripts told lane (position_box line setting (range.first - 1))
      → TellsFirstOff range.kept.items told lane lost
      → IsBelow line scripts setting range (bound_of limit lost)
  below_is lane true lost is tells off = eqb-true range.first 0 is
  below_is lane false None is tells off =
      let apart = eqb-false range.first 0 is in (
        none_beyond range.first 0 apart (omega arith),
        none_lost line scripts told lane (position_box line setting (range.first - 1)) tells
            range.kept.items count off,
      )
  below_is lane false (Some place) is tells off =
      let apart = eqb-false range.first 0 is in (
        none_beyond range.first 0 apart (omega arith),
        one_lost line scripts told lane (position_box line setting (range.first - 1)) tells
            range.kept.items place count off,
      )

  above_is : (lane : ℕ) (limit : Bool) (lost : Option ℕ) → (range.last == setting.last) ≡ limit
      → range.last ≤ setting.last
      → TellsOver line scripts told lane
      (position_box line setting (min (range.last + 1) setting.last))
      → TellsFirstOff range.kept.items told lane lost
      → IsAbove line scripts setting range (bound_of limit lost)
  above_is lane true lost is within tells off = eqb-true range.last setting.last is
  above_is lane false None is within tells off =
      let apart = eqb-false range.last setting.last is in
      let room = none_beyond setting.last range.last (λ e. apart (sym e)) within in
      let next : min (range.last + 1) setting.last ≡ range.last + 1 =
      min-eq_left (omega (arith, room)) in (
        room,
        none_lost line scripts told lane (position_box line setting (range.last + 1))
            (subst (λ (n : ℕ). TellsOver line scripts told lane (position_box line setting n)) next tells)
            range.kept.items count off,
      )
  above_is lane false (Some place) is within tells off =
      let apart = eqb-false range.last setting.last is in
      let room = none_beyond setting.last range.last (λ e. apart (sym e)) within in
      let next : min (range.last + 1) setting.last ≡ range.last + 1 =
      min-eq_left (omega (arith, room)) in (
        room,
        one_lost line scripts told lane (position_box line setting (range.last + 1))
            (subst (λ (n : ℕ). TellsOver line scripts told lane (position_box line setting n)) next tells)
            range.kept.items place count off,
      )

-- the range of a candidate by its four lanes
pub shown_is : (line : Line) (scripts : List Script) (candidate : Cover) (told : List ℕ)
    (lane : ℕ) (range : Range) (below above : Option ℕ) → IsCover line candidate
    → TellOf line scripts candidate told lane → AreInLane told lane range.kept.items
    → range.first ≡ candidate.first → range.last ≡ candidate.last
    → TellsFirstOff range.kept.items told (lane + 1) below
    → TellsFirstOff range.kept.items told (lane + 2) above
    → range.below ≡ bound_of (candidate.first == 0) below
    → range.above ≡ bound_of (candidate.last == candidate.setting.now.last) above
    → IsShown line scripts candidate.setting.now range
shown_is line scripts candidate told lane range below above is tells kept first last off_below
    off_above by_below by_above =
    let setting = candidate.setting.now in
    let within : range.last ≤ setting.last =
    subst (λ (n : ℕ). n ≤ setting.last) (sym last) is.within in
    record {
      ordered = subst (λ (n : ℕ). n ≤ range.last) (sym first)
          (subst (λ (n : ℕ). candidate.first ≤ n) (sym last) is.ordered);
      within = within;
      kept = kept_in_lane line scripts told lane (cover_box line setting range.first range.last)
          (subst (λ (n : ℕ). TellsOver line scripts told lane (cover_box line setting n range.last))
          (sym first)
          (subst (λ (n : ℕ). TellsOver line scripts told lane
          (cover_box line setting candidate.first n)) (sym last) tells.whole))
          range.kept.items kept;
      below = subst (λ (b : Bound). IsBelow line scripts setting range b) (sym by_below)
          (below_is line scripts told setting range kept.count (lane + 1) (candidate.first == 0) below
          (ap (λ (n : ℕ). n == 0) first)
          (subst (λ (n : ℕ). TellsOver line scripts told (lane + 1)
          (position_box line setting (n - 1))) (sym first) tells.below) off_below);
      above = subst (λ (b : Bound). IsAbove line scripts setting range b) (sym by_above)
          (above_is line scripts told setting range kept.count (lane + 2)
          (candidate.last == setting.last) above (ap (λ (n : ℕ). n == setting.last) last) within
          (subst (λ (n : ℕ). TellsOver line scripts told (lane + 2)
          (position_box line setting (min (n + 1) setting.last))) (sym last) tells.above) off_above);
    }

-- one is on while the other is off
pub both_told : (a b : Bool) → kept_and_off a b ≡ true → (a ≡ true) × (b ≡ false)
both_told true true on = absurd (cc)
both_told true false on = (refl, refl)
both_told false b on = absurd (cc)
