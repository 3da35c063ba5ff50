-- Ranges that can be told.
use Rattle.std.proofs.Common.{◌≤◌, ◌<◌, ◌^◌, true, List, length, arith}
use Rattle.std.proofs.Math.Nat.{mul-le-mul}
use Rattle.std.proofs.lemmas.Option.{slice_get-get_or, slice_get_within}
use Rattle.std.specs.Prelude.{get_or}
use Rattle.std.specs.List.{All}
use Rattle.model_history.specs.ListLaws.{exists_at}
use Rattle.model_line.specs.{declared.line.Line.Line, declared.script.Script.Script}
use Rattle.model_line.specs.Parameters.{terminal_count}
use Rattle.judge_choose.specs.{declared.range.Bound.Bound, declared.range.Range.Range}
use Rattle.judge_choose.specs.declared.range.Bound.TheVariants.{Limit, Lost, Open}
use Rattle.judge_choose.specs.declared.setting.Setting.{Setting}
use Rattle.judge_choose.specs.Found.{AreSettings}
use Rattle.judge_choose.specs.Positions.{IsSetting}
use Rattle.judge_choose.specs.Ranges.{AreRangesBelow, IsAbove, IsBelow, IsRange}
use Rattle.call_choose.specs.{Left.IsSmallBound, Named.IsTellable}

module _ (line : Line) (scripts : List Script) (setting : Setting) (range : Range) where
  -- what is lost is one of the obligations
  small_below : (bound : Bound) → length range.kept.items < 2 ^ 32
      → IsBelow line scripts setting range bound → IsSmallBound bound
  small_below Limit few is = tt
  small_below (Lost place) few is =
      let own = slice_get_within range.kept.items place true is.1.own in omega (arith, own, few)
  small_below Open few is = tt

  small_above : (bound : Bound) → length range.kept.items < 2 ^ 32
      → IsAbove line scripts setting range bound → IsSmallBound bound
  small_above Limit few is = tt
  small_above (Lost place) few is =
      let own = slice_get_within range.kept.items place true is.1.own in omega (arith, own, few)
  small_above Open few is = tt

  tellable : length scripts ≤ 4096 → terminal_count line ≤ 3 → IsSetting line setting
      → IsRange line scripts setting range → IsTellable range
  tellable scripts_few terminals_few setting_is is =
      let few : length range.kept.items < 2 ^ 32 =
      omega (arith, is.shown.kept.count, mul-le-mul scripts_few terminals_few) in record {
        ordered = is.shown.ordered;
        limit = omega (arith, is.shown.within, setting_is.limit);
        few = few;
        below = small_below range.below few is.shown.below;
        above = small_above range.above few is.shown.above;
      }

-- so it is with all of them
pub all_tellable : (line : Line) (scripts : List Script) (settings : List Setting)
    (ranges : List Range) → length scripts ≤ 4096 → terminal_count line ≤ 3
    → AreSettings line settings
    → AreRangesBelow line scripts settings (length settings) ranges → All IsTellable ranges
all_tellable line scripts settings ranges few terminals settings_are are i d inside =
    let (setting, at) = exists_at settings i (omega (arith, inside, are.count)) in
    let range : Range = get_or ranges i d in
    tellable line scripts setting range few terminals (settings_are i setting at)
    (are.each i range (slice_get-get_or ranges i d inside) setting at)
