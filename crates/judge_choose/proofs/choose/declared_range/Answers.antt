use Rattle.std.proofs.Common.{ℕ, List, [], ◌∷◌, subst, sym, refl, arith}
use Rattle.judge_choose.specs.{declared.cover.Cover.Cover, declared.setting.Setting.Setting}
use Rattle.judge_choose.specs.{Told.AreCovers, Told.AreTold, Lanes.TellOf, Positions.IsCover}
use Rattle.judge_choose.specs.{Positions.box_of_cover, Ranges.AreKept, Ranges.IsShown}
use Rattle.judge_choose.proofs.choose_lemmas.AskedLaws.{alone, asked_covers, declared_is, same_box, tell_of}
use Rattle.judge_choose.proofs.choose_lemmas.LaneLaws.{kept_in_lane}
use Rattle.judge_choose.proofs.choose_lemmas.TodayLaws.{today_declared}
use Rattle.judge_choose.proofs.choose.declared_range.Goals as goal

pub told-requires-clause-covers : goal.told-requires-clause-covers
told-requires-clause-covers c =
    let line = c.args.compiled.now.line.now in
    let cover = c.declared_cover.result in
    let is = declared_is line c.args.setting.now cover c.requires.setting
    c.declared_cover.ensures.setting c.declared_cover.ensures.first c.declared_cover.ensures.last in
    subst (AreCovers line) (sym c.deref.ensures.value)
    (asked_covers line (cover ∷ []) c.in_ok-covers.covers.items (alone line cover is)
    c.in_ok-covers.ensures)

pub returns : goal.returns
returns c =
    let line = c.args.compiled.now.line.now in
    let scripts = c.args.scripts.now in
    let setting = c.args.setting.now in
    let cover = c.declared_cover.result in
    let same = c.declared_cover.ensures.setting in
    let bits = c.in_ok-bits.bits.items in
    let is : IsCover line cover = declared_is line setting cover c.requires.setting same
    c.declared_cover.ensures.first c.declared_cover.ensures.last in
    let told : AreTold line scripts c.in_ok-covers.covers.items bits =
    subst (λ (l : List Cover). AreTold line scripts l bits) c.deref.ensures.value c.in_ok-bits.ensures
    in
    let tells : TellOf line scripts cover bits 0 =
    tell_of line scripts (cover ∷ []) c.in_ok-covers.covers.items bits c.in_ok-covers.ensures told
    (omega arith) 0 cover refl in
    let moved : TellOf line scripts cover c.deref-2.result.now 0 =
    subst (λ (l : List ℕ). TellOf line scripts cover l 0) (sym c.deref-2.ensures.value) tells in
    record {
      shown = subst (λ (s : Setting). IsShown line scripts s c.in_ok-range.range) same
          (c.in_ok-range.ensures.shown line scripts is moved);
      today = today_declared c.laws_below.ensures line scripts setting c.requires.setting
          c.in_ok-range.range.kept.items
          (subst (λ box. AreKept line scripts box c.in_ok-range.range.kept.items)
          (same_box line cover setting setting.declared setting.declared same
          c.declared_cover.ensures.first c.declared_cover.ensures.last)
          (kept_in_lane line scripts c.deref-2.result.now 0 (box_of_cover line cover) moved.whole
          c.in_ok-range.range.kept.items c.in_ok-range.ensures.kept));
    }
