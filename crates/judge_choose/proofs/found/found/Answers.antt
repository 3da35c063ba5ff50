use Rattle.std.proofs.Common.{◌≡◌, ◌+◌, ◌-◌, ◌∙◌, ℕ, List, [], ◌∷◌, Some, length, length-append, drop, subst, sym, ap, refl, arith}
use Rattle.std.specs.Prelude.{slice_get}
use Rattle.std.specs.List.{slice_range}
use Rattle.model_line.specs.declared.line.Line.{Line}
use Rattle.model_history.specs.ListLaws.{at_dropped, each_more, from_taken}
use Rattle.judge_choose.specs.declared.setting.Setting.{Setting}
use Rattle.judge_choose.specs.{declared.cover.Cover.Cover, Positions.IsCover, Found.AreSettings}
use Rattle.judge_choose.proofs.found.found.Goals as goal

-- some settings of a list
of_block : (line : Line) (settings some : List Setting) (first next : ℕ)
    → AreSettings line settings → some ≡ slice_range settings first next → AreSettings line some
of_block line settings some first next are is =
    subst (AreSettings line) (sym is)
    (λ i setting at.
    are (first + i) setting
    (sym (at_dropped first settings i)
    ∙ from_taken (next - first) (drop first settings) i setting at))

pub over_all-requires-clause-settings : goal.over_all-requires-clause-settings
over_all-requires-clause-settings c =
    of_block c.args.compiled.now.line.now c.args.settings.now c.block-some.result.now c.args.first _
    c.requires.settings c.block-some.ensures.slice

pub gained-requires-clause-settings : goal.gained-requires-clause-settings
gained-requires-clause-settings c =
    of_block c.args.compiled.now.line.now c.args.settings.now c.block-some.result.now c.args.first _
    c.requires.settings c.block-some.ensures.slice

pub between-requires : goal.between-requires
between-requires c =
    c.requires.settings c.loop-i.i c.setting_at.result.now c.setting_at.ensures

pub loop-i-preserved : goal.loop-i-preserved
loop-i-preserved c =
    let line = c.args.compiled.now.line.now in
    let settings = c.args.settings.now in
    let setting = c.setting_at.result.now in
    let cover = c.between.result in
    let old = c.loop-i.candidates.items in
    let first : ℕ = c.args.first in
    let grown = c.in_ok-push.ensures.items in
    let count = c.loop-i.invariant.count in
    let long = ap length grown ∙ length-append old (cover ∷ []) in
    let here : slice_get settings (first + length old) ≡ Some setting =
    subst (λ (n : ℕ). slice_get settings n ≡ Some setting) (sym count) c.setting_at.ensures in
    record {
      count = omega (arith, long, count);
      covers = each_more (λ _ (x : Cover). IsCover line x) old c.push.new.self.items cover
          (length old) grown refl c.loop-i.invariant.covers c.between.ensures.cover;
      of = each_more (λ i (x : Cover). slice_get settings (first + i) ≡ Some x.setting.now) old
          c.push.new.self.items cover (length old) grown refl c.loop-i.invariant.of
          (here ∙ ap Some (sym c.between.ensures.setting));
    }
