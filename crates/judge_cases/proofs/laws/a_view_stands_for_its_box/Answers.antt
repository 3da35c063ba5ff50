use Rattle.std.proofs.Common.{sym, subst}
use Rattle.model_logic.specs.BoxLaws.{turned}
use Rattle.model_settle.specs.CaseTrees.{IsShownUnder}
use Rattle.judge_cases.specs.Views.{view_box}
use Rattle.judge_cases.proofs.laws.a_view_stands_for_its_box.Goals as goal

pub returns : goal.returns
returns c = λ line script k box assumed view views. (
  λ of.
      c.what_is_shown_rests_on_the_box.ensures.shown line script k (view_box line view) box assumed
      (turned line (view_box line view) box views.same)
      (subst (IsShownUnder line script k (view_box line view)) views.assumes of),
  λ under.
      subst (IsShownUnder line script k (view_box line view)) (sym views.assumes)
      (c.what_is_shown_rests_on_the_box.ensures.shown line script k box (view_box line view) assumed
      views.same under),
)
