use Rattle.std.proofs.Common.{◌≡◌, ℕ, Bool, Some, List, ◌∷◌, [], sym, ap, subst, zero, suc}
use Rattle.std.specs.Prelude.{Decides, slice_get}
use Rattle.model_line.specs.declared.line.Line.{Line}
use Rattle.judge_cases.specs.declared.view.View.{View}
use Rattle.judge_cases.specs.Views.{IsView, AreViews}
use Rattle.judge_cases.specs.Analyses.{IsShownOf}
use Rattle.judge_cases.proofs.shown.is_shown.Goals as goal
use Rattle.judge_cases.proofs.shown.is_shown.Goals.{After-must}

one_view : (line : Line) (view : View) → IsView line view → (i : ℕ) (other : View)
    → slice_get (view ∷ []) i ≡ Some other → IsView line other
one_view line view is zero other e = let same : view ≡ other = cc in subst (IsView line) same is
one_view line view is (suc i) other e = absurd (cc)

told : (c : After-must) → Decides c.must.result
    (IsShownOf c.args.compiled.now.line.now c.args.script.now c.args.terminal c.args.view.now)
told c =
    let line = c.args.compiled.now.line.now in
    let view = c.args.view.now in
    let views = c.from_ref.result.now in
    let are : AreViews line views =
    subst (AreViews line) (sym c.from_ref.ensures.value)
    (record { each = one_view line view c.requires.view }) in
    let at : slice_get views 0 ≡ Some view =
    ap (λ (l : List View). slice_get l 0) c.from_ref.ensures.value in
    subst (λ (b : Bool). Decides b (IsShownOf line c.args.script.now c.args.terminal view))
    (sym c.must.ensures)
    ((c.shown.ensures views are c.in_ok-analysis.ensures).each 0 view at)

pub returns-clause-shown : goal.returns-clause-shown
returns-clause-shown c = told (goal.at.returns-clause-shown c).After-must

pub returns-clause-boxes : goal.returns-clause-boxes
returns-clause-boxes c = λ box assumed views.
    let d = told (goal.at.returns-clause-boxes c).After-must in
    let law = c.a_view_stands_for_its_box.ensures c.args.compiled.now.line.now c.args.script.now
    c.args.terminal
    box assumed c.args.view.now views in
    (λ on. law.0 (d.0 on), λ under. d.1 (law.1 under))
