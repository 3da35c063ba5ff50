-- The levels that follow from what the view of a lane assumes.
use Rattle.std.proofs.Common.{◌≡◌, ℕ, List, Some, None, refl}
use Rattle.std.specs.Prelude.{Option, slice_get}
use Rattle.model_line.specs.declared.line.Line.{Line}
use Rattle.model_settle.specs.{CaseLaws.SameTreesAreEqual}
use Rattle.net_gates.specs.{NetOf.NetOf, Formulas.formula_of}
use Rattle.run_ticks.specs.cases.Masks.{AreOfTimers}
use Rattle.judge_cases.specs.declared.view.View.{View}
use Rattle.judge_cases.specs.Puts.{view_level, views_level}
use Rattle.judge_cases.specs.Rows.{AreRows, row_count}
use Rattle.judge_cases.specs.Views.{AreViews, view_box}
use Rattle.judge_cases.proofs.PutLaws.{none_put, assumed_timers}

module _ (line : Line) (views : List View) (are : AreViews line views) (same : SameTreesAreEqual)
  where
    none_by : (net : NetOf) (rows : List (Option ℕ)) → AreRows line net (row_count line) rows
        → (i t : ℕ) → slice_get rows i ≡ Some None → (lane : ℕ) (o : Option View)
        → slice_get views lane ≡ o → view_level line o (formula_of net.gates i) t ≡ None
    none_by net rows rows_are i t none lane None e = refl
    none_by net rows rows_are i t none lane (Some view) e =
        none_put line (view_box line view) same net rows rows_are i t none view.assumed.items
        (are.each lane view e).spans

    pub level_none : (net : NetOf) (rows : List (Option ℕ)) → AreRows line net (row_count line) rows
        → (i t : ℕ) → slice_get rows i ≡ Some None → (lane : ℕ)
        → views_level line views lane (formula_of net.gates i) t ≡ None
    level_none net rows rows_are i t none lane =
        none_by net rows rows_are i t none lane (slice_get views lane) refl

    timers_by : (lane : ℕ) (o : Option View) → slice_get views lane ≡ o
        → AreOfTimers (view_level line o)
    timers_by lane None e x t v is = absurd (cc)
    timers_by lane (Some view) e x t v is =
        assumed_timers line (view_box line view) same view.assumed.items (are.each lane view e).spans x
        t v is

    pub level_timers : (lane : ℕ) → AreOfTimers (views_level line views lane)
    level_timers lane = timers_by lane (slice_get views lane) refl
