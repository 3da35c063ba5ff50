-- Views in blocks.
use Rattle.std.proofs.Common.{◌≡◌, ◌<◌, ◌≤◌, ◌+◌, ◌-◌, ◌++◌, ℕ, Bool, List, Some, length, sym, ◌∙◌}
use Rattle.std.proofs.Common.{ap, subst, arith, ⊎_elim}
use Rattle.std.proofs.lemmas.List.{length-take-le, length-drop}
use Rattle.std.proofs.Math.ListN.{drop}
use Rattle.std.proofs.lemmas.Option.{slice_get_within}
use Rattle.std.specs.Prelude.{Decides, slice_get}
use Rattle.std.specs.List.{slice_range}
use Rattle.model_line.specs.{declared.line.Line.Line, declared.script.Script.Script}
use Rattle.model_history.specs.ListLaws.{at_append, at_taken, from_taken, at_dropped}
use Rattle.judge_cases.specs.{declared.view.View.View, Views.AreViews}
use Rattle.judge_cases.specs.Analyses.{IsShownOf, TellEach}

from_range : (views : List View) (first next i : ℕ) (view : View)
    → slice_get (slice_range views first next) i ≡ Some view
    → slice_get views (first + i) ≡ Some view
from_range views first next i view at =
    sym (at_dropped first views i) ∙ from_taken (next - first) (drop first views) i view at

in_range : (views : List View) (first next i : ℕ) (view : View) → i < next - first
    → slice_get views (first + i) ≡ Some view
    → slice_get (slice_range views first next) i ≡ Some view
in_range views first next i view lt at =
    at_taken (next - first) (drop first views) i lt ∙ at_dropped first views i ∙ at

pub range_length : (views : List View) (first next : ℕ) → first ≤ next → next ≤ length views
    → length (slice_range views first next) ≡ next - first
range_length views first next le within =
    length-take-le (next - first) (drop first views)
    (let long = length-drop first views in omega (arith, long, le, within))

pub block_views : (line : Line) (views : List View) (first next : ℕ) → AreViews line views
    → AreViews line (slice_range views first next)
block_views line views first next are = record {
  each = λ i view at. are.each (first + i) view (from_range views first next i view at);
}

-- what is told of the first views, and of the block that follows
pub tell_more : (line : Line) (script : Script) (k : ℕ) (views : List View) (first next : ℕ)
    (old block : List Bool) → length old ≡ first
    → ((j : ℕ) (b : Bool) → slice_get old j ≡ Some b → (view : View)
    → slice_get views j ≡ Some view → Decides b (IsShownOf line script k view))
    → TellEach line script k (slice_range views first next) block → first ≤ next
    → next ≤ length views → (j : ℕ) (b : Bool) → slice_get (old ++ block) j ≡ Some b
    → (view : View) → slice_get views j ≡ Some view → Decides b (IsShownOf line script k view)
tell_more line script k views first next old block count so_far tells later within j b at view here =
    ⊎_elim
    (λ early. so_far j b early view here)
    (λ late.
    let q : ℕ = late.0 in
    let place : j ≡ length old + q = late.1 in
    let told : slice_get block q ≡ Some b = late.2 in
    let few : q < length block = slice_get_within block q b told in
    let inside : q < next - first =
    let a = tells.count in
    let r = range_length views first next later within in omega (arith, few, a, r) in
    let there : slice_get views (first + q) ≡ Some view =
    subst (λ (p : ℕ). slice_get views p ≡ Some view)
    (place ∙ ap (λ (n : ℕ). n + q) count) here in
    tells.each q b view told (in_range views first next q view inside there))
    (at_append old block j b at)
