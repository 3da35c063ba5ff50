use Rattle.std.proofs.Common.{◌≡◌, ◌<◌, ◌≤◌, ◌||◌, ℕ, Bool, length, sym, ◌∙◌, ap, subst, arith}
use Rattle.std.proofs.Common.{⊎_elim, inl, inr}
use Rattle.std.proofs.lemmas.Option.{slice_get_within}
use Rattle.std.specs.Prelude.{Decides}
use Rattle.std.proofs.lemmas.Bool.{or_right, or_left}
use Rattle.model_history.specs.Rails.{must_of}
use Rattle.model_settle.specs.Under.{SomeIsExcluded}
use Rattle.run_signal.specs.Bits.{bit_on}
use Rattle.judge_cases.specs.Views.{view_box}
use Rattle.judge_cases.proofs.HeldLaws.{or_either}
use Rattle.judge_cases.proofs.analysis.Analysis.shown.Goals as goal

pub returns : goal.returns
returns c = λ views are is. record {
  each = λ lane view at.
      let line = c.args.compiled.now.line.now in
      let script = c.args.script.now in
      let k = c.args.terminal in
      let within : lane < length views = slice_get_within views lane view at in
      let few : length views ≤ 64 = is.few in
      let inside : lane < 64 = omega arith in
      let box = view_box line view in
      let assumed = view.assumed.items in
      let delays = (are.each lane view at).delays in
      let history = c.each_box_has_one_history_under.ensures.exists line script box assumed delays in
      let w = history.0 in
      let held = (c.held.ensures views is).each lane view w at history.1 in
      let some : Decides (bit_on c.excluded.result lane) (SomeIsExcluded line script box assumed w) =
      subst (λ (bits : ℕ). Decides (bit_on bits lane) (SomeIsExcluded line script box assumed w))
      (sym c.excluded.ensures) (is.tells lane view w at history.1).excluded in
      let a : Bool = bit_on c.held.result lane in
      let b : Bool = bit_on c.excluded.result lane in
      let either : bit_on c.or.result lane ≡ (a || b) = ap must_of (c.or.ensures lane inside) in (
        λ on.
            c.what_is_shown_of_one_is_shown.ensures line script k box assumed w c.requires.deadline
            delays c.requires.terminal history.1
            (⊎_elim (λ h. inl (held.0 h)) (λ x. inr (some.0 x))
            (or_either a b (sym either ∙ on))),
        λ shown.
            either
            ∙ ⊎_elim (λ h. or_left a b (held.1 h)) (λ x. or_right a b (some.1 x))
            (shown.shown w history.1),
      );
}
