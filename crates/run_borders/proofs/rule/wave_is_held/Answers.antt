use Rattle.std.proofs.Common.{ℕ, Bool, not, sym, subst, length}
use Rattle.std.specs.Prelude.{IsTrue}
use Rattle.model_history.specs.{Rails.Rails, TruthLaws.not_both}
use Rattle.model_line.specs.declared.script.Kind.{Kind}
use Rattle.model_logic.specs.Rule.{HeldBy}
use Rattle.run_waves.specs.waves.Waves.{wave_at}
use Rattle.run_borders.proofs.Rules.{on_unless, off_by_denial}
use Rattle.model_history.specs.TruthLaws.{denied_unless}
use Rattle.run_borders.proofs.rule.wave_is_held.Goals as goal

pub returns-in-Internal : goal.returns-in-Internal
returns-in-Internal c =
    let trip : ℕ → Rails = wave_at c.args.trip.now in
    let long : ℕ = length c.args.trip.now in
    let answer : Bool = c.comes_by.result in
    subst (λ (kind : Kind). (IsTrue answer → HeldBy kind c.args.deadline c.args.end trip)
    × (HeldBy kind c.args.deadline c.args.end trip → IsTrue answer))
    (sym c.in-Internal.is) (
      λ on. c.comes_by.ensures.comes (λ t. (trip t).must) long c.first_must.ensures.first on,
      λ held. on_unless c.comes_by.result (λ off. not_both _ (c.comes_by.ensures.never (λ t. (trip t).must) long c.requires.deadline c.first_must.ensures.first off
          held.0 held.1) held.2),
    )

pub returns-in-External : goal.returns-in-External
returns-in-External c =
    let trip : ℕ → Rails = wave_at c.args.trip.now in
    let long : ℕ = length c.args.trip.now in
    let answer : Bool = not c.comes_before.result in
    subst (λ (kind : Kind). (IsTrue answer → HeldBy kind c.args.deadline c.args.end trip)
    × (HeldBy kind c.args.deadline c.args.end trip → IsTrue answer))
    (sym c.in-External.is) (
      λ on. c.comes_before.ensures.never (λ t. (trip t).may) long c.requires.end c.first_may.ensures.first (off_by_denial c.comes_before.result on),
      λ held. denied_unless c.comes_before.result (λ on.
          let here = c.comes_before.ensures.comes (λ t. (trip t).may) long c.first_may.ensures.first on in
          not_both _ (held here.0 here.1) here.2),
    )
