-- A small tree that is on at no whole number, and is on between two.
use Rattle.std.proofs.Common.{refl, false}
use Rattle.std.specs.Prelude.{IsTrue, IsFalse}
use Rattle.model_history.specs.Elements.{some_below, timed, sealed, hold}
use Rattle.model_line.specs.declared.script.Element.{Element}
use Rattle.model_logic.specs.Mean.{mean}
use Rattle.model_fine.specs.Limits.{small_world, between_one_and_two}

pub off_at_one : (e : Element)
    → IsFalse (some_below (mean (small_world 1 1) (λ k t. false) (between_one_and_two e)) 4)
unfolding mean timed sealed hold
off_at_one e = refl

pub off_at_two : (e : Element)
    → IsFalse (some_below (mean (small_world 1 2) (λ k t. false) (between_one_and_two e)) 4)
unfolding mean timed sealed hold
off_at_two e = refl

pub on_between : (e : Element)
    → IsTrue (some_below (mean (small_world 4 5) (λ k t. false) (between_one_and_two e)) 16)
unfolding mean timed sealed hold
on_between e = refl
