-- What is so at two whole numbers that follow one another need not be so between them: a small tree.
use Rattle.std.specs.Prelude.{◌&&◌, ◌/◌, ℕ, true, false, IsTrue, IsFalse, nat_le, nat_lt}
use Rattle.model_history.specs.Elements.{some_below}
use Rattle.model_line.specs.{declared.script.Element.Element, declared.script.Place.Place}
use Rattle.model_logic.specs.Tree.{Tree, Const, Seen, Not, And, Timer, Seal}
use Rattle.model_logic.specs.declared.time.Time.TheVariants.{Zero, Param}
use Rattle.model_logic.specs.{Choice.time_by, Mean.World, Mean.mean}

-- ticks are cut into n; places of terminal k are on from tick k to tick 2, and there is one number
abbrev pub small_world : ℕ → ℕ → World
small_world n number = record {
  seen = λ p t. nat_le p.terminal (t / n) && nat_lt (t / n) 3;
  lost = λ c t. false;
  from = λ c. 0;
  delay = λ c t. 1;
  time = time_by (λ i. number);
}

abbrev pub place_at : Element → ℕ → Place
place_at e k = record { element = e; terminal = k }

-- after one number
abbrev pub once : Element → Tree
once e = Timer (Seen (place_at e 0)) (Param 0) Zero

-- the number is above 1, and twice the number below 3
abbrev pub between_one_and_two : Element → Tree
between_one_and_two e =
    And (Seal (And (Seen (place_at e 1)) (Not (once e))) (Const true))
    (Timer (once e) (Param 0) Zero)

-- at 1 and at 2 it is on at no tick, and at 5 quarters it is
pub record NumbersSayNothingBetween : Type 0 where
  pub one : (e : Element) → IsFalse
      (some_below (mean (small_world 1 1) (λ k t. false) (between_one_and_two e)) 4)
  pub two : (e : Element) → IsFalse
      (some_below (mean (small_world 1 2) (λ k t. false) (between_one_and_two e)) 4)
  pub between : (e : Element) → IsTrue
      (some_below (mean (small_world 4 5) (λ k t. false) (between_one_and_two e)) 16)
