-- A net of a line has a gate that a weak terminal's echo starts from.
use Rattle.std.proofs.Common.{◌≡◌, ◌<◌, ℕ, List, sym, ◌∙◌, subst, arith, length}
use Rattle.std.specs.Prelude.{IsTrue}
use Rattle.run_step.specs.GatePairLaws.{GatesAreTheirKinds}
use Rattle.model_line.specs.{declared.line.Line.Line, Parameters.terminal_count}
use Rattle.model_logic.specs.{Elements.is_weak, Tree.Tree}
use Rattle.model_logic.specs.Tree as tree
use Rattle.model_settle.specs.Assumed.{wanted}
use Rattle.net_gates.specs.declared.gate.Gate.{Gate}
use Rattle.net_gates.specs.declared.gate.Gate.TheVariants.{And, Or}
use Rattle.net_gates.specs.Gates.{AreGates, HasArguments}
use Rattle.net_gates.specs.Formulas.{formula_of, kind_over, Stands}
use Rattle.net_gates.specs.NetOf.{NetOf, IsNetOf, key_of}
use Rattle.model_history.specs.ListLaws.{exists_at}
use Rattle.judge_cases.proofs.WeakKey.{weak_key, weak_exists, ahead, still}

module _ (gates : List Gate) where
  second_stands : (g : Gate) (n : ℕ) (x y : Tree) → n < length gates → HasArguments n g
      → kind_over gates g ≡ tree.Or x y → (i : ℕ) × Stands gates i y
  second_stands (Or a b) n x y lt has e =
      let s : formula_of gates b.0 ≡ y = cc in
      let below = has.1 in
      (b.0, record { within = omega (arith, below, lt); is = s })
  second_stands g n x y lt has e = absurd (cc)

  first_stands : (g : Gate) (n : ℕ) (x y : Tree) → n < length gates → HasArguments n g
      → kind_over gates g ≡ tree.And x y → (i : ℕ) × Stands gates i x
  first_stands (And a b) n x y lt has e =
      let s : formula_of gates a.0 ≡ x = cc in
      let below = has.0 in
      (a.0, record { within = omega (arith, below, lt); is = s })
  first_stands g n x y lt has e = absurd (cc)

  module _ (kinds : GatesAreTheirKinds) (laws : AreGates gates) where
    or_second : (i : ℕ) (x y : Tree) → Stands gates i (tree.Or x y) → (j : ℕ) × Stands gates j y
    or_second i x y at =
        let (g, gi) = exists_at gates i at.within in
        second_stands g i x y at.within (laws.earlier i g gi) (sym (kinds gates i g laws gi) ∙ at.is)

    and_first : (i : ℕ) (x y : Tree) → Stands gates i (tree.And x y) → (j : ℕ) × Stands gates j x
    and_first i x y at =
        let (g, gi) = exists_at gates i at.within in
        first_stands g i x y at.within (laws.earlier i g gi) (sym (kinds gates i g laws gi) ∙ at.is)

pub want_exists : GatesAreTheirKinds → (line : Line) (net : NetOf) → IsNetOf line net → (k : ℕ)
    → IsTrue (is_weak line k) → (i : ℕ) × Stands net.gates i (wanted line k)
want_exists kinds line net of_line k weak =
    let there : k < terminal_count line = weak_exists line k weak in
    let key : Stands net.gates (key_of net k)
    (tree.Or (ahead line k weak) (tree.And (wanted line k) (still line k weak (wanted line k)))) =
    record {
      within = of_line.laws.keys k
          (subst (λ (n : ℕ). k < n) (sym of_line.terminals) there);
      is = of_line.keys k there ∙ weak_key line k weak;
    } in
    let (b, second) = or_second net.gates kinds of_line.laws.gates (key_of net k) _ _ key in
    and_first net.gates kinds of_line.laws.gates b _ _ second
