-- What gates name of a line, as they grow.
use Rattle.std.proofs.Common.{◌≡◌, ℕ, zero, suc, List, [], ◌∷◌, ◌++◌, Some, refl}
use Rattle.std.proofs.Common.{arith}
use Rattle.std.specs.Prelude.{slice_get}
use Rattle.model_line.specs.declared.line.Line.{Line}
use Rattle.model_logic.specs.{Tree.Tree, Names.Names}
use Rattle.net_gates.specs.declared.gate.Gate.TheVariants.{Const, Seen, Loss, Raw, Not, And, Or}
use Rattle.net_gates.specs.declared.gate.Gate.TheVariants.{Timer, Seal}
use Rattle.net_gates.specs.Formulas.{tree_at, tree_with, formulas_after, formula_of}
use Rattle.net_gates.specs.Named.{GateNames, NamedFrom}
use Rattle.net_gates.specs.{declared.gate.Gate.Gate}

with_names : (line : Line) (trees : ℕ → Tree) (g : Gate) → ((i : ℕ) → Names line (trees i))
    → GateNames line g → Names line (tree_with trees g)
unfolding Names
with_names line trees (Const v) h r = tt
with_names line trees (Seen p) h r = r
with_names line trees (Loss c) h r = r
with_names line trees (Raw c) h r = r
with_names line trees (Not a) h r = h a.0
with_names line trees (And a b) h r = (h a.0, h b.0)
with_names line trees (Or a b) h r = (h a.0, h b.0)
with_names line trees (Timer a p d) h r = (h a.0, r)
with_names line trees (Seal a b) h r = (h a.0, h b.0)

push_names : (line : Line) (trees : List Tree) (x : Tree)
    → ((i : ℕ) → Names line (tree_at trees i)) → Names line x
    → (i : ℕ) → Names line (tree_at (trees ++ x ∷ []) i)
unfolding Names
push_names line [] x h r zero = r
push_names line [] x h r (suc i) = tt
push_names line (y ∷ trees) x h r zero = h zero
push_names line (y ∷ trees) x h r (suc i) = push_names line trees x (λ j. h (suc j)) r i

after_names : (line : Line) (gates : List Gate) (trees : List Tree)
    → ((i : ℕ) → Names line (tree_at trees i))
    → ((i : ℕ) (g : Gate) → slice_get gates i ≡ Some g → GateNames line g)
    → (i : ℕ) → Names line (tree_at (formulas_after trees gates) i)
after_names line [] trees h r = h
after_names line (g ∷ gates) trees h r =
    let next : Tree = tree_with (tree_at trees) g in
    after_names line gates (trees ++ next ∷ [])
    (push_names line trees next h (with_names line (tree_at trees) g h (r zero g refl)))
    (λ i k at. r (suc i) k at)

-- a gate's tree names only what the line has, where all gates do
pub formula_names : (line : Line) (gates : List Gate) → NamedFrom line 0 gates
    → (i : ℕ) → Names line (formula_of gates i)
unfolding formula_of Names
formula_names line gates named i =
    after_names line gates [] (λ j. tt) (λ j g at. named.each j g (omega arith) at) i
