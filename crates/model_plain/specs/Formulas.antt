-- How a running formula stands for a tree.
use Rattle.std.specs.Prelude.{◌≡◌, ◌≤◌, ◌+◌, ◌++◌, ℕ, false, List, [], ◌∷◌, get_or}
use Rattle.model_line.specs.declared.line.Line.{Line}
use Rattle.model_logic.specs.{Names.Names, Logic.key_tree, Logic.trip_tree}
use Rattle.model_logic.specs.Tree.{Tree, Const, Seen, Loss, Raw, Not, And, Or, Timer, Seal}
use Rattle.model_plain.specs.declared.formula.Formula.{Formula}
use Rattle.model_plain.specs.declared.formula.Formula.TheVariants as formula
use Rattle.model_plain.specs.declared.formula.Program.{Program}

-- the tree of the part with this number; one that is not there is never on
abbrev pub part_at : List Tree → ℕ → Tree
part_at parts n = get_or parts n (Const false)

-- the tree of a formula over the trees of the parts that it may name, by what its boxes hold
abbrev pub tree_of : List Tree → Formula → Tree
tree_of parts (formula.Part n) = part_at parts n
tree_of parts (formula.Const v) = Const v
tree_of parts (formula.Seen p) = Seen p
tree_of parts (formula.Loss c) = Loss c
tree_of parts (formula.Raw c) = Raw c
tree_of parts (formula.Not' p x) = Not (tree_of parts x)
tree_of parts (formula.And' p x q y) = And (tree_of parts x) (tree_of parts y)
tree_of parts (formula.Or' p x q y) = Or (tree_of parts x) (tree_of parts y)
tree_of parts (formula.Timer' p x a b) = Timer (tree_of parts x) a b
tree_of parts (formula.Seal' p x q y) = Seal (tree_of parts x) (tree_of parts y)

-- what a formula adds to its parts: its tree with `false` in the place of each that it names
abbrev pub own_tree : Formula → Tree
own_tree f = tree_of [] f

-- the trees of parts in order, each over those before it, after these trees
abbrev pub trees_after : List Tree → List Formula → List Tree
trees_after trees [] = trees
trees_after trees (f ∷ fs) = trees_after (trees ++ tree_of trees f ∷ []) fs

-- the trees of a program's parts
abbrev pub part_trees : Program → List Tree
part_trees p = trees_after [] p.parts.items

-- how many operations a tree has
abbrev pub operations : Tree → ℕ
operations (Const v) = 1
operations (Seen p) = 1
operations (Loss c) = 1
operations (Raw c) = 1
operations (Not x) = 1 + operations x
operations (And x y) = 1 + operations x + operations y
operations (Or x y) = 1 + operations x + operations y
operations (Timer x p d) = 1 + operations x
operations (Seal x y) = 1 + operations x + operations y

-- how many operations formulas have, where a part that is named counts one
abbrev pub operations_of : List Formula → ℕ
operations_of [] = 0
operations_of (f ∷ fs) = operations (own_tree f) + operations_of fs

abbrev pub program_operations : Program → ℕ
program_operations p =
    operations_of p.parts.items + operations (own_tree p.key) + operations (own_tree p.trip)

-- what formulas add to their parts names only what the line has
abbrev pub AreNamed : Line → List Formula → Type 0
AreNamed line [] = Unit {0}
AreNamed line (f ∷ fs) = Names line (own_tree f) × AreNamed line fs

-- a program of terminal k: over its parts its key and its trip are those of the written logic,
-- nothing in it names what the line has not, and it has at most 170 operations
pub record IsProgramOf (line : Line) (k : ℕ) (p : Program) : Type 0 where
  pub key : tree_of (part_trees p) p.key ≡ key_tree line k
  pub trip : tree_of (part_trees p) p.trip ≡ trip_tree line k
  pub parts_named : AreNamed line p.parts.items
  pub key_named : Names line (own_tree p.key)
  pub trip_named : Names line (own_tree p.trip)
  pub few : program_operations p ≤ 170
