-- The parts that a terminal's program names, while it is made.
use Rattle.std.specs.Prelude.{◌≡◌, ◌≤◌, ℕ, List, [], ◌∷◌, Result, IfOk, if◌then◌else◌}
use Rattle.model_line.specs.declared.line.Setting.TheVariants.{EchoPickup, EchoPulse}
use Rattle.model_line.specs.declared.line.Line.{Line}
use Rattle.model_logic.specs.declared.time.Time.TheVariants.{Zero}
use Rattle.model_logic.specs.Elements.{zone1, zone2, reverse, undervoltage, current}
use Rattle.model_logic.specs.Permissive.{permission, reversal_guard, quiet, terminal_setting}
use Rattle.model_logic.specs.Tree.{Tree, Not, And, Or, Timer, Seal}
use Rattle.model_logic.specs.Logic.{key_by, pilot_by}
use Rattle.model_plain.specs.declared.formula.Formula.{Formula}
use Rattle.model_plain.specs.Formulas.{tree_of, own_tree, trees_after, operations_of, operations}
use Rattle.model_plain.specs.Formulas.{AreNamed}

-- the formula stands for this tree, whatever parts there are
pub record IsClosed (tree : Tree) (f : Formula) : Type 0 where
  pub over : (parts : List Tree) → tree_of parts f ≡ tree

-- so does the one that was made, if any was
abbrev pub StandsAlways : {E : Type 0} → Tree → Result Formula E → Type 0
StandsAlways tree r = (parts : List Tree) → IfOk r (λ f. tree_of parts f ≡ tree)

-- over parts of these trees the formula stands for this one, with at most so many operations
pub record StandsOver (parts : List Tree) (tree : Tree) (most : ℕ) (f : Formula) : Type 0 where
  pub is : tree_of parts f ≡ tree
  pub few : operations (own_tree f) ≤ most

-- parts of these trees, which name only what the line has, and have at most so many operations
pub record AreProgramParts (line : Line) (trees : List Tree) (most : ℕ) (parts : List Formula)
    : Type 0 where
  pub are : trees_after [] parts ≡ trees
  pub named : AreNamed line parts
  pub few : operations_of parts ≤ most

-- what every terminal sees by its distance elements
abbrev pub distance_trees : Line → ℕ → List Tree
distance_trees line k = zone1 line k ∷ zone2 line k ∷ reverse line k ∷ []

-- what every terminal has: what it sees of each element, and its guard
abbrev pub local_trees : Line → ℕ → List Tree
local_trees line k =
    zone1 line k ∷ zone2 line k ∷ reverse line k ∷ undervoltage line k ∷ current line k
    ∷ reversal_guard line k ∷ []

-- what a terminal sees ahead, where its guard does not hold
abbrev pub ahead : Line → ℕ → Tree
ahead line k = And (zone2 line k) (Not (reversal_guard line k))

-- zone 2 with a permission, where the guard does not hold
abbrev pub permitted_over : Line → ℕ → Tree → Tree
permitted_over line k permission =
    And (And (zone2 line k) permission) (Not (reversal_guard line k))

-- whether a weak terminal wants to echo, over its permission
abbrev pub wanted_over : Line → ℕ → Tree → Tree
wanted_over line k permission =
    Timer (And permission (quiet line k)) (terminal_setting line k EchoPickup) Zero

-- one pulse of what it wants
abbrev pub echo_over : Line → ℕ → Tree → Tree
echo_over line k wanted =
    And wanted (Not (Timer wanted (terminal_setting line k EchoPulse) Zero))

-- what it sends, over what it sees ahead and whether it wants to echo
abbrev pub weak_key_over : Line → ℕ → Tree → Tree → Tree
weak_key_over line k ahead wanted = Or ahead (echo_over line k wanted)

-- what it trips on, over its permission and whether it wants to echo
abbrev pub weak_pilot_over : Line → ℕ → Tree → Tree → Tree
weak_pilot_over line k permission wanted =
    Or (permitted_over line k permission) (And wanted (undervoltage line k))

-- the parts of a weak terminal
abbrev pub weak_trees : Line → ℕ → List Tree
weak_trees line k =
    zone1 line k ∷ zone2 line k ∷ reverse line k ∷ undervoltage line k ∷ current line k
    ∷ reversal_guard line k ∷ ahead line k ∷ permission line k
    ∷ wanted_over line k (permission line k) ∷ []

-- ---- keys and trips

-- what sets the trip over what the pilot scheme trips on, and the trip
abbrev pub set_over : Line → ℕ → Tree → Tree
set_over line k pilot = if line.zone1_trip then Or pilot (zone1 line k) else pilot

abbrev pub trip_over : Line → ℕ → Tree → Tree
trip_over line k pilot = Seal (set_over line k pilot) (current line k)

-- this is what terminal k sends, with at most 9 operations
pub record IsKeyTree (line : Line) (k : ℕ) (tree : Tree) : Type 0 where
  pub is : tree ≡ key_by line.scheme line k
  pub few : operations tree ≤ 9

-- this is what its pilot scheme trips on, with at most 83 operations
pub record IsPilotTree (line : Line) (k : ℕ) (tree : Tree) : Type 0 where
  pub is : tree ≡ pilot_by line.scheme line k
  pub few : operations tree ≤ 83
