-- Whether two trees are the same.
use Rattle.std.specs.Prelude.{◌&&◌, ◌==◌, Bool, true, false, not}
use Rattle.model_line.specs.Seen.{same_place}
use Rattle.model_logic.specs.contracts.time.TimePartialEq.TheImpl.{eq-value as time_eq}
use Rattle.model_logic.specs.declared.time.Time.{Time}
use Rattle.model_logic.specs.Tree.{Tree, Const, Seen, Loss, Raw, Not, And, Or, Timer, Seal}

abbrev pub same_value : Bool → Bool → Bool
same_value true b = b
same_value false b = not b

-- two times are compared as `==` compares them
abbrev pub same_time : Time → Time → Bool
same_time p q = time_eq.it p q

unfoldable pub same_tree : Tree → Tree → Bool
same_tree (Const v) (Const w) = same_value v w
same_tree (Seen p) (Seen q) = same_place p q
same_tree (Loss c) (Loss d) = c == d
same_tree (Raw c) (Raw d) = c == d
same_tree (Not x) (Not y) = same_tree x y
same_tree (And x y) (And v w) = same_tree x v && same_tree y w
same_tree (Or x y) (Or v w) = same_tree x v && same_tree y w
same_tree (Timer x p d) (Timer y q e) = same_tree x y && (same_time p q && same_time d e)
same_tree (Seal x y) (Seal v w) = same_tree x v && same_tree y w
same_tree _ _ = false
