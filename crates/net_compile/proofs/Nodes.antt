-- How many operations a tree has.
use Rattle.std.proofs.Common.{ℕ, ◌+◌}
use Rattle.model_logic.specs.Tree.{Tree, Const, Seen, Loss, Raw, Not, And, Or, Timer, Seal}

abbrev pub nodes : Tree → ℕ
nodes (Const v) = 1
nodes (Seen p) = 1
nodes (Loss c) = 1
nodes (Raw c) = 1
nodes (Not x) = 2 + nodes x
nodes (And x y) = 2 + nodes x + nodes y
nodes (Or x y) = 2 + nodes x + nodes y
nodes (Timer x p d) = 2 + nodes x
nodes (Seal x y) = 2 + nodes x + nodes y
