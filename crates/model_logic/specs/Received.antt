-- The trees of what a terminal receives from the others.
use Rattle.std.specs.Prelude.{◌==◌, ℕ, zero, suc, false, Option, Some, None, unwrap_or}
use Rattle.std.specs.Prelude.{if◌then◌else◌}
use Rattle.model_line.specs.{declared.line.Line.Line, Channels.channel_number}
use Rattle.model_line.specs.Parameters.{terminal_count}
use Rattle.model_logic.specs.Tree.{Tree, Const, Loss, Raw, Not, And, Or}
use Rattle.model_logic.specs.declared.join.Join.{Join}
use Rattle.model_logic.specs.declared.join.Join.TheVariants as join

-- the channel to terminal k from terminal j
unfoldable pub channel_to : Line → ℕ → ℕ → ℕ
channel_to line k j = unwrap_or (channel_number line.channels.items j k) 0

-- what k receives from j: the raw signal, unless the channel is lost (RX)
unfoldable pub received : Line → ℕ → ℕ → Tree
received line k j = And (Raw (channel_to line k j)) (Not (Loss (channel_to line k j)))

-- what joins two trees
abbrev pub join_of : Join → Tree → Tree → Tree
join_of join.And = And
join_of join.Or = Or

-- a tree joined on the right of those before it
abbrev pub joined : (Tree → Tree → Tree) → Option Tree → Tree → Tree
joined op None x = x
joined op (Some before) x = op before x

-- the trees of the terminals below n other than k, joined from the left in line order
abbrev pub over_others : (Tree → Tree → Tree) → (ℕ → Tree) → ℕ → ℕ → Option Tree
over_others op tree k zero = None
over_others op tree k (suc n) =
    if n == k then over_others op tree k n
    else Some (joined op (over_others op tree k n) (tree n))

-- the trees of all other terminals of the line, joined; a line has at least one other terminal
unfoldable pub all_others : (Tree → Tree → Tree) → (ℕ → Tree) → Line → ℕ → Tree
all_others op tree line k = unwrap_or (over_others op tree k (terminal_count line)) (Const false)

-- k receives the signal of some other terminal (ANY)
unfoldable pub any_received : Line → ℕ → Tree
any_received line k = all_others Or (received line k) line k

-- k receives the signal of each other terminal
unfoldable pub all_received : Line → ℕ → Tree
all_received line k = all_others And (received line k) line k
