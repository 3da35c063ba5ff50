-- How deep the canonical table nests.
use Rattle.std.proofs.Common.{◌+◌, ◌≤◌, ℕ, List, [], ◌∷◌, map, arith}
use Rattle.toml.specs.Data.{Data, Members, no_members, depth, items_depth, members_depth}
use Rattle.toml.specs.View.{items_of}
use Rattle.model_line.specs.{declared.line.Line.Line, declared.line.Terminal.Terminal}
use Rattle.model_line.specs.{declared.line.Channel.Channel, declared.line.Owner.Owner}
use Rattle.model_line.specs.declared.line.Setting.{Setting}
use Rattle.file_line.specs.Canonical.{put_all, table_of, setting_pair, times_data}
use Rattle.file_line.specs.Canonical.{terminal_members, channel_members}
use Rattle.file_line.specs.Canonical.{tables_from, head_pairs, table_pairs, canonical_in}
use Rattle.file_line.specs.PutLaws.{put_depth}
use Rattle.file_line.proofs.PairLaws.{Each, all_put, terminal_put, channel_put}

-- a value, or the members of a table, nest at most so deep
abbrev pub IsShallow : ℕ → Data → Type 0
IsShallow n d = depth d ≤ n

abbrev pub AreShallow : ℕ → Members → Type 0
AreShallow n ms = members_depth ms ≤ n

all_depth :
    (n : ℕ) (pairs : List (List ℕ × Data)) (ms : Members) → Each (IsShallow n) pairs
    → AreShallow n ms → AreShallow n (put_all pairs ms)
all_depth n = all_put (IsShallow n) (AreShallow n) (put_depth n)

settings_shallow :
    (unit : ℕ) (line : Line) (o : Owner) (xs : List Setting)
    → Each (IsShallow 1) (map (setting_pair unit line o) xs)
settings_shallow unit line o [] = tt
settings_shallow unit line o (x ∷ xs) = (omega arith, settings_shallow unit line o xs)

times_depth :
    (unit : ℕ) (line : Line) (o : Owner) (xs : List Setting)
    → IsShallow 2 (times_data unit line o xs)
unfolding times_data
times_depth unit line o xs =
    let inner : members_depth (table_of (map (setting_pair unit line o) xs)) ≤ 1 =
    all_depth 1 (map (setting_pair unit line o) xs) no_members (settings_shallow unit line o xs)
    (omega arith) in
    omega arith

terminal_depth :
    (unit : ℕ) (line : Line) (k : ℕ) (t : Terminal)
    → AreShallow 2 (terminal_members unit line k t)
terminal_depth unit line k t =
    terminal_put (IsShallow 2) (AreShallow 2) (put_depth 2) unit line (times_depth unit line) k t
    (omega arith)

channel_depth :
    (unit : ℕ) (line : Line) (c : ℕ) (h : Channel)
    → AreShallow 2 (channel_members unit line c h)
channel_depth unit line c h =
    channel_put (IsShallow 2) (AreShallow 2) (put_depth 2) unit line (times_depth unit line) c h
    (omega arith)

tables_depth :
    {X : Type 0} (members : ℕ → X → Members) → ((k : ℕ) (x : X) → AreShallow 2 (members k x))
    → (k : ℕ) (xs : List X) → items_depth (items_of (tables_from members k xs)) ≤ 3
tables_depth members each k [] = omega arith
tables_depth members each k (x ∷ xs) =
    omega (arith, each k x, tables_depth members each (k + 1) xs)

-- far less deep than `toml` reads
pub canonical_depth :
    (version unit : ℕ) (line : Line) → members_depth (canonical_in version unit line) ≤ 4
unfolding canonical_in
canonical_depth version unit line =
    let base : members_depth (table_of (head_pairs version line)) ≤ 4 = omega arith in
    all_depth 4 (table_pairs unit line) (table_of (head_pairs version line)) (
      omega (arith, tables_depth (terminal_members unit line) (terminal_depth unit line) 0 line.terminals.items),
      (omega (arith, tables_depth (channel_members unit line) (channel_depth unit line) 0 line.channels.items), tt),
    )
    base
