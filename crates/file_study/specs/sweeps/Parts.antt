-- Parts of 64 scripts, as the files of a line.
use Rattle.std.specs.Prelude.{◌*◌, ◌-◌, ◌+◌, ◌/◌, ◌&&◌, ℕ, Bool, List, drop, nat_le, take}

-- part n, counted from 1: 64 scripts, and what is left in the last
abbrev pub part : {X : Type 0} → ℕ → List X → List X
part n scripts = take 64 (drop (64 * (n - 1)) scripts)

-- how many parts so many scripts have; the last may hold fewer than 64
abbrev pub parts_of : ℕ → ℕ
parts_of scripts = (scripts + 63) / 64

abbrev pub is_part : ℕ → ℕ → Bool
is_part n scripts = nat_le 1 n && nat_le n (parts_of scripts)
