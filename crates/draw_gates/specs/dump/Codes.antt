-- What identifier codes are: printable and distinct.
use Rattle.std.specs.Prelude.{◌≡◌, ◌<◌, ◌≤◌, ℕ}
use Rattle.std.specs.List.{All}
use Rattle.draw_gates.specs.dump.Variables.{code_of}

-- the characters that IEEE 1364 allows: `!` to `~`
abbrev pub IsPrintable : ℕ → Type 0
IsPrintable c = (33 ≤ c) × (c ≤ 126)

-- each code of the 512 gates that a net may have is printable
abbrev pub ArePrintable : Type 0
ArePrintable = (i : ℕ) → i < 512 → All IsPrintable (code_of i)

-- no two gates have the same code
abbrev pub AreApart : Type 0
AreApart = (i j : ℕ) → code_of i ≡ code_of j → i ≡ j
