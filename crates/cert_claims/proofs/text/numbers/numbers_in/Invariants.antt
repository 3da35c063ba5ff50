use Rattle.std.proofs.Common.{◌≡◌, ℕ, List, take, drop}
use Rattle.base_text.specs.lines.SpacedNumbers.{numbers_text}
use Rattle.cert_claims.specs.text.Grammar.{AreNumbers}
use Rattle.cert_claims.proofs.text.numbers.numbers_in.Given as goal

-- of any numbers with this text the first are read
abbrev pub invariant-loop-i : goal.invariant-loop-i
invariant-loop-i l =
    (all : List ℕ) → AreNumbers l.count all → l.text ≡ numbers_text all
    → (l.numbers.items ≡ take l._i all) × (l.rest ≡ numbers_text (drop l._i all))
