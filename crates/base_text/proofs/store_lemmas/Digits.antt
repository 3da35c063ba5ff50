-- Digits of a number below 2^32, read one by one from the first.
use Rattle.std.proofs.Common.{◌≡◌, ℕ, List, arith}
use Rattle.base_text.specs.store.Number.{digits_value}
use Rattle.base_text.specs.store.DigitLaws.{digits_from, digits_from-whole}

pub digits_from-digits_value : (bytes : List ℕ)
    → digits_from 4294967295 0 bytes ≡ digits_value bytes
digits_from-digits_value bytes = digits_from-whole 4294967295 0 bytes (omega arith)
