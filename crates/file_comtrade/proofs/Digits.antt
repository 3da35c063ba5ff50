-- Digits of a number below 2^64, read one by one behind a number.
use Rattle.std.proofs.Common.{◌≡◌, ◌≤◌, ℕ, List}
use Rattle.base_text.specs.store.DigitLaws.{digits_from, digits_from-whole}
use Rattle.file_comtrade.specs.Number.{digits_onto}

pub digits_from-digits_onto : (value : ℕ) (bytes : List ℕ) → value ≤ 18446744073709551615
    → digits_from 18446744073709551615 value bytes ≡ digits_onto value bytes
digits_from-digits_onto value bytes fits = digits_from-whole 18446744073709551615 value bytes fits
