use Rattle.std.proofs.Common.{◌≡◌, drop}
use Rattle.base_text.specs.store.Number.{digits_value}
use Rattle.base_text.specs.store.DigitLaws.{digits_from}
use Rattle.base_text.proofs.store.numbers.digits_value.Given as goal

abbrev pub invariant-loop-byte : goal.invariant-loop-byte
invariant-loop-byte l =
    digits_from 4294967295 l.value (drop l.byte-index l.bytes) ≡ digits_value l.bytes
