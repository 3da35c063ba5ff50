use Rattle.std.proofs.Common.{◌≡◌, drop}
use Rattle.file_comtrade.specs.Number.{digits_onto}
use Rattle.base_text.specs.store.DigitLaws.{digits_from}
use Rattle.file_comtrade.proofs.number.digits_onto.Given as goal

abbrev pub invariant-loop-byte : goal.invariant-loop-byte
invariant-loop-byte l =
    digits_from 18446744073709551615 l.value (drop l.byte-index l.bytes)
    ≡ digits_onto l.initial.value l.bytes
