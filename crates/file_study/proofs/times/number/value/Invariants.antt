use Rattle.std.proofs.Common.{◌≡◌, ◌<◌, ◌^◌, take}
use Rattle.base_text.specs.store.Number.{decimal_value}
use Rattle.file_study.proofs.times.number.value.Given as goal

abbrev pub invariant-loop-digit : goal.invariant-loop-digit
invariant-loop-digit l =
    (l.value ≡ decimal_value (take l.digit-index l.digits)) × (l.value < 10 ^ l.digit-index)
