use Rattle.std.proofs.Common.{length}
use Rattle.file_study.proofs.times_lemmas.Digits.{decimal_within}
use Rattle.file_study.proofs.times.number.decimal.Goals as goal

pub returns-clause-within : goal.returns-clause-within
returns-clause-within c =
    decimal_within c.value.result c.value-2.result (length c.args.whole.now)
    (length c.args.decimals.now) c.power-parts.result c.value.ensures.below c.value-2.ensures.below
    c.requires.some c.requires.few c.power-parts.ensures.is
