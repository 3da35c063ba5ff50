use Rattle.std.proofs.Common.{◌≡◌, drop}
use Rattle.file_comtrade.specs.Times.{rated}
use Rattle.file_comtrade.proofs.time.rated.Given as goal

abbrev pub invariant-loop-rate : goal.invariant-loop-rate
invariant-loop-rate l =
    rated (drop l.rate-index l.rates) l.base l.before l.number ≡ rated l.rates 0 1 l.number
