use Rattle.std.proofs.Common.{arith}
use Rattle.file_comtrade.proofs.Digits.{digits_from-digits_onto}
use Rattle.file_comtrade.proofs.number.digits_onto.Goals as goal

pub loop-byte-init : goal.loop-byte-init
loop-byte-init c = digits_from-digits_onto c.args.value c.args.bytes.now (omega arith)
