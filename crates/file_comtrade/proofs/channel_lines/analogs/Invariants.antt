use Rattle.std.proofs.Common.{◌≡◌, Ok}
use Rattle.file_comtrade.specs.Config.{analog_after}
use Rattle.file_comtrade.specs.{Steps.steps, Views.texts}
use Rattle.file_comtrade.proofs.channel_lines.analogs.Given as goal

abbrev pub invariant-loop-k : goal.invariant-loop-k
invariant-loop-k l = steps (analog_after (texts l.lines) l.at) tt l.k ≡ Ok (tt {0})
