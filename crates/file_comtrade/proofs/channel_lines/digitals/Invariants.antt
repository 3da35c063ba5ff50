use Rattle.std.proofs.Common.{◌≡◌, Ok, [], length}
use Rattle.file_comtrade.specs.Config.{digital_after}
use Rattle.file_comtrade.specs.{Steps.steps, Views.texts}
use Rattle.file_comtrade.proofs.channel_lines.digitals.Given as goal

abbrev pub invariant-loop-k : goal.invariant-loop-k
invariant-loop-k l = record {
  said : steps (digital_after (texts l.lines) l.at) [] l.k ≡ Ok (texts l.ids.items);
  many : length l.ids.items ≡ l.k;
}
