use Rattle.std.proofs.Common.{◌≡◌, ◌<◌, Ok, []}
use Rattle.file_comtrade.specs.Config.{last_of, rate_after}
use Rattle.file_comtrade.specs.{Steps.steps, Views.texts}
use Rattle.file_comtrade.proofs.rate_lines.rates.Given as goal

abbrev pub invariant-loop-k : goal.invariant-loop-k
invariant-loop-k l = record {
  said : steps (rate_after (texts l.lines) l.at l.count) [] l.k ≡ Ok (l.rates.items);
  some : 0 < l.k → 0 < last_of l.rates.items;
}
