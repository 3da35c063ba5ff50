use Rattle.std.proofs.Common.{◌≡◌, ◌≤◌, ◌+◌, ◌-◌, length}
use Rattle.file_comtrade.specs.Places.{behind}
use Rattle.file_comtrade.specs.Sections.{found_from, found_in}
use Rattle.file_comtrade.proofs.sections.find.Given as goal

abbrev pub invariant-loop-n : goal.invariant-loop-n
invariant-loop-n l = record {
  rest : l.rest ≡ behind 10 l.n l.text;
  first : found_in l.what l.text ≡ found_from l.what l.text l.n (length l.text - l.n);
  inside : l.n + length l.rest ≤ length l.text;
}
