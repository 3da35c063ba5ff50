use Rattle.judge_margins.specs.margins.Brackets.{AreAsksOf, AreSlots}
use Rattle.judge_margins.proofs.margins.lists.asked.Given as goal

abbrev pub invariant-loop-place : goal.invariant-loop-place
invariant-loop-place l = record {
  slots : AreSlots l.whole l.brackets l.slots.items l.asks.items l.place;
  asks : AreAsksOf l.whole l.brackets l.asks.items;
}
