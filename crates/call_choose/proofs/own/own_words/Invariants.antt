use Rattle.std.proofs.Common.{◌≡◌, map}
use Rattle.call_choose.specs.Rows.{own_below}
use Rattle.call_choose.proofs.own.own_words.Given as goal

abbrev pub invariant-loop-i : goal.invariant-loop-i
invariant-loop-i l = map (λ word. word.items) l.words.items ≡ own_below l.line l.i
