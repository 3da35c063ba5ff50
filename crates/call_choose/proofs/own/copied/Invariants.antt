use Rattle.std.proofs.Common.{◌≡◌, map, take}
use Rattle.call_choose.proofs.own.copied.Given as goal

abbrev pub invariant-loop-word : goal.invariant-loop-word
invariant-loop-word l =
    map (λ word. word.items) l.words.items ≡ map (λ word. word.now) (take l.word-index l.given)
