use Rattle.std.proofs.Common.{◌≡◌, ◌∷◌, map, take}
use Rattle.judge_times.proofs.along.times_at.Given as goal

abbrev pub invariant-loop-own : goal.invariant-loop-own
invariant-loop-own l = l.times.items ≡ l.t ∷ map (λ ends. ends.least) (take l.own-index l.rest)
