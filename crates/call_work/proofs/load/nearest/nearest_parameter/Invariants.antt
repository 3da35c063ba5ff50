use Rattle.std.proofs.Common.{◌≡◌, fold, map, take, None, Some}
use Rattle.call_work.specs.load.Chosen.{name_of_param}
use Rattle.call_work.specs.load.Nearest.{nearer}
use Rattle.call_work.proofs.load_lemmas.NearestLaws.{IsSoFar}
use Rattle.call_work.proofs.load.nearest.nearest_parameter.Given as goal

abbrev pub invariant-loop-i : goal.invariant-loop-i
invariant-loop-i l = record {
  is : l.near ≡ fold (λ near name. Some (nearer l.asked near name)) None
      (map name_of_param (take l.i l.params));
  least : IsSoFar l.asked (map name_of_param (take l.i l.params)) l.near;
}
