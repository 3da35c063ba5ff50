use Rattle.model_borders.proofs.Places.{stands_least, stands_most, stands_from, stands_to}
use Rattle.model_borders.proofs.between_laws.borders_stand_within.Goals as goal

pub returns : goal.returns
returns c = record {
  from = λ n script part a x are. stands_least n script.borders.items part x are a;
  to = λ n script part a x are. stands_most n script.borders.items part x are a;
  moved_from = λ n script part a place b x d are at.
      stands_from n script.borders.items part x are a place d at b;
  moved_to = λ n script part a place b x d are at.
      stands_to n script.borders.items part x are a place d at b;
}
