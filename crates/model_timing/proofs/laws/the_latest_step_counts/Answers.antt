use Rattle.model_timing.specs.LatestStepLaws.{number_at-latest, number_at-own}
use Rattle.model_timing.proofs.laws.the_latest_step_counts.Goals as goal

pub returns : goal.returns
returns c = record { latest = number_at-latest; own = number_at-own }
