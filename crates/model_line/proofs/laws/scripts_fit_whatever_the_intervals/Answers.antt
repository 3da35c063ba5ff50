use Rattle.model_line.specs.SameCountLaws.{fits_same}
use Rattle.model_line.proofs.laws.scripts_fit_whatever_the_intervals.Goals as goal

pub returns : goal.returns
returns c line other script same fits = fits_same line other same script fits
