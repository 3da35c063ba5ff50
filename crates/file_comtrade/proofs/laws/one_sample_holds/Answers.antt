use Rattle.file_comtrade.specs.LevelLaws.{holds_once}
use Rattle.file_comtrade.proofs.laws.one_sample_holds.Goals as goal

pub returns : goal.returns
returns c = holds_once _ _ _ _ c.requires.never c.requires.here c.requires.there
