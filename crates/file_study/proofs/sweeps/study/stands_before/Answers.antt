use Rattle.file_study.proofs.sweeps_lemmas.Names.{before_at}
use Rattle.file_study.proofs.sweeps.study.stands_before.Goals as goal

pub returns : goal.returns
returns c =
    before_at c.args.done.now c.args.own.now c.split_at-parts.result.0.now c.args.k
    c.index-own-k.result c.is_among.result c.requires c.index-own-k.is
    c.split_at-parts.ensures.front c.is_among.ensures
