use Rattle.judge_choose.proofs.reach.cover_between.Goals as goal

pub between-requires : goal.between-requires
between-requires c = c.requires.settings c.args.i c.setting_at.result.now c.setting_at.ensures
