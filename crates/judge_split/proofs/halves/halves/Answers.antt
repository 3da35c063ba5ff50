use Rattle.std.proofs.Common.{◌+◌, ℕ, subst}
use Rattle.model_line.specs.{Parameters.declared_ends, WithBounds.IsWithBounds}
use Rattle.judge_split.proofs.SoundLaws.{split_at_middle}
use Rattle.judge_split.proofs.halves.halves.Goals as goal

pub lower_part-requires : goal.lower_part-requires
lower_part-requires c =
    split_at_middle c.args.line.now c.args.param c.middle-mid.result c.requires c.middle-mid.ensures.number

pub upper_part-requires : goal.upper_part-requires
upper_part-requires c =
    split_at_middle c.args.line.now c.args.param c.middle-mid.result c.requires c.middle-mid.ensures.number

pub returns : goal.returns
returns c =
    let line = c.args.line.now in
    let param = c.args.param in
    let ends = declared_ends line param in (
      subst (λ (m : ℕ). IsWithBounds line param ends.least m c.in_ok-first.first)
          c.middle-mid.ensures.number c.in_ok-first.ensures.line,
      subst (λ (m : ℕ). IsWithBounds line param (m + 1) ends.greatest c.in_ok-second.second)
          c.middle-mid.ensures.number c.in_ok-second.ensures.line,
    )
