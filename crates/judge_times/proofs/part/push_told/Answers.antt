use Rattle.judge_times.specs.declared.part.Part.{Part}
use Rattle.judge_times.proofs.ToldSo.{is_answer}
use Rattle.judge_times.proofs.part.push_told.Goals as goal

pub returns : goal.returns
returns c =
    let own : Part = record { lengths = c.in_ok-lengths.lengths; told = c.in_ok-told.told } in (
      own,
      c.in_ok-push.ensures.items,
      c.in_ok-lengths.ensures.items,
      λ of whole ordered within are failing.
          is_answer of whole c.args.part.now c.args.rules.now c.args.fails.now own
          c.in_ok-lengths.ensures.items ordered within are failing c.in_ok-told.ensures,
    )
