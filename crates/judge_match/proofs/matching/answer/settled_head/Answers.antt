use Rattle.std.proofs.Common.{refl}
use Rattle.judge_match.proofs.matching.answer.settled_head.Goals as goal

pub returns : goal.returns
returns c = record {
  seen = c.args.seen.now;
  seen_is = refl;
  script = c.script_at-script.result.now;
  script_is = c.script_at-script.ensures;
  is = c.in_ok-settled.ensures.settled;
  text_is = c.in_ok-text.ensures.text;
}
