use Rattle.std.proofs.Common.{map, take}
use Rattle.judge_match.specs.{matching.Answer.IsMatchAnswer, matching.Waves.seen_values}
use Rattle.judge_match.proofs.matching.answer.match_answer.Given as goal

abbrev pub invariant-loop-seen : goal.invariant-loop-seen
invariant-loop-seen l =
    IsMatchAnswer l.compiled.line.now l.scripts
    (map seen_values (take l.seen-index l.records)) l.impossible
    l.unsettled l.text.items
