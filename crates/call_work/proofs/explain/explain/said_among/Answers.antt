use Rattle.std.proofs.Common.{◌<◌, ◌∙◌, ap, subst, sym, Some, map, length}
use Rattle.std.proofs.lemmas.Option.{slice_get-get_or}
use Rattle.std.proofs.lemmas.List.Elements.{All-contains}
use Rattle.model_line.specs.declared.script.Script.{Script}
use Rattle.judge_match.specs.explain.Answers.{IsExplanation}
use Rattle.judge_match.specs.matching.Seen.{AreSeen, seen_history}
use Rattle.judge_match.specs.matching.Waves.{seen_values}
use Rattle.judge_match.specs.declared.matching.seen.Seen.{Seen}
use Rattle.call_work.proofs.explain.explain.said_among.Goals as goal

pub bounds-asked-seen : goal.bounds-asked-seen
bounds-asked-seen c =
    All-contains (λ (s : Seen). s.script < length c.args.asked.now.scripts.now)
    c.args.records.now c.in-Ok.seen.now c.requires.named c.in-Ok.ensures.among

pub explain-requires : goal.explain-requires
explain-requires c = record {
  seen = All-contains (λ (s : Seen). AreSeen c.args.asked.now.compiled.line.now s)
      c.args.records.now c.in-Ok.seen.now c.requires.seen c.in-Ok.ensures.among;
}

pub returns : goal.returns
returns c =
    let asked = c.args.asked.now in
    let seen : Seen = c.in-Ok.seen.now in
    record {
      records = map seen_values c.args.records.now;
      read = c.requires.said;
      values = seen_values seen;
      picks = c.in-Ok.ensures.picked;
      script = c.index-asked-seen.result;
      script_is = slice_get-get_or asked.scripts.now seen.script c.index-asked-seen.result
          (All-contains (λ (s : Seen). s.script < length asked.scripts.now) c.args.records.now seen
          c.requires.named c.in-Ok.ensures.among)
          ∙ ap Some (sym c.index-asked-seen.is);
      explanation = c.in_ok-explanation.explanation;
      is = subst (λ (s : Script). IsExplanation asked.compiled.line.now s asked.within
          (seen_history seen)
          c.in_ok-explanation.explanation) (sym c.index-asked-seen.is)
          c.in_ok-explanation.ensures;
      status_is = c.in_ok-said_of.ensures.status;
      text_is = c.in_ok-said_of.ensures.text;
    }
