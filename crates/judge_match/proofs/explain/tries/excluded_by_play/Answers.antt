use Rattle.judge_match.specs.explain.Asked.{recorded_of}
use Rattle.judge_match.proofs.explain_lemmas.PartLaws.{fails_alone}
use Rattle.judge_match.proofs.explain.tries.excluded_by_play.Goals as goal

pub returns : goal.returns
returns c = λ on.
    let q = c.args.q.now in
    fails_alone q.compiled.line.now q.script.now q.within (recorded_of q) c.args.part.now
    c.in_ok-least.field-0.items c.new-timing.result c.in_ok-explained.explained
    c.requires.part.count (c.is_point.ensures c.if-not-is_point.false) c.in_ok-least.ensures
    c.new-timing.ensures on c.in_ok-explained.ensures.1
