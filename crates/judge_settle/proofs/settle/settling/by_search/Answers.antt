use Rattle.std.proofs.Common.{◌≡◌, Some, sym, arith}
use Rattle.std.proofs.lemmas.Option.{slice_get_read}
use Rattle.std.specs.Prelude.{slice_get}
use Rattle.model_line.specs.Parameters.{terminal_count}
use Rattle.judge_verdict.specs.verdict.OneEachLaws.{one_more, all_there}
use Rattle.model_logic.specs.Choice.{declared_box}
use Rattle.judge_settle.proofs.settle_lemmas.RulingLaws.{ruling_of}
use Rattle.judge_settle.specs.settle.Answers.{IsAnswered}
use Rattle.judge_settle.proofs.settle.settling.by_search.Goals as goal

pub under_verdict-requires-clause-verdict : goal.under_verdict-requires-clause-verdict
under_verdict-requires-clause-verdict c =
    let line = c.args.compiled.now.line.now in
    let script = c.args.script.now in
    let k = c.loop-k.k in
    let said = c.in_ok-said.ensures in
    let at : slice_get c.in_ok-said.said.verdicts.items k ≡ Some c.index-verdict.result.now =
    slice_get_read c.in_ok-said.said.verdicts.items (terminal_count line) k c.index-verdict.result.now
    (sym said.printable.verdicts.count) (omega arith) c.index-verdict.ensures in
    ruling_of line script k c.in_ok-said.said.verdicts.items c.index-verdict.result.now at
    (c.line_laws.ensures.interval_histories.exists line script (declared_box line)
    (c.line_laws.ensures.inside.declared line)) said.verdicts said.no

pub loop-k-preserved : goal.loop-k-preserved
loop-k-preserved c =
    one_more (IsAnswered c.args.compiled.now.line.now c.args.script.now) c.loop-k.k
    c.loop-k.settled.items c.push.new.self.items c.in_ok-one.one c.in_ok-push.ensures.items
    c.in_ok-one.ensures c.loop-k.invariant

pub returns : goal.returns
returns c =
    all_there (IsAnswered c.args.compiled.now.line.now c.args.script.now) c.loop-k.k
    (terminal_count c.args.compiled.now.line.now) c.loop-k.settled.items (omega arith) c.loop-k.invariant
