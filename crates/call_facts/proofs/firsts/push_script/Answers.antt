use Rattle.std.proofs.Common.{◌≡◌, ◌*◌, ◌+◌, ℕ, List, Some, refl, sym, ◌∙◌, subst, arith}
use Rattle.std.proofs.lemmas.Option.{same_Some, slice_get_read}
use Rattle.std.specs.Prelude.{slice_get}
use Rattle.model_line.specs.Parameters.{terminal_count}
use Rattle.model_line.specs.{declared.line.Line.Line, declared.script.Script.Script}
use Rattle.model_logic.specs.Choice.{declared_box}
use Rattle.run_step.specs.Runs.{IsTheHistory}
use Rattle.call_facts.specs.FirstTicks.{AreFirstOf}
use Rattle.judge_verdict.specs.verdict.PairWavesOf.{pair_history}
use Rattle.judge_verdict.specs.verdict.OneEachLaws.{all_there, one_next}
use Rattle.call_facts.proofs.firsts.push_script.Goals as goal

-- the script that was analysed is the one at the place
pub firsts_of-requires-clause-history : goal.firsts_of-requires-clause-history
firsts_of-requires-clause-history c = λ script at.
    let line : Line = c.args.study.now.line in
    let scripts : List Script = c.args.study.now.scripts.items in
    let analysed : Script = c.index.result.now in
    let there : slice_get scripts c.args.i ≡ Some analysed =
    slice_get_read scripts _ c.args.i analysed refl c.requires.exists c.index.ensures in
    subst (λ (s : Script). IsTheHistory line s (declared_box line)
    (pair_history c.in_ok-waves.waves))
    (same_Some analysed script (sym there ∙ at)) c.in_ok-waves.ensures.history

pub loop-k-preserved : goal.loop-k-preserved
loop-k-preserved c =
    let line = c.args.study.now.line in
    let before : ℕ = c.args.i * terminal_count line in
    one_next (AreFirstOf line c.args.study.now.scripts.items) (before + c.loop-k.k)
    (before + (c.loop-k.k + 1)) c.loop-k.firsts.items c.push.new.self.items c.firsts_of.result
    (omega arith) c.in_ok-push.ensures.items c.firsts_of.ensures c.loop-k.invariant

pub returns : goal.returns
returns c =
    let line : Line = c.args.study.now.line in
    let before : ℕ = c.args.i * terminal_count line in
    let done : c.loop-k.k ≡ terminal_count line =
    omega (
      arith,
      c.loop-k-test.false,
      c.loop-k.auto.k-end,
      c.len-k-end.ensures,
      line.terminals.ok.0,
    ) in
    all_there (AreFirstOf line c.args.study.now.scripts.items) (before + c.loop-k.k)
    (before + terminal_count line) c.loop-k.firsts.items (omega (arith, done)) c.loop-k.invariant
