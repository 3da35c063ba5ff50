use Rattle.std.proofs.Common.{◌≡◌, Some, sym}
use Rattle.cert_settle.specs.Grammar.{IsSettleText, LeavesGrammar}
use Rattle.call_inspect.specs.Grounds.{few, scripts_in}
use Rattle.call_inspect.proofs.ByScripts.{text_refused, text_taken}
use Rattle.call_inspect.proofs.texts.trees_of.Goals.{in-Ok, in-Err-Memory, in-Err-Fault+in_ok-refused_text-in-Err-Fault}
use Rattle.call_inspect.proofs.texts.trees_of.Goals as goal

pub returns-clause-found : goal.returns-clause-found
returns-clause-found c =
    let line = c.args.own.now.line in
    let bytes = c.args.bytes.now in
    let known = few (scripts_in c.args.own.now.scripts) in
    let all = c.in-Some.scripts.now in
    let is : known ≡ Some all = sym c.in-Some.ensures in
    elim c.match-read_settle_text.branch [
      | in-Ok w ↦ rw w.result-is (text_taken (λ all said. IsSettleText line all said bytes)
          (λ all n. LeavesGrammar line all bytes n) known all w.clean.result.outcome _ is w.in-Ok.ensures
          w.clean.ensures.found)
      | in-Err-Memory w ↦ rw w.result-is tt
      | in-Err-Fault+in_ok-refused_text-in-Err-Fault w ↦ rw w.result-is (
          text_refused (λ all said. IsSettleText line all said bytes)
          (λ all n. LeavesGrammar line all bytes n) known all w.refused.result.outcome
          w.in-Err-Fault.fault.line is (rw w.in-Err-Fault.field-0-is at w.in-Err-Fault.ensures)
          w.refused.ensures.found)
    ]
