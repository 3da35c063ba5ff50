use Rattle.std.proofs.Common.{◌≡◌, ◌≤◌, ◌+◌, ◌-◌, arith, subst, sym}
use Rattle.run_step.specs.{Shown.not_over, Quiet.ScriptKeeps}
use Rattle.run_step.specs.ShownLaws.{keeps_alike, same_trans}
use Rattle.run_ticks.proofs.net.inputs.turn.Goals as goal

pub returns-then-inputs-t-clause-shown : goal.returns-then-inputs-t-clause-shown
returns-then-inputs-t-clause-shown g c = λ all before.
    let t = c.args.t in
    let n = c.turn.result in
    let old = not_over c.args.inputs.now.shown in
    let turned = c.turn.ensures in
    let some : 1 ≤ n = turned.some in
    let ticks : t + n - t ≡ n = omega arith in
    record {
      left = λ r low. same_trans r _ old all (turned.left r low) (before.left r low);
      shown = λ r low high. same_trans r _ old all (turned.shown r low high) (before.left r low);
      keeps = subst (ScriptKeeps all t) (sym ticks)
          (keeps_alike old all t n some (λ r low high. before.left r low) turned.keeps);
    }
