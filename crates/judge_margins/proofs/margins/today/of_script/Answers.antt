use Rattle.std.proofs.Common.{◌≡◌, ◌<◌, ◌≤◌, ◌+◌, ℕ, true, false, List, Some, Vec}
use Rattle.std.proofs.Common.{Global, length, subst, sym, ap, ◌∙◌, refl, arith}
use Rattle.std.proofs.lemmas.Option.{slice_get_read}
use Rattle.std.specs.Prelude.{slice_get}
use Rattle.model_line.specs.Parameters.{terminal_count}
use Rattle.judge_report.specs.declared.upper_end.Lost.{Lost}
use Rattle.judge_margins.specs.margins.Today.{ArePicked, is_held, is_not_held}
use Rattle.judge_margins.proofs.margins_lemmas.TodayLaws.{pick_more, skip_one, next_script}
use Rattle.judge_margins.proofs.margins.today.of_script.Goals as goal
use Rattle.judge_margins.proofs.margins.today.of_script.Goals.{then-is_held+in_ok-push}
use Rattle.judge_margins.proofs.margins.today.of_script.Goals.{else-is_held+in_ok-push-2}

pub loop-k-preserved : goal.loop-k-preserved
loop-k-preserved c =
    let line = c.args.compiled.now.line.now in
    let scripts = c.args.scripts.now in
    let s = c.args.s in
    let k : ℕ = c.loop-k.k in
    let script = c.index-scripts-s.result in
    let at : slice_get scripts s ≡ Some script =
    slice_get_read scripts (length scripts) s script refl c.requires.script c.index-scripts-s.is in
    let kn : k < terminal_count line = omega (arith, c.loop-k-test.true, c.len-k-end.ensures) in
    let items : Vec Lost Global → List Lost = λ v. v.items in
    elim c.if-is_held.branch [
      | then-is_held+in_ok-push w ↦
          let is = c.is_held.ensures.0 w.if-is_held.true in record {
            held = pick_more line scripts (is_held line) s k script c.loop-k.held.items
                c.if-is_held.held.items at kn is
                (ap items w.held-is ∙ w.in_ok-push.ensures.items) c.loop-k.invariant.held;
            others = subst (λ (l : List Lost).
                ArePicked line scripts (is_not_held line) s (k + 1) l) (sym (ap items w.others-is))
                (skip_one line scripts (is_not_held line) s k script c.loop-k.others.items at
                (λ no. no is) c.loop-k.invariant.others);
          }
      | else-is_held+in_ok-push-2 w ↦
          let off : c.is_held.result ≡ false = w.if-is_held.false in record {
            held = subst (λ (l : List Lost). ArePicked line scripts (is_held line) s (k + 1) l)
                (sym (ap items w.held-is))
                (skip_one line scripts (is_held line) s k script c.loop-k.held.items at
                (λ is. let on : c.is_held.result ≡ true = c.is_held.ensures.1 is in absurd (cc))
                c.loop-k.invariant.held);
            others = pick_more line scripts (is_not_held line) s k script c.loop-k.others.items
                c.if-is_held.others.items at kn
                (λ is. let on : c.is_held.result ≡ true = c.is_held.ensures.1 is in absurd (cc))
                (ap items w.others-is ∙ w.in_ok-push-2.ensures.items) c.loop-k.invariant.others;
          }
    ]

pub returns : goal.returns
returns c =
    let line = c.args.compiled.now.line.now in
    let scripts = c.args.scripts.now in
    let full : terminal_count line ≤ c.loop-k.k =
    omega (arith, c.loop-k-test.false, c.len-k-end.ensures) in record {
      held = next_script line scripts (is_held line) c.args.s c.loop-k.k c.loop-k.held.items full
          c.loop-k.invariant.held;
      others = next_script line scripts (is_not_held line) c.args.s c.loop-k.k
          c.loop-k.others.items full c.loop-k.invariant.others;
    }
