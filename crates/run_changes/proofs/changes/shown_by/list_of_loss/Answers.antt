use Rattle.std.proofs.Common.{◌≡◌, ◌++◌, ℕ, Bool, List, length, take, ap, arith, ◌∙◌, sym}
use Rattle.std.proofs.lemmas.List.{append-nil}
use Rattle.std.proofs.Math.Seq.{take-length}
use Rattle.std.specs.List.{filter}
use Rattle.model_line.specs.Seen.{is_of_loss}
use Rattle.model_line.specs.declared.script.SeenSpan.{SeenSpan}
use Rattle.run_changes.proofs.changes_lemmas.ShownListLaws.{kept_one, left_one}
use Rattle.run_changes.proofs.changes.shown_by.list_of_loss.Goals as goal
use Rattle.run_changes.proofs.changes.shown_by.list_of_loss.Goals.{then-is_of_loss+in_ok-push, else-is_of_loss}

pub loop-span-preserved : goal.loop-span-preserved
loop-span-preserved c =
    let p : SeenSpan → Bool = λ s. is_of_loss c.args.channel s.what in
    let told = sym c.is_of_loss.ensures in
    let old : List SeenSpan = c.loop-span.spans.items in
    let new : List SeenSpan = c.if-is_of_loss.spans.items in
    elim c.if-is_of_loss.branch [
      | then-is_of_loss+in_ok-push w ↦
          kept_one p c.args.all.now c.args.spans.now.items old new c.loop-span.span-index _ c.loop-span-test.true
          c.loop-span.invariant (told ∙ w.if-is_of_loss.true)
          (ap (λ v. v.items) w.spans-is ∙ w.in_ok-push.ensures.items)
      | else-is_of_loss w ↦
          left_one p c.args.all.now c.args.spans.now.items old new c.loop-span.span-index _ c.loop-span-test.true
          c.loop-span.invariant (told ∙ w.if-is_of_loss.false)
          (ap (λ v. v.items) w.spans-is)
    ]

pub loop-span-init : goal.loop-span-init
loop-span-init c = sym (append-nil c.args.spans.now.items)

pub returns : goal.returns
returns c =
    let p : SeenSpan → Bool = λ s. is_of_loss c.args.channel s.what in
    let old = c.args.spans.now.items in
    let all = c.args.all.now in
    let last : c.loop-span.span-index ≡ length all =
    omega (arith, c.loop-span-test.false, c.loop-span.auto.span-index-end) in
    c.loop-span.invariant ∙ ap (λ (n : ℕ). old ++ filter p (take n all)) last
    ∙ ap (λ (l : List SeenSpan). old ++ filter p l) (take-length all)
