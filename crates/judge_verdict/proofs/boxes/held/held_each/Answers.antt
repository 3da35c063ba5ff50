use Rattle.std.proofs.Common.{◌≡◌, ◌+◌, ◌*◌, ◌/◌, ◌%◌, ◌<◌, ℕ, Bool, Some, [], ◌∷◌, length}
use Rattle.std.proofs.Common.{length-append, sym, ◌∙◌, ap, subst, arith, List}
use Rattle.std.specs.Prelude.{Decides, slice_get}
use Rattle.model_line.specs.declared.line.Line.{Line}
use Rattle.model_history.specs.ListLaws.{exists_at, each_more}
use Rattle.judge_verdict.specs.boxes.Held.{IsHeldOf, TellBlock, part_in}
use Rattle.judge_verdict.proofs.{boxes_lemmas.HeldLaws.part_is}
use Rattle.judge_verdict.proofs.boxes.held.held_each.Goals as goal

pub loop-i-preserved : goal.loop-i-preserved
loop-i-preserved c =
    let script = c.args.script.now in
    let k = c.args.terminal in
    let parts = c.args.parts.now in
    let blocks = c.in_ok-blocks.blocks.items in
    let i : ℕ = c.loop-i.i in
    let old = c.loop-i.held.items in
    let on : Bool = c.is_on-on.result in
    let inside : i < length parts = c.loop-i-test.true in
    record {
      count = ap length c.in_ok-push.ensures.items ∙ length-append old (on ∷ [])
          ∙ ap (λ (n : ℕ). n + 1) c.loop-i.invariant.count;
      each = λ j b part at there.
          each_more (λ m x. (p : Line) → slice_get parts m ≡ Some p → Decides x (IsHeldOf script k p))
          old c.push.new.self.items on i c.in_ok-push.ensures.items
          (sym c.loop-i.invariant.count) (λ m x here p. c.loop-i.invariant.each m x p here)
          (λ p here.
          let low : i / 64 < length blocks = omega (arith, c.in_ok-blocks.ensures.all) in
          let lane : i % 64 < 64 = omega arith in
          let place : 64 * (i / 64) + i % 64 ≡ i = omega arith in
          let (bits, at_bits) = exists_at blocks (i / 64) low in
          let told : TellBlock script k parts (64 * (i / 64)) bits =
          c.in_ok-blocks.ensures.tell.each (i / 64) bits at_bits in
          let is : part_in (length parts) (64 * (i / 64)) (i % 64) ≡ i =
          part_is (length parts) (64 * (i / 64)) (i % 64) i place inside in
          subst (λ (x : Bool). Decides x (IsHeldOf script k p))
          (sym (c.is_on-on.ensures bits
          (subst (λ (l : List ℕ). slice_get l (i / 64) ≡ Some bits) (sym c.deref.ensures.value) at_bits)))
          (told.each (i % 64) p lane
          (subst (λ (n : ℕ). slice_get parts n ≡ Some p) (sym is) here)))
          j b at part there;
    }
