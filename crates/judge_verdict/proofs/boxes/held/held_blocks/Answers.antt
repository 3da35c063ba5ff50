use Rattle.std.proofs.Common.{◌≡◌, ◌+◌, ◌*◌, ℕ, [], ◌∷◌, length, length-append, refl, ◌∙◌, ap}
use Rattle.std.proofs.Common.{subst, arith}
use Rattle.judge_verdict.specs.boxes.Held.{TellBlock}
use Rattle.model_history.specs.ListLaws.{each_more}
use Rattle.judge_verdict.proofs.boxes.held.held_blocks.Goals as goal

pub next_block-preserved : goal.next_block-preserved
next_block-preserved c =
    let script = c.args.script.now in
    let k = c.args.terminal in
    let parts = c.args.parts.now in
    let old = c.next_block.blocks.items in
    let bits : ℕ = c.in_ok-lanes.lanes in
    let long : length c.push.new.self.items ≡ length old + 1 =
    ap length c.in_ok-push.ensures.items ∙ length-append old (bits ∷ []) in
    record {
      count = omega (arith, c.next_block.invariant.count);
      tell = record {
        each = each_more (λ b x. TellBlock script k parts (64 * b) x) old c.push.new.self.items bits
            (length old) c.in_ok-push.ensures.items refl c.next_block.invariant.tell.each
            (subst (λ (n : ℕ). TellBlock script k parts n bits) c.next_block.invariant.count
            c.in_ok-lanes.ensures);
      };
    }
