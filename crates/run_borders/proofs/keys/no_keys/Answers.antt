use Rattle.std.proofs.Common.{◌≡◌, length, [], sym, ◌∙◌, ap, arith}
use Rattle.run_borders.proofs.Lists.{each_more}
use Rattle.run_borders.proofs.keys.no_keys.Goals as goal

pub loop-init : goal.loop-init
loop-init c = record {
  keys = record { many = ap length c.new-keys.ensures.items; each = λ j lt. absurd (omega (arith, lt)) };
}

pub loop-preserved : goal.loop-preserved
loop-preserved c = record {
  keys = each_more (λ j key. length key ≡ c.args.horizon) [] c.loop.keys.items c.push.new.self.items
      c.in_ok-key.key c.loop.counter c.loop.invariant.keys c.in_ok-push.ensures.items
      c.in_ok-key.ensures.long;
}

pub returns : goal.returns
returns c =
    let all : c.args.count ≡ c.loop.counter = omega (arith, c.loop-test.false, c.loop.auto.counter-end) in
    record {
      many = c.loop.invariant.keys.many ∙ sym all;
      long = λ k lt. c.loop.invariant.keys.each k (omega (arith, lt, all));
    }
