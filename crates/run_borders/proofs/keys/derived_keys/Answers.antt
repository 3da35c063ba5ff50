use Rattle.std.proofs.Common.{◌≡◌, ℕ, [], length, sym, ◌∙◌, ap, arith}
use Rattle.std.specs.Prelude.{get_or}
use Rattle.net_gates.specs.NetOf.{key_of}
use Rattle.run_borders.proofs.Lists.{each_more}
use Rattle.run_borders.proofs.keys.derived_keys.Goals as goal

pub loop-k-preserved : goal.loop-k-preserved
loop-k-preserved c =
    let waves = c.args.waves.now in
    record {
      keys = each_more (λ j key. key ≡ get_or waves (key_of c.args.net.now j) []) [] c.loop-k.keys.items
          c.push.new.self.items c.in_ok-wave.wave c.loop-k.k c.loop-k.invariant.keys
          c.in_ok-push.ensures.items
          (c.in_ok-wave.ensures ∙ c.nth-key.ensures
          ∙ ap (λ (g : ℕ). get_or waves g []) c.key_gate-gate.ensures.is);
    }

pub returns : goal.returns
returns c =
    let many : length c.loop-k.keys.items ≡ c.loop-k.k = c.loop-k.invariant.keys.many in
    let all : length c.args.net.now.keys ≡ c.loop-k.k =
    omega (arith, c.requires.count, c.loop-k-test.false, c.loop-k.auto.k-end) in
    record {
      many = many ∙ sym all;
      each = λ k lt. c.loop-k.invariant.keys.each k (omega (arith, lt, all));
    }
