use Rattle.std.proofs.Common.{List, length, ◌∙◌, ap, subst, arith}
use Rattle.run_signal.specs.declared.tern.Tern.{Tern}
use Rattle.run_waves.specs.derived.Claims.{pairs_of}
use Rattle.run_borders.specs.LooseRuns.{net_of}
use Rattle.run_borders.specs.LooseWaves.{AreGateWaves, AreKeysOf}
use Rattle.run_borders.proofs.RightKeys.{are_loose, right_at_once, right_more}
use Rattle.run_borders.proofs.waves.loose_waves.Goals as goal

pub are_derived-requires-clause-keys : goal.are_derived-requires-clause-keys
are_derived-requires-clause-keys c =
    ap length c.as_slice-in-loop-2.ensures.value ∙ c.loop.invariant.count

pub returns-then-are_derived : goal.returns-then-are_derived
returns-then-are_derived c =
    let run = c.args.run.now in
    let keys : List (List Tern) = c.loop.keys.items in
    let waves : List (List Tern) = c.loop.waves.items in
    let of : AreKeysOf (net_of run) waves keys =
    subst (λ (l : List (List Tern)). AreKeysOf (net_of run) waves l) c.as_slice-in-loop-2.ensures.value
    (subst (λ (l : List (List Tern)). AreKeysOf (net_of run) l c.as_slice-in-loop-2.result.now)
    c.as_slice-in-loop.ensures.value (c.are_derived.ensures c.if-are_derived.true)) in
    are_loose run keys waves c.loop.invariant.waves (right_at_once run keys waves of)

pub loop-preserved : goal.loop-preserved
loop-preserved c =
    let run = c.args.run.now in
    let keys : List (List Tern) = c.loop.keys.items in
    let next : List (List Tern) = c.in_ok-keys-2.keys.items in
    let waves : List (List Tern) = c.loop.waves.items in
    let new : List (List Tern) = c.in_ok-waves-2.waves.items in
    let of : AreKeysOf (net_of run) waves next =
    subst (λ (l : List (List Tern)). AreKeysOf (net_of run) l next) c.as_slice-in-loop-3.ensures.value
    c.in_ok-keys-2.ensures in
    let are : AreGateWaves run (pairs_of next) new =
    subst (λ (l : List (List Tern)). AreGateWaves run (pairs_of l) new) c.as_slice-in-loop-4.ensures.value
    c.in_ok-waves-2.ensures in
    record {
      count = of.many;
      waves = are;
      right = right_more c.history_laws.ensures c.line_laws.ensures.trees run c.requires keys next waves
          new c.loop.counter c.loop-test.true c.loop.invariant.waves of are c.loop.invariant.right;
    }

pub returns : goal.returns
returns c =
    let run = c.args.run.now in
    are_loose run c.loop.keys.items c.loop.waves.items c.loop.invariant.waves
    (λ k r kn lt. c.loop.invariant.right k r kn (omega (arith, lt, c.loop-test.false)))
