use Rattle.std.proofs.Common.{List, sym, subst}
use Rattle.run_signal.specs.declared.tern.Tern.{Tern}
use Rattle.run_waves.specs.derived.Claims.{AreGateWaves, pairs_of}
use Rattle.judge_match.specs.matching.Clash.{IsFirstClash}
use Rattle.judge_match.proofs.matching.settling.settle.Goals as goal

-- the clash that was found, over the waves that follow from the keys that were seen
found : (c : goal.After-drop-waves)
    → IsFirstClash c.args.compiled.now.line.now c.args.script.now c.args.seen.now
    c.in-Some.clash.terminal
    c.in-Some.clash.trip c.in-Some.clash.tick c.in-Some.clash.level c.in-Some.clash.derived
found c =
    let line = c.args.compiled.now.line.now in
    let script = c.args.script.now in
    let gates = c.args.compiled.now.net.now.gates in
    c.in-Some.ensures script
    (subst (λ (xs : List (List Tern)). AreGateWaves line script gates
    (pairs_of c.args.seen.now.keys.items) xs) (sym c.deref-2.ensures.value)
    (subst (λ (xs : List (List Tern)). AreGateWaves line script gates (pairs_of xs)
    c.in_ok-waves.waves.items) c.deref.ensures.value c.in_ok-waves.ensures))

pub returns-in-Some-clause-settled : goal.returns-in-Some-clause-settled
returns-in-Some-clause-settled c = found c

pub returns-in-Some-clause-impossible : goal.returns-in-Some-clause-impossible
returns-in-Some-clause-impossible c = λ k t trip level derived is choice h inside is_h same.
    let first = found c in
    first.clash.tick.fails
    (c.what_a_choice_gives_is_allowed.ensures c.args.compiled.now.line.now c.args.script.now
    c.args.seen.now
    choice h c.requires.seen inside is_h same c.in-Some.clash.trip c.in-Some.clash.terminal
    c.in-Some.clash.tick first.terminal first.clash.tick.inside)

pub returns-in-Some-clause-written : goal.returns-in-Some-clause-written
returns-in-Some-clause-written c = (found c).terminal
