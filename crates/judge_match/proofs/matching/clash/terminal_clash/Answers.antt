use Rattle.std.proofs.Common.{ℕ, List, Option, true, false, [], get_or, ◌∙◌, ap, Some, None, subst}
use Rattle.run_signal.specs.declared.tern.Tern.{Tern}
use Rattle.net_gates.specs.NetOf.{key_of, trip_of}
use Rattle.judge_match.specs.{declared.matching.clash.Clash.Clash, matching.Signal.IsSignalChecked}
use Rattle.judge_match.proofs.matching_lemmas.ClashLaws.{signal_allowed, signal_clashes, terminal_told}
use Rattle.judge_match.proofs.matching_lemmas.ClashLaws.{checked_same}
use Rattle.judge_match.proofs.matching.clash.terminal_clash.Goals as goal

pub returns-in-Some : goal.returns-in-Some
returns-in-Some c = λ script derived.
    let line = c.args.compiled.now.line.now in
    let k = c.args.terminal in
    let waves = c.args.waves.now in
    let seen = c.args.seen.now in
    signal_clashes line script c.args.compiled.now.net.now seen waves c.args.compiled.now.of_line
    c.requires.seen derived
    false k c.requires.terminal (λ on. absurd (cc)) c.in-Some.clash
    (checked_same c.nth-key.result.now c.nth-seen_key.result.now
    (get_or waves (key_of c.args.compiled.now.net.now k) []) (get_or seen.keys.items k []) k false
    (Some c.in-Some.clash)
    (c.nth-key.ensures ∙ ap (λ (n : ℕ). get_or waves n []) c.key_gate.ensures.is)
    (c.nth-seen_key.ensures
    ∙ ap (λ (xs : List (List Tern)). get_or xs k []) c.as_slice.ensures.value)
    (subst (λ (o : Option Clash). IsSignalChecked c.nth-key.result.now c.nth-seen_key.result.now k
    false o) c.in-Some.is c.signal_clash.ensures))

pub returns : goal.returns
returns c = λ script derived.
    let line = c.args.compiled.now.line.now in
    let k = c.args.terminal in
    let waves = c.args.waves.now in
    let seen = c.args.seen.now in
    terminal_told line script c.args.compiled.now.net.now seen waves c.args.compiled.now.of_line
    c.requires.seen derived
    k c.requires.terminal
    (signal_allowed line script c.args.compiled.now.net.now seen waves c.args.compiled.now.of_line
    c.requires.seen
    derived false k c.requires.terminal
    (checked_same c.nth-key.result.now c.nth-seen_key.result.now
    (get_or waves (key_of c.args.compiled.now.net.now k) [])
    (get_or seen.keys.items k []) k false None
    (c.nth-key.ensures ∙ ap (λ (n : ℕ). get_or waves n []) c.key_gate.ensures.is)
    (c.nth-seen_key.ensures
    ∙ ap (λ (xs : List (List Tern)). get_or xs k []) c.as_slice.ensures.value)
    (subst (λ (o : Option Clash). IsSignalChecked c.nth-key.result.now c.nth-seen_key.result.now k
    false o) c.in_default.is c.signal_clash.ensures)))
    c.signal_clash-2.result
    (checked_same c.nth-trip.result.now c.nth-seen_trip.result.now
    (get_or waves (trip_of c.args.compiled.now.net.now k) []) (get_or seen.trips.items k []) k true
    c.signal_clash-2.result
    (c.nth-trip.ensures ∙ ap (λ (n : ℕ). get_or waves n []) c.trip_gate.ensures.is)
    (c.nth-seen_trip.ensures
    ∙ ap (λ (xs : List (List Tern)). get_or xs k []) c.as_slice-2.ensures.value)
    c.signal_clash-2.ensures)
