use Rattle.std.proofs.Common.{◌≡◌, ◌≤◌, ℕ, sym, ◌∙◌, ap, arith}
use Rattle.model_history.specs.{Elements.some_below, Rails.Rails}
use Rattle.model_logic.specs.Rule.{rule_by}
use Rattle.judge_verdict.specs.verdict.PairWavesOf.{pair_at, pair_history}
use Rattle.judge_verdict.specs.verdict.Rules.{rule_named, counted_ticks}
use Rattle.judge_verdict.specs.verdict.RuleLaws.{rule_by_rails}
use Rattle.judge_verdict.proofs.verdict.rule.judge.Goals as goal

pub returns-clause-rule : goal.returns-clause-rule
returns-clause-rule c =
    let trip : ℕ → Rails = pair_at c.args.waves.now.trips c.args.terminal in
    let ticks : c.ticks_of-ticks.result
    ≡ counted_ticks c.args.script.now.kind c.args.script.now.deadline c.args.waves.now.horizon =
    c.ticks_of-ticks.ensures.count
    ∙ ap (counted_ticks c.args.script.now.kind c.args.script.now.deadline) c.horizon.ensures in
    let within : c.ticks_of-ticks.result ≤ c.args.waves.now.horizon =
    omega (arith, c.ticks_of-ticks.ensures.within, c.horizon.ensures) in
    c.rule_of_rails.ensures
    ∙ rule_by_rails c.args.script.now.kind c.args.script.now.deadline c.args.waves.now.horizon trip
    c.comes_within-must.result c.comes_within-may.result
    (c.comes_within-must.ensures (λ t. (trip t).must) c.args.waves.now.horizon within
    c.first_must.ensures.first
    ∙ ap (some_below (λ t. (trip t).must)) ticks)
    (c.comes_within-may.ensures (λ t. (trip t).may) c.args.waves.now.horizon within
    c.first_may.ensures.first
    ∙ ap (some_below (λ t. (trip t).may)) ticks)

-- the rule that is answered, over the horizon of a line
rule_over : (c : goal.After-rule_of_rails) (horizon : ℕ) → horizon ≡ c.args.waves.now.horizon
    → rule_named c.rule_of_rails.result
    ≡ rule_by c.args.script.now.kind c.args.script.now.deadline horizon
    (pair_at c.args.waves.now.trips c.args.terminal)
rule_over c horizon same =
    returns-clause-rule c
    ∙ ap (λ (n : ℕ). rule_by c.args.script.now.kind c.args.script.now.deadline n
    (pair_at c.args.waves.now.trips c.args.terminal)) (sym same)

pub returns-clause-held : goal.returns-clause-held
returns-clause-held c = λ is line h same there early cover.
    c.the_rule_speaks_for_what_is_covered.ensures.held line c.args.script.now
    (pair_history c.args.waves.now) h c.args.terminal early cover there
    (sym (rule_over c line.horizon same) ∙ ap rule_named is)

pub returns-clause-broken : goal.returns-clause-broken
returns-clause-broken c = λ is line h same there early cover.
    c.the_rule_speaks_for_what_is_covered.ensures.broken line c.args.script.now
    (pair_history c.args.waves.now) h c.args.terminal early cover there
    (sym (rule_over c line.horizon same) ∙ ap rule_named is)
