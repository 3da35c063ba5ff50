use Rattle.cert_claims.specs.check.Refutations.{steady_timing, choice_of}
use Rattle.cert_claims.proofs.check_lemmas.Refusal.{fault_refuses}
use Rattle.cert_claims.proofs.check.laws.a_fault_refuses_the_claims.Goals as goal

pub returns : goal.returns
returns c = λ line script said fault first accepted.
    fault_refuses line script
    (λ values inside. c.each_choice_has_one_history.ensures.exists line script
    (choice_of line values) (c.each_line_has_a_choice_inside.ensures.choices line
    (choice_of line values)
    (c.timings_inside_are_choices_inside.ensures line (steady_timing values) inside)))
    said accepted fault first
