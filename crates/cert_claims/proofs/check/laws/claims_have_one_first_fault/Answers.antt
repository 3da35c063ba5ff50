use Rattle.cert_claims.specs.check.Refutations.{steady_timing, choice_of}
use Rattle.cert_claims.proofs.check_lemmas.OneFault.{first_fault_once}
use Rattle.cert_claims.proofs.check.laws.claims_have_one_first_fault.Goals as goal

pub returns : goal.returns
returns c = λ line script said fault other first any.
    first_fault_once line script
    (λ values inside. c.each_choice_has_one_history.ensures.exists line script
    (choice_of line values) (c.each_line_has_a_choice_inside.ensures.choices line
    (choice_of line values)
    (c.timings_inside_are_choices_inside.ensures line (steady_timing values) inside)))
    said fault other first any
