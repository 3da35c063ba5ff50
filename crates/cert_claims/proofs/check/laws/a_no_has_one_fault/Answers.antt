use Rattle.cert_claims.specs.check.Refutations.{steady_timing, choice_of}
use Rattle.cert_claims.proofs.{check_lemmas.OneFault.no_once, check_lemmas.Refusal.HaveHistories, check_lemmas.Refusal.no_refused}
use Rattle.cert_claims.proofs.check.laws.a_no_has_one_fault.Goals as goal

have : (c : goal.After-timings_inside_are_choices_inside) → (line : _) (script : _)
    → HaveHistories line script
have c line script values inside =
    c.each_choice_has_one_history.ensures.exists line script (choice_of line values)
    (c.each_line_has_a_choice_inside.ensures.choices line (choice_of line values)
    (c.timings_inside_are_choices_inside.ensures line (steady_timing values) inside))

pub returns-clause-one : goal.returns-clause-one
returns-clause-one c = λ line script k values fault other some any.
    no_once line script (have c line script) k values fault other some any

pub returns-clause-refused : goal.returns-clause-refused
returns-clause-refused c = λ line script k values fault first.
    no_refused line script (have c line script) k values fault first
