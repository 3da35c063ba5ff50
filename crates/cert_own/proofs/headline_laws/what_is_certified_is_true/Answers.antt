use Rattle.model_line.specs.Fits.{Fits}
use Rattle.cert_claims.specs.text.Text.{certificate_text}
use Rattle.model_history.specs.ZipLaws.{zip_each}
use Rattle.cert_own.specs.Certified.{IsCertified}
use Rattle.cert_own.specs.Obligations.{HoldsAsCertified}
use Rattle.cert_own.specs.Printed.{HoldsOf}
use Rattle.cert_own.proofs.CertificateLines.{names_plain, said_there, says_of}
use Rattle.cert_own.proofs.Statuses.{all_met, some_failed, some_unknown}
use Rattle.cert_own.proofs.Truth.{certified_is_true}
use Rattle.model_history.specs.ListLaws.{all_at}
use Rattle.cert_own.proofs.headline_laws.what_is_certified_is_true.Goals as goal

pub returns-clause-script : goal.returns-clause-script
returns-clause-script c =
    certified_is_true c.line_laws.ensures c.timings_inside_are_choices_inside.ensures
    c.fine_histories_are_covered.ensures c.the_rule_speaks_for_covered_fine_histories.ensures
    c.candidates_are_inside.ensures c.what_is_certified_is_accepted.ensures.script
    (λ line script said is.
    (c.what_is_certified_is_accepted.ensures.written line script said is).each)

pub returns-clause-text : goal.returns-clause-text
returns-clause-text c = λ line scripts claims front rest name terminal verdict fit certified same has.
    said_there (λ n t v. HoldsOf line scripts n t (HoldsAsCertified v)) line (names_plain line)
    scripts claims (certificate_text line scripts claims)
    (c.what_is_certified_is_accepted.ensures.certificate line scripts claims fit certified)
    (says_of line scripts claims HoldsAsCertified
    (λ i script said at there k v said_at.
    returns-clause-script c line script said k v (all_at (Fits line) scripts i script fit at)
    (zip_each (Fits line) (IsCertified line) (IsCertified line) (λ s x fits is. is) scripts claims
    fit certified i script said at there)
    said_at))
    front rest same name terminal verdict has

pub returns-clause-all : goal.returns-clause-all
returns-clause-all c =
    all_met (returns-clause-script c)
    (λ line script said is.
    (c.what_is_certified_is_accepted.ensures.written line script said is).each)

pub returns-clause-some_no : goal.returns-clause-some_no
returns-clause-some_no c =
    some_failed (returns-clause-script c)
    (λ line script said is.
    (c.what_is_certified_is_accepted.ensures.written line script said is).each)

pub returns-clause-some_undecided : goal.returns-clause-some_undecided
returns-clause-some_undecided c =
    some_unknown (returns-clause-script c)
    (λ line script said is.
    (c.what_is_certified_is_accepted.ensures.written line script said is).each)
