use Rattle.std.proofs.Common.{[]}
use Rattle.std.proofs.lemmas.List.{append-nil}
use Rattle.std.proofs.lemmas.Option.{slice_get_within}
use Rattle.model_line.specs.Fits.{Fits}
use Rattle.cert_claims.specs.text.Grammar.{HasOneEach}
use Rattle.cert_own.specs.Obligations.{HoldsAsAccepted}
use Rattle.cert_own.specs.Printed.{HoldsOf}
use Rattle.cert_own.proofs.CertificateLines.{names_plain, said_there, says_of}
use Rattle.cert_own.proofs.Truth.{accepted_is_true}
use Rattle.model_history.specs.ListLaws.{all_at}
use Rattle.cert_own.proofs.headline_laws.what_is_accepted_is_true.Goals as goal

pub returns-clause-script : goal.returns-clause-script
returns-clause-script c =
    accepted_is_true c.line_laws.ensures c.timings_inside_are_choices_inside.ensures
    c.fine_histories_are_covered.ensures c.the_rule_speaks_for_covered_fine_histories.ensures

pub returns-clause-text : goal.returns-clause-text
returns-clause-text c = λ line scripts bytes counts name terminal verdict fit accepted has.
    said_there (λ n t v. HoldsOf line scripts n t (HoldsAsAccepted v)) line (names_plain line)
    scripts accepted.claims bytes accepted.is
    (says_of line scripts accepted.claims HoldsAsAccepted
    (λ i script said at there k v said_at.
    returns-clause-script c line script said k v (all_at (Fits line) scripts i script fit at)
    (all_at (HasOneEach line) accepted.claims i said accepted.is.each there)
    (accepted.each i script said (slice_get_within scripts i script at) at there) said_at))
    bytes [] (append-nil bytes) name terminal verdict has
