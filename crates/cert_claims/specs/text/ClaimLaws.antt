-- Claims are told by their keys and their verdicts.
use Rattle.std.proofs.Common.{◌≡◌, List, ◌∙◌, ap}
use Rattle.run_signal.specs.declared.tern.Tern.{Tern}
use Rattle.cert_claims.specs.text.Grammar.{Claims, Verdict}

pub same_claims : (c d : Claims) → c.keys ≡ d.keys → c.verdicts ≡ d.verdicts → c ≡ d
same_claims c d keys verdicts =
    ap (λ (k : List (List Tern)). record { keys = k; verdicts = c.verdicts }) keys
    ∙ ap (λ (v : List Verdict). record { keys = d.keys; verdicts = v }) verdicts
