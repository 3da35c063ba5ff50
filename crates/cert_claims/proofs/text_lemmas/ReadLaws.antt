-- Lines of a certificate that cannot stand, and where the lines of claims stand.
use Rattle.std.proofs.Common.{◌≡◌, ℕ, List, ◌++◌, ◌∙◌, map, sym, ap, append_assoc}
use Rattle.std.proofs.lemmas.Simd.{map-map}
use Rattle.run_signal.specs.declared.tern.Tern.{Tern}
use Rattle.model_line.specs.{declared.line.Line.Line, declared.line.Terminal.Terminal}
use Rattle.cert_claims.specs.text.Grammar.{Place, Said, says_nothing, says_key, says_verdict, Verdict}
use Rattle.cert_claims.specs.text.Grammar.{IsKey, IsVerdict, key_of, verdict_of, terminal_names}
use Rattle.cert_claims.specs.text.Grammar.{claim_places}

-- ---- lines that cannot stand, whatever they would say

pub not_key : (line : Line) (name bytes : List ℕ)
    → ((wave : List Tern) → ¬ (IsKey line name (says_key wave) bytes))
    → (said : Said) → ¬ (IsKey line name said bytes)
not_key line name bytes never says_nothing is = is
not_key line name bytes never (says_key w) is = never w is
not_key line name bytes never (says_verdict v) is = is

pub not_verdict : (line : Line) (name bytes : List ℕ)
    → ((v : Verdict) → ¬ (IsVerdict line name (says_verdict v) bytes))
    → (said : Said) → ¬ (IsVerdict line name said bytes)
not_verdict line name bytes never says_nothing is = is
not_verdict line name bytes never (says_key w) is = is
not_verdict line name bytes never (says_verdict v) is = never v is

-- ---- the places of the claims of a script

module _ (line : Line) (terminals : List Terminal) (all : terminals ≡ line.terminals.items) where
  named_places : (place : List ℕ → Place)
      → map (λ t. place t.name) terminals ≡ map place (terminal_names line)
  named_places place =
      ap (map (λ t. place t.name)) all ∙ sym (map-map place (λ t. t.name) line.terminals.items)

  pub both_places : (later : List Place)
      → map (λ t. key_of t.name) terminals ++ (map (λ t. verdict_of t.name) terminals ++ later)
      ≡ claim_places line ++ later
  both_places later =
      sym (append_assoc (map (λ t. key_of t.name) terminals) (map (λ t. verdict_of t.name) terminals)
      later)
      ∙ ap (λ (l : List Place). (l ++ map (λ t. verdict_of t.name) terminals) ++ later)
      (named_places key_of)
      ∙ ap (λ (l : List Place). (map key_of (terminal_names line) ++ l) ++ later)
      (named_places verdict_of)
