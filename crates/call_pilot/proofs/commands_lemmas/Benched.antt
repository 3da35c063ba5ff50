-- The certificate of the bench, as it is made script by script.
use Rattle.std.proofs.Common.{◌≡◌, ℕ, ◌+◌, ◌<◌, ◌≤◌, List, [], ◌∷◌, ◌++◌, length, get_or, take, sym}
use Rattle.std.proofs.Common.{ap, ◌∙◌, subst}
use Rattle.std.proofs.lemmas.List.{append_assoc, append-nil, take_all, take_more}
use Rattle.std.specs.List.{All}
use Rattle.model_line.specs.{declared.line.Line.Line, declared.script.Script.Script}
use Rattle.cert_claims.specs.text.Grammar.{Claims, HasOneEach, end_text, head_text}
use Rattle.cert_claims.specs.text.Text.{certificate_text, fed, part_text, parts_text}
use Rattle.cert_own.specs.Certified.{AreCertified, IsCertified}
use Rattle.call_pilot.specs.commands.Bench.{HasPart, IsOwnText}
use Rattle.call_pilot.proofs.commands_lemmas.Parts.{one_each}

-- the head and the parts of these scripts
pub record IsBegun (line : Line) (scripts : List Script) (text : List ℕ) : Type 0 where
  pub claims : List Claims
  pub certified : AreCertified line scripts claims
  pub text_is : text ≡ fed head_text ++ parts_text line scripts claims

pub begun_none : (line : Line) (text : List ℕ) → text ≡ fed head_text → IsBegun line [] text
begun_none line text is =
    record { claims = []; certified = tt; text_is = is ∙ sym (append-nil (fed head_text)) }

module _ (line : Line)
    (grows : (scripts : List Script) (claims : List Claims) (script : Script) (said : Claims)
    → length claims ≡ length scripts
    → parts_text line (scripts ++ script ∷ []) (claims ++ said ∷ [])
    ≡ parts_text line scripts claims ++ part_text line script said)
    (more : (scripts : List Script) (claims : List Claims) (script : Script) (said : Claims)
    → AreCertified line scripts claims → IsCertified line script said
    → AreCertified line (scripts ++ script ∷ []) (claims ++ said ∷ []))
    (many : (scripts : List Script) (claims : List Claims) → AreCertified line scripts claims
    → length claims ≡ length scripts) where
  -- one script more
  pub begun_more : (scripts : List Script) (i : ℕ) (script : Script) (old new : List ℕ)
      → i < length scripts → get_or scripts i script ≡ script
      → IsBegun line (take i scripts) old → HasPart line script old new
      → IsBegun line (take (i + 1) scripts) new
  begun_more scripts i script old new lt here begun part =
      subst (λ xs. IsBegun line xs new)
      (sym (take_more scripts i script lt ∙ ap (λ x. take i scripts ++ x ∷ []) here))
      (record {
        claims = begun.claims ++ part.claims ∷ [];
        certified = more (take i scripts) begun.claims script part.claims begun.certified
            part.certified;
        text_is = part.text_is
            ∙ ap (λ z. z ++ part_text line script part.claims) begun.text_is
            ∙ append_assoc (fed head_text) (parts_text line (take i scripts) begun.claims)
            (part_text line script part.claims)
            ∙ ap (λ z. fed head_text ++ z) (sym (grows (take i scripts) begun.claims script
            part.claims (many (take i scripts) begun.claims begun.certified)));
      })

  -- the end makes it the whole text
  pub ended : ((script : Script) (claims : Claims) → IsCertified line script claims
      → HasOneEach line claims)
      → ((scripts : List Script) (claims : List Claims) → length claims ≡ length scripts
      → All (HasOneEach line) claims → certificate_text line scripts claims
      ≡ fed head_text ++ (parts_text line scripts claims ++ fed end_text))
      → (scripts : List Script) (i : ℕ) (text whole : List ℕ) → length scripts ≤ i
      → whole ≡ text ++ fed end_text → IsBegun line (take i scripts) text
      → IsOwnText line scripts whole
  ended each parts scripts i text whole le is begun =
      let all = subst (λ xs. IsBegun line xs text) (take_all i scripts le) begun in
      record {
        claims = all.claims;
        certified = all.certified;
        text_is = is ∙ ap (λ z. z ++ fed end_text) all.text_is
            ∙ append_assoc (fed head_text) (parts_text line scripts all.claims) (fed end_text)
            ∙ sym (parts scripts all.claims (many scripts all.claims all.certified)
            (one_each line each scripts all.claims all.certified));
      }
