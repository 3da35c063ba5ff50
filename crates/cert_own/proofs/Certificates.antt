-- What is certified of several scripts: that there is one list of claims, and that it is accepted.
use Rattle.std.proofs.Common.{◌≡◌, ℕ, List, [], ◌∷◌, ◌++◌, length, map, refl}
use Rattle.std.proofs.Common.{sym, ◌∙◌, ap, subst, arith, append_assoc}
use Rattle.std.proofs.lemmas.List.{append-nil}
use Rattle.std.proofs.lemmas.Slice.Zip.{AllZip-long}
use Rattle.std.specs.List.{All}
use Rattle.model_line.specs.{declared.line.Line.Line, declared.script.Script.Script, Fits.Fits}
use Rattle.model_logic.specs.Choice.{declared_box}
use Rattle.cert_claims.specs.text.Grammar.{Claims, IsCertificate}
use Rattle.cert_claims.specs.text.Text.{CanBeWritten, certificate_text, part_text, parts_text}
use Rattle.judge_verdict.specs.declared.verdict.verdict.Verdict.{Verdict}
use Rattle.cert_own.specs.Piece.{claims_of, written_as}
use Rattle.cert_claims.specs.{declared.check.counts.Counts.Counts, declared.check.fault.CheckFault.CheckFault}
use Rattle.cert_claims.specs.check.Check.{IsAccepted, IsCheckFault}
use Rattle.cert_claims.specs.check.Counts.{AreCounts, all_verdicts, counts_in, are_counts}
use Rattle.model_history.specs.ZipLaws.{zip_all, zip_each, zip_exists, zip_once}
use Rattle.cert_claims.specs.check.Verdicts.{AreAccepted}
use Rattle.cert_claims.specs.text.ClaimLaws.{same_claims}
use Rattle.cert_own.specs.{Certified.AreCertified, Certified.IsCertified, Known.Known}
use Rattle.cert_own.proofs.Accepted.{accepted, can_be_written}
use Rattle.cert_own.proofs.KeyLists.{keys_exist, keys_once}
use Rattle.cert_own.proofs.VerdictLists.{verdicts_exist, verdicts_once}

written_claims : (claims : Claims) (verdicts : List Verdict)
    → claims.verdicts ≡ map written_as verdicts → claims_of claims.keys verdicts ≡ claims
written_claims claims verdicts is =
    same_claims (claims_of claims.keys verdicts) claims refl (sym is)

-- ---- one script

module _ (known : Known) (line : Line) (script : Script) where
  pub written : (claims : Claims) → IsCertified line script claims → CanBeWritten line claims
  written claims is =
      subst (CanBeWritten line) (written_claims claims is.verdicts is.written)
      (can_be_written known line script is.history claims.keys is.verdicts is.are_keys
      is.are_verdicts)

  pub script_accepted : (claims : Claims) → Fits line script → IsCertified line script claims
      → AreAccepted line script claims
  script_accepted claims fits is =
      subst (AreAccepted line script) (written_claims claims is.verdicts is.written)
      (accepted known line script fits is.history is.is_history claims.keys is.are_keys is.verdicts
      is.are_verdicts)

  one_exists : Fits line script → (claims : Claims) × IsCertified line script claims
  one_exists fits =
      let (w, is_w) =
      known.lines.interval_histories.exists line script (declared_box line) (known.lines.inside.declared line) in
      let (keys, are_keys) = keys_exist known line script w is_w in
      let (verdicts, are_verdicts) = verdicts_exist known line script w fits in (
        claims_of keys verdicts,
        record {
          history = w;
          is_history = is_w;
          are_keys = are_keys;
          verdicts = verdicts;
          are_verdicts = are_verdicts;
          written = refl;
        },
      )

  one_only : Fits line script → (a b : Claims) → IsCertified line script a
      → IsCertified line script b → a ≡ b
  one_only fits a b p q =
      same_claims a b
      (keys_once known line script p.history q.history a.keys b.keys p.is_history q.is_history
      p.are_keys q.are_keys)
      (p.written
      ∙ ap (map written_as)
      (verdicts_once known line script p.history q.history p.verdicts q.verdicts fits p.is_history
      q.is_history p.are_verdicts q.are_verdicts)
      ∙ sym q.written)

-- ---- several scripts

pub text_more : (line : Line) (scripts : List Script) (claims : List Claims) (script : Script)
    (said : Claims) → length claims ≡ length scripts
    → parts_text line (scripts ++ script ∷ []) (claims ++ said ∷ [])
    ≡ parts_text line scripts claims ++ part_text line script said
text_more line [] [] script said long = append-nil (part_text line script said)
text_more line [] (c ∷ claims) script said long = absurd (omega (arith, long))
text_more line (s ∷ scripts) [] script said long = absurd (omega (arith, long))
text_more line (s ∷ scripts) (c ∷ claims) script said long =
    ap (λ (t : List ℕ). part_text line s c ++ t)
    (text_more line scripts claims script said (omega (arith, long)))
    ∙ sym (append_assoc (part_text line s c) (parts_text line scripts claims)
    (part_text line script said))

module _ (known : Known) (line : Line) where
  pub claims_exist : (scripts : List Script) → All (Fits line) scripts
      → (claims : List Claims) × AreCertified line scripts claims
  claims_exist = zip_exists (Fits line) (IsCertified line) (one_exists known line)

  pub claims_once : (scripts : List Script) (a b : List Claims) → All (Fits line) scripts
      → AreCertified line scripts a → AreCertified line scripts b → a ≡ b
  claims_once =
      zip_once (Fits line) (IsCertified line)
      (λ script a b fits p q. one_only known line script fits a b p q)

  module _ (printed : (line : Line) (scripts : List Script) (claims : List Claims)
      → length claims ≡ length scripts → All (Fits line) scripts → All (CanBeWritten line) claims
      → IsCertificate line scripts claims (certificate_text line scripts claims))
      (scripts : List Script) (claims : List Claims) (fit : All (Fits line) scripts)
      (are : AreCertified line scripts claims) where
    pub is_certificate : IsCertificate line scripts claims (certificate_text line scripts claims)
    is_certificate =
        printed line scripts claims (AllZip-long (IsCertified line) scripts claims are) fit
        (zip_all (Fits line) (IsCertified line) (CanBeWritten line)
        (λ script said fits is. written known line script said is) scripts claims fit are)

    pub text_accepted : (counts : Counts) → AreCounts (all_verdicts claims) counts
        → IsAccepted line scripts (certificate_text line scripts claims) counts
    text_accepted counts counted = record {
      claims = claims;
      is = is_certificate;
      each = λ i script said lt at there. zip_each (Fits line) (IsCertified line)
          (AreAccepted line) (λ s c fits is. script_accepted known line s c fits is) scripts claims
          fit are i script said at there;
      counted = counted;
    }

    counted : IsAccepted line scripts (certificate_text line scripts claims)
        (counts_in (all_verdicts claims))
    counted = text_accepted (counts_in (all_verdicts claims)) (are_counts (all_verdicts claims))

    pub no_fault : ((line : Line) (scripts : List Script) (bytes : List ℕ) (counts : Counts)
        (fault : CheckFault) → IsCheckFault line scripts bytes fault
        → ¬ (IsAccepted line scripts bytes counts)) → (fault : CheckFault)
        → ¬ (IsCheckFault line scripts (certificate_text line scripts claims) fault)
    no_fault refuses fault is =
        refuses line scripts (certificate_text line scripts claims)
        (counts_in (all_verdicts claims)) fault is counted
