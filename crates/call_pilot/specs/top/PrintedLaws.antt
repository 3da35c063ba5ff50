-- What `certify` prints is accepted.
use Rattle.std.proofs.Common.{◌≡◌, ℕ, List, refl, sym, ◌∙◌, ap, subst}
use Rattle.std.specs.List.{All, concat}
use Rattle.model_line.specs.{declared.line.Line.Line, declared.script.Script.Script, Fits.Fits}
use Rattle.cert_claims.specs.{text.Grammar.Claims, text.Text.certificate_text}
use Rattle.cert_claims.specs.{declared.check.counts.Counts.Counts, check.Check.IsAccepted, check.Check.IsCheckFault}
use Rattle.cert_claims.specs.check.Counts.{AreCounts, all_verdicts, are_counts, counts_in}
use Rattle.cert_claims.specs.declared.check.fault.CheckFault.{CheckFault}
use Rattle.cert_own.specs.Certified.{AreCertified}
use Rattle.call_pilot.specs.{commands.Certify.certify_answer, commands.Check.check_answer}
use Rattle.call_engine.specs.Checked.{accepted_pieces}
use Rattle.call_answer.specs.declared.done.Done.{Done}
use Rattle.call_answer.specs.declared.done.Done.TheVariants as done
use Rattle.call_pilot.specs.top.Accepted.{counted_line}

pub same_counts : (a b : Counts) → a.yes ≡ b.yes → a.no ≡ b.no → a.undecided ≡ b.undecided → a ≡ b
same_counts a b p q r =
    let by_yes : ℕ → Counts = λ n. record { yes = n; no = a.no; undecided = a.undecided } in
    let by_no : ℕ → Counts = λ n. record { yes = b.yes; no = n; undecided = a.undecided } in
    let by_undecided : ℕ → Counts = λ n. record { yes = b.yes; no = b.no; undecided = n } in
    ap by_yes p ∙ ap by_no q ∙ ap by_undecided r

module _
    (accepted : (line : Line) (scripts : List Script) (claims : List Claims) (counts : Counts)
    → All (Fits line) scripts → AreCertified line scripts claims
    → AreCounts (all_verdicts claims) counts
    → IsAccepted line scripts (certificate_text line scripts claims) counts)
    (counted : (line : Line) (scripts : List Script) (claims : List Claims) (counts : Counts)
    → All (Fits line) scripts → AreCertified line scripts claims
    → IsAccepted line scripts (certificate_text line scripts claims) counts
    → AreCounts (all_verdicts claims) counts)
    (no_fault : (line : Line) (scripts : List Script) (claims : List Claims) (f : CheckFault)
    → All (Fits line) scripts → AreCertified line scripts claims
    → ¬ (IsCheckFault line scripts (certificate_text line scripts claims) f))
    (line : Line) (scripts : List Script) (d : Done) (text : List ℕ)
    (is : certify_answer line scripts d text) (fit : All (Fits line) scripts) where
  pub accepted_line : check_answer line scripts text done.Good (counted_line (all_verdicts is.claims))
  accepted_line =
      subst (λ (t : List ℕ). check_answer line scripts t done.Good
      (counted_line (all_verdicts is.claims))) (sym is.text_is) (record {
        counts = counts_in (all_verdicts is.claims);
        accepted = accepted line scripts is.claims (counts_in (all_verdicts is.claims)) fit
            is.certified (are_counts (all_verdicts is.claims));
        text_is = refl;
      })

  only_line : (other : Done) (answer : List ℕ)
      → check_answer line scripts (certificate_text line scripts is.claims) other answer
      → (other ≡ done.Good) × (answer ≡ counted_line (all_verdicts is.claims))
  only_line done.Good answer said =
      let are = counted line scripts is.claims said.counts fit is.certified said.accepted in (
        refl,
        said.text_is
            ∙ ap (λ (c : Counts). concat (accepted_pieces c))
            (same_counts said.counts (counts_in (all_verdicts is.claims)) are.yes are.no
            are.undecided),
      )
  only_line done.SomeNo answer said = absurd said
  only_line done.SomeUndecided answer said = absurd said
  only_line done.Rejected answer said =
      absurd (no_fault line scripts is.claims said.why fit is.certified said.first)

  pub accepted_only : (other : Done) (answer : List ℕ) → check_answer line scripts text other answer
      → (other ≡ done.Good) × (answer ≡ counted_line (all_verdicts is.claims))
  accepted_only other answer said =
      only_line other answer
      (subst (λ (t : List ℕ). check_answer line scripts t other answer) is.text_is said)
