-- What `split` writes is accepted.
use Rattle.std.proofs.Common.{◌≡◌, ◌≤◌, ℕ, List, refl, sym, ◌∙◌, ap, subst}
use Rattle.std.specs.List.{All, concat}
use Rattle.model_line.specs.{declared.line.Line.Line, declared.script.Script.Script, Fits.Fits}
use Rattle.cert_claims.specs.declared.check.counts.Counts.{Counts}
use Rattle.cert_claims.specs.check.Counts.{are_counts, counts_in}
use Rattle.cert_split.specs.{text.Grammar.SplitResult, text.Text.split_text}
use Rattle.cert_split.specs.check.Check.{IsAccepted, IsSplitFault}
use Rattle.cert_split.specs.check.Counts.{CountResults, all_verdicts}
use Rattle.cert_split.specs.declared.check.fault.SplitFault.{SplitFault}
use Rattle.cert_own.specs.Searched.{AllSearched}
use Rattle.call_pilot.specs.{commands.Recheck.recheck_answer, commands.Split.split_answer}
use Rattle.call_engine.specs.Checked.{accepted_pieces}
use Rattle.call_answer.specs.declared.done.Done.{Done}
use Rattle.call_answer.specs.declared.done.Done.TheVariants as done
use Rattle.call_pilot.specs.top.Accepted.{counted_line}
use Rattle.call_pilot.specs.top.PrintedLaws.{same_counts}

module _
    (accepted : (line : Line) (n : ℕ) (scripts : List Script) (parts : List (List SplitResult))
    (counts : Counts) → All (Fits line) scripts → n ≤ 8 → AllSearched line n scripts parts
    → CountResults parts counts → IsAccepted line scripts (split_text line scripts parts) counts)
    (counted : (line : Line) (n : ℕ) (scripts : List Script) (parts : List (List SplitResult))
    (counts : Counts) → All (Fits line) scripts → n ≤ 8 → AllSearched line n scripts parts
    → IsAccepted line scripts (split_text line scripts parts) counts → CountResults parts counts)
    (no_fault : (line : Line) (n : ℕ) (scripts : List Script) (parts : List (List SplitResult))
    (f : SplitFault) → All (Fits line) scripts → n ≤ 8 → AllSearched line n scripts parts
    → ¬ (IsSplitFault line scripts (split_text line scripts parts) f))
    (line : Line) (scripts : List Script) (n : ℕ) (d : Done) (text : List ℕ)
    (is : split_answer line scripts n d text) (few : n ≤ 8) (fit : All (Fits line) scripts) where
  pub accepted_trees : recheck_answer line scripts text done.Good
      (counted_line (all_verdicts is.parts))
  accepted_trees =
      subst (λ (t : List ℕ). recheck_answer line scripts t done.Good
      (counted_line (all_verdicts is.parts))) (sym is.text_is) (record {
        counts = counts_in (all_verdicts is.parts);
        accepted = accepted line n scripts is.parts (counts_in (all_verdicts is.parts)) fit few
            is.searched (are_counts (all_verdicts is.parts));
        text_is = refl;
      })

  only_line : (other : Done) (answer : List ℕ)
      → recheck_answer line scripts (split_text line scripts is.parts) other answer
      → (other ≡ done.Good) × (answer ≡ counted_line (all_verdicts is.parts))
  only_line done.Good answer said =
      let are = counted line n scripts is.parts said.counts fit few is.searched said.accepted in (
        refl,
        said.text_is
            ∙ ap (λ (c : Counts). concat (accepted_pieces c))
            (same_counts said.counts (counts_in (all_verdicts is.parts)) are.yes are.no
            are.undecided),
      )
  only_line done.SomeNo answer said = absurd said
  only_line done.SomeUndecided answer said = absurd said
  only_line done.Rejected answer said =
      absurd (no_fault line n scripts is.parts said.why fit few is.searched said.first)

  pub accepted_only : (other : Done) (answer : List ℕ)
      → recheck_answer line scripts text other answer
      → (other ≡ done.Good) × (answer ≡ counted_line (all_verdicts is.parts))
  accepted_only other answer said =
      only_line other answer
      (subst (λ (t : List ℕ). recheck_answer line scripts t other answer) is.text_is said)
