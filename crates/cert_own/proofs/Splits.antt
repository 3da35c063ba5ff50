-- What is searched of several scripts is accepted.
use Rattle.std.proofs.Common.{◌≡◌, ℕ, ◌≤◌, List, length}
use Rattle.std.proofs.lemmas.Slice.Zip.{AllZip-long}
use Rattle.std.specs.List.{All}
use Rattle.model_line.specs.{declared.line.Line.Line, declared.script.Script.Script, Fits.Fits}
use Rattle.cert_claims.specs.declared.check.counts.Counts.{Counts}
use Rattle.cert_claims.specs.check.Counts.{counts_in, are_counts}
use Rattle.model_history.specs.ZipLaws.{zip_all, zip_each}
use Rattle.cert_split.specs.text.Grammar.{SplitResult, HasOneEach, IsSplitText}
use Rattle.cert_split.specs.text.Text.{split_text}
use Rattle.cert_split.specs.declared.check.fault.SplitFault.{SplitFault}
use Rattle.cert_split.specs.check.Check.{IsAccepted, IsSplitFault}
use Rattle.cert_split.specs.{check.Counts.CountResults, check.Counts.all_verdicts, check.Results.AreSupported}
use Rattle.cert_own.specs.Searched.{AreSearched, AllSearched}
use Rattle.cert_own.proofs.Supported.{Known, one_each, supported}

module _ (known : Known) (line : Line) (n : ℕ) (small : n ≤ 8) where
  module _ (printed : (line : Line) (scripts : List Script) (parts : List (List SplitResult))
      → length parts ≡ length scripts → All (Fits line) scripts → All (HasOneEach line) parts
      → IsSplitText line scripts parts (split_text line scripts parts)) (scripts : List Script)
      (parts : List (List SplitResult)) (fit : All (Fits line) scripts)
      (are : AllSearched line n scripts parts) where
    pub is_split_text : IsSplitText line scripts parts (split_text line scripts parts)
    is_split_text =
        printed line scripts parts (AllZip-long (AreSearched line n) scripts parts are) fit
        (zip_all (Fits line) (AreSearched line n) (HasOneEach line)
        (λ script results fits is. one_each known line script fits n results is small) scripts parts
        fit are)

    pub text_accepted : (counts : Counts) → CountResults parts counts
        → IsAccepted line scripts (split_text line scripts parts) counts
    text_accepted counts counted = record {
      claims = parts;
      is = is_split_text;
      each = λ i script results lt at there. zip_each (Fits line) (AreSearched line n)
          (AreSupported line) (λ s r fits is. supported known line s fits n r is) scripts parts fit
          are i script results at there;
      counted = counted;
    }

    counted : IsAccepted line scripts (split_text line scripts parts)
        (counts_in (all_verdicts parts))
    counted = text_accepted (counts_in (all_verdicts parts)) (are_counts (all_verdicts parts))

    pub no_fault : ((line : Line) (scripts : List Script) (bytes : List ℕ) (counts : Counts)
        (fault : SplitFault) → IsSplitFault line scripts bytes fault
        → ¬ (IsAccepted line scripts bytes counts)) → (fault : SplitFault)
        → ¬ (IsSplitFault line scripts (split_text line scripts parts) fault)
    no_fault refuses fault is =
        refuses line scripts (split_text line scripts parts) (counts_in (all_verdicts parts)) fault
        is counted
