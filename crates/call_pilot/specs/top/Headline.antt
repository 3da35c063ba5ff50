-- What a call says of every choice, of fractions or of whole ticks. In each field line, scripts, and what else is named so,
-- are the bytes of the command's files, and put is what the call has put on out.
use Rattle.std.specs.Prelude.{◌≡◌, ℕ, List, Option}
use Rattle.cert_claims.specs.text.Grammar.{Verdict}
use Rattle.call_answer.specs.Sinks.{SinkView}
use Rattle.cert_own.specs.{Matched.HasMatch, Matched.Matched, Printed.HasVerdict}
use Rattle.cert_own.specs.Obligations.{HoldsAsAccepted, HoldsAsCertified}
use Rattle.call_pilot.specs.top.CallOver.{HasPut, IsFrontOfText, IsOverThree, IsOverTwo}
use Rattle.call_pilot.specs.{top.SaidByFiles.HoldsInFiles, top.SaidByFiles.InFiles}
use Rattle.call_pilot.specs.top.Truths.{IsToldBy, MarginIsTrue, ReportIsTrue, SplitIsTrue}
use Rattle.call_pilot.specs.top.Words.{Command, certify, margin, report, split}
use Rattle.call_pilot.specs.top.MatchTruths.{InRecords, IsMatchToldBy, IsMatchTrue}
use Rattle.call_pilot.specs.top.PlayTruths.{IsPlayTrue}
use Rattle.call_files.specs.{Status.IsDone, declared.stop.Status.Status}
use Rattle.call_files.specs.declared.stop.Status.TheVariants as status
use Rattle.call_pilot.specs.declared.top.words.ThreeFiles.TheVariants as three

-- of a call of this command over these files, which put this on out, and ended with status s
pub record Headline (command : Option Command) (files : List ℕ → Option (List ℕ))
    (out_old out_new : SinkView) (s : Status) : Type 0 where
  -- Where `certify` has put a whole line `verdict TERMINAL yes` under `script NAME`, however the call
  -- ended, each history of each choice of fractions inside meets that obligation; under `no` the
  -- numbers are a choice inside whose history fails it; under `undecided` its rule is unknown.
  pub printed : (line scripts put name terminal : List ℕ) (verdict : Verdict)
      → IsOverTwo command files certify line scripts → HasPut out_old out_new put
      → HasVerdict put name terminal verdict
      → HoldsInFiles line scripts name terminal (HoldsAsCertified verdict)
  -- Its status says what is so of all obligations.
  pub status_says : (line scripts : List ℕ) → IsOverTwo command files certify line scripts
      → IsDone s → InFiles line scripts (IsToldBy s)
  -- Where `check` has accepted a certificate, whoever wrote it, the same is so of each whole line of
  -- it that says `yes` or `no`.
  pub accepted : (line scripts certificate name terminal : List ℕ) (verdict : Verdict)
      → IsOverThree command files three.Check line scripts certificate → s ≡ status.Good
      → HasVerdict certificate name terminal verdict
      → HoldsInFiles line scripts name terminal (HoldsAsAccepted verdict)
  -- Where `match` has put a whole line i `NAME explained NUMBERS`, however the call ended, the
  -- numbers are a choice inside whose history is what record i of the field says; under `NAME
  -- impossible`, no history of any choice inside is; under `NAME open`, the interval rules exclude
  -- nothing of it, and no candidate's history is.
  pub matched : (line scripts records put name : List ℕ) (i : ℕ) (said : Matched)
      → IsOverThree command files three.Match line scripts records → HasPut out_old out_new put
      → HasMatch put i name said → InRecords line scripts records (IsMatchTrue i name said)
  -- Its status says what is so of all records.
  pub match_says : (line scripts records : List ℕ)
      → IsOverThree command files three.Match line scripts records
      → IsDone s → InRecords line scripts records (IsMatchToldBy s)
  -- What `play` has put, if it is anything, is a front of the rows of the histories of its timings,
  -- and all of them where the call is done.
  pub played : (line scripts timings put : List ℕ)
      → IsOverThree command files three.Play line scripts timings → HasPut out_old out_new put
      → IsFrontOfText s put
      (λ text. InFiles line scripts (λ of all. IsPlayTrue of all timings text))
  -- So it is of `report` and a true report, of `margin` and the line of a true margin, and of `split`
  -- and true split trees.
  pub reported : (line scripts put : List ℕ)
      → IsOverTwo command files report line scripts → HasPut out_old out_new put
      → IsFrontOfText s put (λ text. InFiles line scripts (λ of all. ReportIsTrue of all text))
  pub margin_put : (line scripts name put : List ℕ)
      → IsOverTwo command files (margin name) line scripts → HasPut out_old out_new put
      → IsFrontOfText s put (λ text. InFiles line scripts (λ of all. MarginIsTrue of all name text))
  pub split_put : (line scripts : List ℕ) (n : ℕ) (put : List ℕ)
      → IsOverTwo command files (split n) line scripts → HasPut out_old out_new put
      → IsFrontOfText s put (λ text. InFiles line scripts (λ of all. SplitIsTrue of all text))
  -- Split trees that `recheck` has accepted are true, whoever wrote them.
  pub trees_accepted : (line scripts trees : List ℕ)
      → IsOverThree command files three.Recheck line scripts trees
      → s ≡ status.Good → InFiles line scripts (λ of all. SplitIsTrue of all trees)
