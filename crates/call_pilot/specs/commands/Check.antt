-- The command `check`: whether a certificate is accepted, with its counts, or its first fault.
use Rattle.std.specs.Prelude.{◌∷◌, ℕ, List, [], codes, decimal}
use Rattle.model_line.specs.{declared.line.Line.Line, declared.script.Script.Script}
use Rattle.run_waves.specs.waves.Text.{tern_word}
use Rattle.cert_claims.specs.check.Check.{IsAccepted, IsCheckFault}
use Rattle.cert_claims.specs.declared.check.fault.CheckFault.{CheckFault}
use Rattle.cert_claims.specs.declared.check.fault.CheckFault.TheVariants as fault
use Rattle.call_engine.specs.Calls.{AskedCheck}
use Rattle.call_engine.specs.Checked.{line_pieces, outside_pieces, passes_pieces, place}
use Rattle.call_pilot.specs.commands.Asked.{Asks}
use Rattle.call_engine.specs.Checked.{IsCheckedText}
use Rattle.call_answer.specs.Answers.{Answers}

-- ---- the lines

-- `rejected` and the fault
abbrev pub rejected_pieces : Line → List Script → CheckFault → List (List ℕ)
rejected_pieces line scripts (fault.Line n) = line_pieces n
rejected_pieces line scripts (fault.NotCovered i k t claimed derived) =
    codes "rejected NotCovered" ∷ place line scripts i k ∷ codes " " ∷ decimal t
    ∷ codes " claimed " ∷ tern_word claimed ∷ codes " derived " ∷ tern_word derived
    ∷ codes "\n" ∷ []
rejected_pieces line scripts (fault.NotHeld i k) =
    codes "rejected NotHeld" ∷ place line scripts i k ∷ codes "\n" ∷ []
rejected_pieces line scripts (fault.Outside i k p value) =
    outside_pieces line scripts i k p value
rejected_pieces line scripts (fault.Passes i k t) = passes_pieces line scripts i k t

-- ---- the answer

-- the certificate is accepted, or has such a first fault
abbrev pub check_answer : Line → List Script → List ℕ → Answers
check_answer line scripts cert =
    IsCheckedText (IsAccepted line scripts cert) (IsCheckFault line scripts cert)
    (rejected_pieces line scripts)

-- the engine is asked once
abbrev pub check_asks : Line → Asks
check_asks line = AskedCheck line
