-- The answer of `check` rests on the values of a line and of scripts alone.
use Rattle.std.proofs.Common.{◌≡◌, ◌++◌, ◌∷◌, ℕ, List, [], map, get_or, refl, sym, ◌∙◌}
use Rattle.std.proofs.Common.{ap, subst}
use Rattle.std.specs.Prelude.{codes, decimal}
use Rattle.std.specs.List.{concat}
use Rattle.model_line.specs.Laws.{CountsRestOnNoInterval}
use Rattle.model_line.specs.{declared.line.Line.Line, declared.script.Script.Script}
use Rattle.model_line.specs.{SetBounds.SameButParams}
use Rattle.model_logic.specs.IntervalLaws.{HistoriesRestOnNoInterval, TreesRestOnNoInterval}
use Rattle.run_waves.specs.waves.Text.{tern_word}
use Rattle.file_line.specs.Lines.{line_values}
use Rattle.file_tables.specs.script.Values.{values_of}
use Rattle.base_text.specs.lines.Grammar.{text_places, text_said}
use Rattle.base_text.specs.lines.Lines.{LeavesAt, Lines}
use Rattle.cert_claims.specs.text.Grammar.{Claims, HasNumbers, HasOneEach, IsCertificate, LeavesGrammar}
use Rattle.cert_claims.specs.text.Grammar.{Place, Said, Stands, Verdict, end_text, fixed, head_text}
use Rattle.cert_claims.specs.text.Grammar.{key_of, no, opens_none, says_key, says_nothing}
use Rattle.cert_claims.specs.text.Grammar.{says_verdict, script_parts, undecided, verdict_of, yes}
use Rattle.cert_claims.specs.check.Check.{IsAccepted, IsCheckFault, IsScriptFault}
use Rattle.cert_claims.specs.{check.Counts.all_verdicts, check.Verdicts.AreAccepted, check.Verdicts.IsFirstFault}
use Rattle.cert_claims.specs.declared.check.claim.ClaimFault.{ClaimFault}
use Rattle.cert_claims.specs.declared.check.claim.ClaimFault.TheVariants as wrong
use Rattle.cert_claims.specs.declared.check.counts.Counts.{Counts}
use Rattle.cert_claims.specs.declared.check.fault.CheckFault.{CheckFault}
use Rattle.cert_claims.specs.declared.check.fault.CheckFault.TheVariants as fault
use Rattle.cert_claims.specs.declared.check.no.NoFault.TheVariants as of_no
use Rattle.call_pilot.specs.{commands.Check.check_answer, commands.Check.rejected_pieces}
use Rattle.call_answer.specs.declared.done.Done.{Done}
use Rattle.call_answer.specs.declared.done.Done.TheVariants as done
use Rattle.call_pilot.proofs.{once_lemmas.SameCertificates.places_same, once_lemmas.SameClaims.claims_on}
use Rattle.call_pilot.proofs.{once_lemmas.SameClaims.fault_on, once_lemmas.TwinTexts.lengths_same}
use Rattle.call_pilot.proofs.once_lemmas.SameFaults.{outside_same, passes_same, place_same}
use Rattle.call_pilot.specs.top.SameValueLaws.{same_but_params}
use Rattle.call_pilot.proofs.once_lemmas.TextLines.{leaves_on, lines_on}
use Rattle.call_pilot.proofs.once_lemmas.TwinTexts.{all_good_on, first_wrong_on}

-- ---- what can stand in a line

module _ (counts : CountsRestOnNoInterval) (a b : Line) (others : SameButParams a b) where
  numbers_on : (verdict : Verdict) → HasNumbers a verdict → HasNumbers b verdict
  numbers_on yes is = tt
  numbers_on (no numbers) is = record {
    many = is.many ∙ sym (counts.params a b others);
    small = is.small;
  }
  numbers_on undecided is = tt

  pub stands_on : (place : Place) (said : Said) (bytes : List ℕ) → Stands a place said bytes
      → Stands b place said bytes
  stands_on (fixed text) said bytes is = is
  stands_on (key_of name) says_nothing bytes is = absurd is
  stands_on (key_of name) (says_key wave) bytes is = (is.0 ∙ sym others.horizon, is.1)
  stands_on (key_of name) (says_verdict verdict) bytes is = absurd is
  stands_on (verdict_of name) says_nothing bytes is = absurd is
  stands_on (verdict_of name) (says_key wave) bytes is = absurd is
  stands_on (verdict_of name) (says_verdict verdict) bytes is = (numbers_on verdict is.0, is.1)

  pub one_each_on : (claims : Claims) → HasOneEach a claims → HasOneEach b claims
  one_each_on claims is = record {
    keys = is.keys ∙ sym (counts.terminals a b others);
    verdicts = is.verdicts ∙ sym (counts.terminals a b others);
  }

-- ---- the text

-- the lines of a whole certificate
abbrev places_by : List Place → List Place
places_by parts = fixed head_text ∷ (parts ++ fixed end_text ∷ [])

module _ (counts : CountsRestOnNoInterval) (a b : Line) (lines : line_values b ≡ line_values a)
    (xs ys : List Script) (scripts : map values_of ys ≡ map values_of xs) (bytes : List ℕ) where
  certificate_on : (claims : List Claims) → IsCertificate a xs claims bytes
      → IsCertificate b ys claims bytes
  certificate_on claims is =
      let others = same_but_params a b lines in
      record {
        many = is.many ∙ sym (lengths_same xs ys scripts);
        each = λ i c lt. one_each_on counts a b others (get_or claims i c) (is.each i c lt);
        lines = subst (λ (parts : List Place).
            Lines (Stands b) opens_none (places_by parts) (text_said (script_parts a) claims) bytes
            [] [])
            (sym (places_same a b others xs ys scripts))
            (lines_on (Stands a) (Stands b) opens_none (stands_on counts a b others)
            (text_places (script_parts a) head_text xs end_text)
            (text_said (script_parts a) claims) bytes [] [] is.lines);
      }

  grammar_on : (n : ℕ) → LeavesGrammar a xs bytes n → LeavesGrammar b ys bytes n
  grammar_on n is =
      let others = same_but_params a b lines in
      subst (λ (parts : List Place). LeavesAt (Stands b) opens_none (places_by parts) bytes 1 n)
      (sym (places_same a b others xs ys scripts))
      (leaves_on (Stands a) (Stands b) opens_none (stands_on counts a b others)
      (stands_on counts b a (same_but_params b a (sym lines)))
      (text_places (script_parts a) head_text xs end_text) bytes 1 n is)

-- ---- what is said of each script

module _ (counts : CountsRestOnNoInterval) (histories : HistoriesRestOnNoInterval)
    (trees : TreesRestOnNoInterval) (a b : Line) (lines : line_values b ≡ line_values a)
    (xs ys : List Script) (scripts : map values_of ys ≡ map values_of xs) (bytes : List ℕ) where
  accepted_on : (counted : Counts) → IsAccepted a xs bytes counted → IsAccepted b ys bytes counted
  accepted_on =
      all_good_on (λ claims. IsCertificate a xs claims bytes)
      (λ claims. IsCertificate b ys claims bytes) (AreAccepted a) (AreAccepted b) xs ys scripts
      (certificate_on counts a b lines xs ys scripts bytes)
      (claims_on counts histories trees a b lines) all_verdicts

  script_fault_on : (i : ℕ) (f : ClaimFault) → IsScriptFault a xs bytes i f
      → IsScriptFault b ys bytes i f
  script_fault_on =
      first_wrong_on (λ claims. IsCertificate a xs claims bytes)
      (λ claims. IsCertificate b ys claims bytes) (AreAccepted a) (AreAccepted b) xs ys scripts
      (certificate_on counts a b lines xs ys scripts bytes)
      (claims_on counts histories trees a b lines) (IsFirstFault a) (IsFirstFault b)
      (fault_on counts histories trees a b lines)

  first_on : (f : CheckFault) → IsCheckFault a xs bytes f → IsCheckFault b ys bytes f
  first_on (fault.Line n) is = grammar_on counts a b lines xs ys scripts bytes n is
  first_on (fault.NotCovered i k t claimed derived) is =
      script_fault_on i (wrong.NotCovered (record {
        terminal = k;
        tick = t;
        claimed = claimed;
        derived = derived;
      })) is
  first_on (fault.NotHeld i k) is = script_fault_on i (wrong.NotHeld k) is
  first_on (fault.Outside i k p value) is =
      script_fault_on i (wrong.No k (of_no.Outside p value)) is
  first_on (fault.Passes i k t) is = script_fault_on i (wrong.No k (of_no.Passes t)) is

  pieces_same : (f : CheckFault) → rejected_pieces b ys f ≡ rejected_pieces a xs f
  pieces_same (fault.Line n) = refl
  pieces_same (fault.NotCovered i k t claimed derived) =
      ap (λ (at : List ℕ).
      codes "rejected NotCovered" ∷ at ∷ codes " " ∷ decimal t
      ∷ codes " claimed " ∷ tern_word claimed ∷ codes " derived " ∷ tern_word derived
      ∷ codes "\n" ∷ []) (place_same a b lines xs ys scripts i k)
  pieces_same (fault.NotHeld i k) =
      ap (λ (at : List ℕ).
      codes "rejected NotHeld" ∷ at ∷ codes "\n" ∷ [])
      (place_same a b lines xs ys scripts i k)
  pieces_same (fault.Outside i k p value) =
      outside_same a b lines xs ys scripts i k p value
  pieces_same (fault.Passes i k t) = passes_same a b lines xs ys scripts i k t

  pub check_on : (d : Done) (text : List ℕ) → check_answer a xs bytes d text
      → check_answer b ys bytes d text
  check_on done.Good text is = record {
    counts = is.counts;
    accepted = accepted_on is.counts is.accepted;
    text_is = is.text_is;
  }
  check_on done.Rejected text is = record {
    why = is.why;
    first = first_on is.why is.first;
    text_is = is.text_is ∙ sym (ap (λ (l : List (List ℕ)). concat l) (pieces_same is.why));
  }
  check_on done.SomeNo text is = absurd is
  check_on done.SomeUndecided text is = absurd is
