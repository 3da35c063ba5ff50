-- What is certified, and the certificate that says it, rest on the values of a line and of scripts
-- alone.
use Rattle.std.proofs.Common.{◌≡◌, ◌++◌, ℕ, List, [], ◌∷◌, map, refl, sym, ◌∙◌, ap, subst}
use Rattle.std.specs.List.{flat_map}
use Rattle.model_line.specs.Laws.{CountsRestOnNoInterval}
use Rattle.model_line.specs.{declared.line.Line.Line, declared.script.Script.Script}
use Rattle.model_line.specs.{declared.line.Terminal.Terminal, SetBounds.SameButParams}
use Rattle.model_logic.specs.IntervalLaws.{HistoriesRestOnNoInterval}
use Rattle.run_waves.specs.waves.Waves.{IsWaveOf}
use Rattle.file_line.specs.Lines.{line_values}
use Rattle.file_tables.specs.script.Values.{ScriptValues, values_of}
use Rattle.base_text.specs.lines.Grammar.{text_said}
use Rattle.cert_claims.specs.text.Grammar.{Claims, Place, claim_places, end_text, fixed, head_text}
use Rattle.cert_claims.specs.text.Grammar.{key_of, part_places, script_parts, script_text, verdict_of}
use Rattle.cert_claims.specs.text.Text.{certificate_text, lines_text}
use Rattle.cert_own.specs.Certified.{IsCertified}
use Rattle.call_pilot.specs.commands.Certify.{certify_answer}
use Rattle.call_answer.specs.declared.done.Done.{Done}
use Rattle.call_pilot.specs.top.SameFactLaws.{pair_history_on}
use Rattle.call_pilot.specs.{top.SameTextLaws.heads_same, top.SameValueLaws.same_but_params}
use Rattle.call_pilot.proofs.{once_lemmas.SameVerdicts.verdict_on, once_lemmas.TwinLists.zip_on}

-- ---- the lines of the text

module _ (a b : Line) (others : SameButParams a b) where
  claims_same : claim_places b ≡ claim_places a
  claims_same =
      ap (λ (ts : List Terminal).
      map key_of (map (λ (t : Terminal). t.name) ts)
      ++ map verdict_of (map (λ (t : Terminal). t.name) ts)) others.terminals

  part_same : (x y : Script) → values_of y ≡ values_of x → part_places b y ≡ part_places a x
  part_same x y values =
      ap (λ (v : ScriptValues). fixed (script_text v.name) ∷ claim_places b) values
      ∙ ap (λ (places : List Place). fixed (script_text x.name) ∷ places) claims_same

  pub places_same : (xs ys : List Script) → map values_of ys ≡ map values_of xs
      → flat_map (part_places b) ys ≡ flat_map (part_places a) xs
  places_same [] [] same = refl
  places_same [] (y ∷ ys) same = absurd (cc)
  places_same (x ∷ xs) [] same = absurd (cc)
  places_same (x ∷ xs) (y ∷ ys) same =
      let heads =
      heads_same (values_of y) (values_of x) (map values_of ys) (map values_of xs) same in
      ap (λ (places : List Place). places ++ flat_map (part_places b) ys) (part_same x y heads.0)
      ∙ ap (λ (places : List Place). part_places a x ++ places) (places_same xs ys heads.1)

  text_same : (xs ys : List Script) → map values_of ys ≡ map values_of xs → (claims : List Claims)
      → certificate_text b ys claims ≡ certificate_text a xs claims
  text_same xs ys same claims =
      ap (λ (places : List Place).
      lines_text (fixed head_text ∷ (places ++ fixed end_text ∷ []))
      (text_said (script_parts a) claims)) (places_same xs ys same)

-- ---- what is certified

module _ (counts : CountsRestOnNoInterval) (histories : HistoriesRestOnNoInterval) (a b : Line)
    (lines : line_values b ≡ line_values a) where
  others : SameButParams a b
  others = same_but_params a b lines

  certified_on : (s r : Script) → values_of r ≡ values_of s → (claims : Claims)
      → IsCertified a s claims → IsCertified b r claims
  certified_on s r values claims is = record {
    history = is.history;
    is_history = pair_history_on counts histories a b lines s r values is.history is.is_history;
    are_keys = record {
      count = is.are_keys.count ∙ sym (counts.terminals a b others);
      each = λ k wave at.
          subst (λ (n : ℕ). IsWaveOf wave n (is.history.key k)) (sym others.horizon)
          (is.are_keys.each k wave at);
    };
    verdicts = is.verdicts;
    are_verdicts = record {
      count = is.are_verdicts.count ∙ sym (counts.terminals a b others);
      each = λ k verdict at.
          verdict_on counts histories a b lines s r values k is.history verdict
          (is.are_verdicts.each k verdict at);
    };
    written = is.written;
  }

  pub certify_on : (xs ys : List Script) → map values_of ys ≡ map values_of xs → (d : Done)
      (text : List ℕ) → certify_answer a xs d text → certify_answer b ys d text
  certify_on xs ys scripts d text is = record {
    claims = is.claims;
    certified = zip_on (IsCertified a) (IsCertified b) certified_on xs ys scripts is.claims
        is.certified;
    status_is = is.status_is;
    text_is = is.text_is ∙ sym (text_same a b others xs ys scripts is.claims);
  }
