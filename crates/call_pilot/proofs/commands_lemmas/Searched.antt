-- The text of split trees, as it is made script by script.
use Rattle.std.proofs.Common.{◌≡◌, ℕ, ◌+◌, ◌<◌, ◌≤◌, ◌||◌, List, [], ◌∷◌, ◌++◌, length}
use Rattle.std.proofs.Common.{get_or, map, false, take, sym, ap, ◌∙◌, subst}
use Rattle.std.proofs.lemmas.List.{append_assoc, append-nil, take_all, take_more}
use Rattle.model_line.specs.{declared.line.Line.Line, declared.script.Script.Script}
use Rattle.cert_claims.specs.{text.Grammar.end_text, text.Text.fed}
use Rattle.cert_split.specs.text.Grammar.{SplitResult, head_text}
use Rattle.cert_split.specs.text.Text.{part_text, parts_text}
use Rattle.cert_own.specs.Searched.{AllSearched, AreSearched}
use Rattle.cert_split.specs.check.Counts.{all_verdicts, verdict_of}
use Rattle.call_pilot.specs.{commands.Split.HasSplits, commands.Split.IsSplitOf}
use Rattle.call_answer.specs.Answers.{status_by}
use Rattle.call_pilot.specs.{commands.Verdicts.IsFoundOf, declared.commands.found.Found.Found}
use Rattle.call_pilot.proofs.commands_lemmas.Verdicts.{found_more, found_none, status_found}

-- the head and the parts of these scripts, and what is found of them
pub record AreBegun (line : Line) (n : ℕ) (scripts : List Script) (text : List ℕ) (told : Found)
    : Type 0 where
  pub parts : List (List SplitResult)
  pub searched : AllSearched line n scripts parts
  pub found : IsFoundOf (all_verdicts parts) told
  pub text_is : text ≡ fed head_text ++ parts_text line scripts parts

module _ (line : Line) (n : ℕ) where
  pub begun_none : (text : List ℕ) (told : Found) → text ≡ fed head_text → told.some_no ≡ false
      → told.some_open ≡ false → AreBegun line n [] text told
  begun_none text told is noes opens = record {
    parts = [];
    searched = tt;
    found = found_none told noes opens;
    text_is = is ∙ sym (append-nil (fed head_text));
  }

  -- one script more
  pub begun_more : ((scripts : List Script) (parts : List (List SplitResult)) (script : Script)
      (results : List SplitResult) → length parts ≡ length scripts
      → parts_text line (scripts ++ script ∷ []) (parts ++ results ∷ [])
      ≡ parts_text line scripts parts ++ part_text line script results)
      → ((scripts : List Script) (parts : List (List SplitResult)) (script : Script)
      (results : List SplitResult) → AllSearched line n scripts parts
      → AreSearched line n script results
      → AllSearched line n (scripts ++ script ∷ []) (parts ++ results ∷ []))
      → ((scripts : List Script) (parts : List (List SplitResult))
      → AllSearched line n scripts parts → length parts ≡ length scripts)
      → (scripts : List Script) (i : ℕ) (script : Script) (old new : List ℕ) (f g h : Found)
      → i < length scripts → get_or scripts i script ≡ script
      → h.some_no ≡ f.some_no || g.some_no → h.some_open ≡ f.some_open || g.some_open
      → AreBegun line n (take i scripts) old f → HasSplits line n script old new g
      → AreBegun line n (take (i + 1) scripts) new h
  begun_more grows more many scripts i script old new f g h lt here noes opens begun part =
      subst (λ xs. AreBegun line n xs new h)
      (sym (take_more scripts i script lt ∙ ap (λ x. take i scripts ++ x ∷ []) here))
      (record {
        parts = begun.parts ++ part.results ∷ [];
        searched = more (take i scripts) begun.parts script part.results begun.searched
            part.searched;
        found = found_more (map verdict_of) begun.parts part.results f g h noes opens begun.found
            part.found;
        text_is = part.text_is
            ∙ ap (λ z. z ++ part_text line script part.results) begun.text_is
            ∙ append_assoc (fed head_text) (parts_text line (take i scripts) begun.parts)
            (part_text line script part.results)
            ∙ ap (λ z. fed head_text ++ z) (sym (grows (take i scripts) begun.parts script
            part.results (many (take i scripts) begun.parts begun.searched)));
      })

  -- the end makes it the whole text
  pub ended : (scripts : List Script) (i : ℕ) (text whole : List ℕ) (told : Found)
      → length scripts ≤ i → whole ≡ text ++ fed end_text
      → AreBegun line n (take i scripts) text told
      → IsSplitOf line scripts n (status_by told.some_no told.some_open) whole
  ended scripts i text whole told le is begun =
      let all = subst (λ xs. AreBegun line n xs text told) (take_all i scripts le) begun in
      record {
        parts = all.parts;
        searched = all.searched;
        status_is = status_found (all_verdicts all.parts) told all.found;
        text_is = is ∙ ap (λ z. z ++ fed end_text) all.text_is
            ∙ append_assoc (fed head_text) (parts_text line scripts all.parts) (fed end_text);
      }
