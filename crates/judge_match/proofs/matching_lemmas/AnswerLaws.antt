-- The answer with one record more.
use Rattle.std.proofs.Common.{◌≡◌, Bool, true, false, ◌||◌, List, [], ◌∷◌, ◌++◌, ℕ, map, refl, sym}
use Rattle.std.proofs.Common.{◌∙◌, ap, subst}
use Rattle.std.proofs.lemmas.List.{append-nil, map-append}
use Rattle.std.proofs.lemmas.List.Folds.{concat-append}
use Rattle.std.specs.List.{AllZip, concat, list_any}
use Rattle.std.proofs.Math.Bool.{or-false}
use Rattle.model_line.specs.{declared.line.Line.Line, declared.script.Script.Script}
use Rattle.model_history.specs.ZipLaws.{zip_push}
use Rattle.judge_match.specs.matching.Answer.{Head, IsHead, IsMatchAnswer, is_impossible, is_unsettled}
use Rattle.judge_match.specs.matching.Waves.{SeenValues}

any_push : {A : Type 0} (p : A → Bool) (xs : List A) (x : A)
    → list_any p (xs ++ x ∷ []) ≡ (list_any p xs || p x)
any_push p [] x = or-false (p x)
any_push p (y ∷ xs) x = first (p y) (any_push p xs x) where
  first : (b : Bool) → list_any p (xs ++ x ∷ []) ≡ (list_any p xs || p x)
      → (b || list_any p (xs ++ x ∷ [])) ≡ ((b || list_any p xs) || p x)
  first true rest = refl
  first false rest = rest

module _ (line : Line) (scripts : List Script) where
  pub answer_none : (text : List ℕ) → text ≡ []
      → IsMatchAnswer line scripts [] false false text
  answer_none text none = record {
    heads = [];
    are_heads = tt;
    impossible_is = refl;
    unsettled_is = refl;
    text_is = none;
  }

  pub answer_more : (records more : List SeenValues) (values : SeenValues) (head : Head)
      (impossible unsettled after_impossible after_unsettled : Bool) (text new : List ℕ)
      → more ≡ records ++ values ∷ []
      → after_impossible ≡ (impossible || is_impossible head.settled)
      → after_unsettled ≡ (unsettled || is_unsettled head.settled)
      → new ≡ text ++ head.text
      → IsMatchAnswer line scripts records impossible unsettled text
      → IsHead line scripts values head
      → IsMatchAnswer line scripts more after_impossible after_unsettled new
  answer_more records more values head impossible unsettled after_impossible after_unsettled text
      new more_is impossible_is unsettled_is new_is so_far is = record {
        heads = so_far.heads ++ head ∷ [];
        are_heads = subst (λ (rs : List SeenValues).
            AllZip (IsHead line scripts) rs (so_far.heads ++ head ∷ [])) (sym more_is)
            (zip_push (IsHead line scripts) records so_far.heads values head so_far.are_heads is);
        impossible_is = impossible_is
            ∙ ap (λ (b : Bool). b || is_impossible head.settled) so_far.impossible_is
            ∙ sym (any_push (λ (h : Head). is_impossible h.settled) so_far.heads head);
        unsettled_is = unsettled_is
            ∙ ap (λ (b : Bool). b || is_unsettled head.settled) so_far.unsettled_is
            ∙ sym (any_push (λ (h : Head). is_unsettled h.settled) so_far.heads head);
        text_is = new_is
            ∙ ap (λ (t : List ℕ). t ++ head.text) so_far.text_is
            ∙ ap (λ (t : List ℕ). concat (map (λ (h : Head). h.text) so_far.heads) ++ t)
            (sym (append-nil head.text))
            ∙ sym (concat-append (map (λ (h : Head). h.text) so_far.heads) (head.text ∷ []))
            ∙ ap concat (sym (map-append (λ (h : Head). h.text) so_far.heads (head ∷ [])));
      }
