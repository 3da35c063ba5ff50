-- A part that is told strip by strip.
use Rattle.std.proofs.Common.{◌++◌, ◌≡◌, List, [], ◌∷◌, ⊎_elim, inl, inr, subst, sym}
use Rattle.std.proofs.lemmas.List.Elements.{All-append, All-nil, All-cons}
use Rattle.model_history.specs.Rails.{Ends}
use Rattle.model_borders.specs.Borders.{AreLengthsIn}
use Rattle.judge_borders.specs.Halves.{AreWithin, ShareAnEnd}
use Rattle.judge_times.specs.declared.{fault.Uncertain.Uncertain, part.Part.Part}
use Rattle.judge_times.specs.{Answers.AreAnswers, Answers.IsAnswer, Stripped.AreStrips}
use Rattle.judge_times.proofs.Wholes.{has_left, has_right, wider}

-- nothing is told yet
pub no_strips : (of : Uncertain) (whole : List Ends) → AreStrips of whole whole []
no_strips of whole = record { each = All-nil (IsAnswer of whole); cover = λ n x are. inr are }

-- one strip more, which shares an end with what is left then
pub strip_more : (of : Uncertain) (whole rest lower upper : List Ends) (a b : List Part)
    → ShareAnEnd rest lower upper → AreWithin whole lower → AreStrips of whole rest a
    → AreAnswers of lower b → AreStrips of whole upper (a ++ b)
strip_more of whole rest lower upper a b share within strips told = record {
  each = All-append (IsAnswer of whole) a b strips.each (wider of whole lower b within told.each);
  cover = λ n x are.
      ⊎_elim (λ has. inl (has_left n x a b has))
      (λ left. ⊎_elim (λ low. inl (has_right n x a b (told.cover n x low))) (λ up. inr up)
      (share n x left))
      (strips.cover n x are);
}

-- and what is left at last
pub strips_whole : (of : Uncertain) (whole rest : List Ends) (a : List Part) (own : Part)
    → AreStrips of whole rest a → own.lengths.items ≡ rest → IsAnswer of whole own
    → AreAnswers of whole (a ++ own ∷ [])
strips_whole of whole rest a own strips same is = record {
  each = All-append (IsAnswer of whole) a (own ∷ []) strips.each
      (All-cons (IsAnswer of whole) own [] is (All-nil (IsAnswer of whole)));
  cover = λ n x are.
      ⊎_elim (λ has. has_left n x a (own ∷ []) has)
      (λ left. has_right n x a (own ∷ [])
      (inl (subst (λ (l : List Ends). AreLengthsIn n l x) (sym same) left)))
      (strips.cover n x are);
}
