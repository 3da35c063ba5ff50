-- Texts of pieces, and what a writer has written of one.
use Rattle.std.proofs.Common.{◌≡◌, ℕ, ◌+◌, ◌<◌, ◌≤◌, List, [], ◌∷◌, ◌++◌, length, get_or, drop}
use Rattle.std.proofs.Common.{refl, sym, ap, ◌∙◌, subst}
use Rattle.std.proofs.lemmas.List.{append_assoc, append-nil, drop_all, drop_more}
use Rattle.call_pilot.specs.commands.Play.{Pieces}
use Rattle.call_answer.specs.{Sinks.SinkView, Sinks.GrewByAll, Sinks.WriteStops}
use Rattle.call_answer.specs.SinkLaws.{grew_both}
use Rattle.base_text.specs.declared.store.sink.PutFailed.{PutFailed}
use Rattle.base_memory.specs.declared.stopped.Stopped.{Stopped}
use Rattle.call_answer.specs.SinkLaws.{grew_none}
use Rattle.call_pilot.proofs.commands_lemmas.Writing.{stops_more, stops_then}

-- the pieces of the first i elements are written, and those of the others are left
pub record Written {X : Type 0} (IsPiece : X → List ℕ → Type 0) (xs : List X)
    (old now : SinkView) (text : List ℕ) (i : ℕ) : Type 0 where
  pub done : List ℕ
  pub rest : List ℕ
  pub whole : text ≡ done ++ rest
  pub left : Pieces IsPiece (drop i xs) rest
  pub grew : GrewByAll old now done

module _ {X : Type 0} (IsPiece : X → List ℕ → Type 0) (xs : List X) where
  pub written_none : (s : SinkView) (text : List ℕ) → Pieces IsPiece xs text
      → Written IsPiece xs s s text 0
  written_none s text pieces =
      record { done = []; rest = text; whole = refl; left = pieces; grew = grew_none s }

  -- what is left begins with the piece of the next element
  next_piece : (i : ℕ) (x : X) (rest : List ℕ) → i < length xs → get_or xs i x ≡ x
      → Pieces IsPiece (drop i xs) rest
      → (piece : List ℕ) × (more : List ℕ)
      × IsPiece x piece × Pieces IsPiece (drop (i + 1) xs) more × (rest ≡ piece ++ more)
  next_piece i x rest lt here left =
      subst (λ ys. Pieces IsPiece ys rest)
      (drop_more xs i x lt ∙ ap (λ y. y ∷ drop (i + 1) xs) here) left

  pub written_more : {old now new : SinkView} {text : List ℕ} (i : ℕ) (x : X)
      → i < length xs → get_or xs i x ≡ x
      → ((piece : List ℕ) → IsPiece x piece → GrewByAll now new piece)
      → Written IsPiece xs old now text i → Written IsPiece xs old new text (i + 1)
  written_more i x lt here grow w =
      let next = next_piece i x w.rest lt here w.left in
      record {
        done = w.done ++ next.0;
        rest = next.1;
        whole = w.whole ∙ ap (λ z. w.done ++ z) next.4 ∙ sym (append_assoc w.done next.0 next.1);
        left = next.3;
        grew = grew_both w.grew (grow next.0 next.2);
      }

  pub written_stops : {old now new : SinkView} {text : List ℕ} {why : Stopped PutFailed} (i : ℕ) (x : X)
      → i < length xs → get_or xs i x ≡ x
      → ((piece : List ℕ) → IsPiece x piece → WriteStops now new piece why)
      → Written IsPiece xs old now text i → WriteStops old new text why
  written_stops {old} {now} {new} {text} {why} i x lt here stops w =
      let next = next_piece i x w.rest lt here w.left in
      subst (λ z. WriteStops old new z why)
      (sym (w.whole ∙ ap (λ z. w.done ++ z) next.4))
      (stops_then w.grew (stops_more next.1 (stops next.0 next.2)))

  pub written_all : {old now : SinkView} {text : List ℕ} (i : ℕ) → length xs ≤ i
      → Written IsPiece xs old now text i → GrewByAll old now text
  written_all {old} {now} {text} i le w =
      let empty : w.rest ≡ [] =
      subst (λ ys. Pieces IsPiece ys w.rest) (drop_all i xs le) w.left in
      subst (λ z. GrewByAll old now z)
      (sym (w.whole ∙ ap (λ z. w.done ++ z) empty ∙ append-nil w.done)) w.grew
