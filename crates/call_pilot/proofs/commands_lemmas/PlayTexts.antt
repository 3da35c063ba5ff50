-- A line has exactly one play text for scripts and timings inside.
use Rattle.std.proofs.Common.{◌≡◌, ℕ, List, [], ◌∷◌, ◌++◌, refl, sym, ap, ◌∙◌}
use Rattle.std.proofs.lemmas.List.Elements.{All-head, All-tail}
use Rattle.std.specs.List.{All}
use Rattle.model_logic.specs.Choice.{Choice, DelaysFromOne, IsInside}
use Rattle.model_logic.specs.Histories.{History, IsLineHistory, IsSameHistory}
use Rattle.model_line.specs.{declared.line.Line.Line, declared.script.Script.Script}
use Rattle.run_changes.specs.{rows.PlayRows.run_rows, rows.RowLaws.run_rows-same}
use Rattle.model_timing.specs.Choice.{timing_choice}
use Rattle.model_timing.specs.{Inside.IsTimingInside, Timing.TimingValues}
use Rattle.model_timing.specs.NamedValues.{NamedValues}
use Rattle.call_pilot.specs.commands.Play.{IsPlayText, IsRunText, IsTimingText, Pieces, play_header}

-- where each element of a list has a piece, there is a text of pieces
pieces_exist : {X : Type 0} (IsPiece : X → List ℕ → Type 0) (P : X → Type 0)
    → ((x : X) → P x → (piece : List ℕ) × IsPiece x piece)
    → (xs : List X) → All P xs → (text : List ℕ) × Pieces IsPiece xs text
pieces_exist IsPiece P piece [] all = ([], refl)
pieces_exist IsPiece P piece (x ∷ rest) all =
    let first = piece x (All-head P x rest all) in
    let others = pieces_exist IsPiece P piece rest (All-tail P x rest all) in
    (first.0 ++ others.0, (first.0, others.0, first.1, others.1, refl))

-- where each element has one piece, there is one text
pieces_once : {X : Type 0} (IsPiece : X → List ℕ → Type 0) (P : X → Type 0)
    → ((x : X) (a b : List ℕ) → P x → IsPiece x a → IsPiece x b → a ≡ b)
    → (xs : List X) (a b : List ℕ) → All P xs → Pieces IsPiece xs a → Pieces IsPiece xs b
    → a ≡ b
pieces_once IsPiece P once [] a b all p q = p ∙ sym q
pieces_once IsPiece P once (x ∷ rest) a b all p q =
    let first = once x p.0 q.0 (All-head P x rest all) p.2 q.2 in
    let others = pieces_once IsPiece P once rest p.1 q.1 (All-tail P x rest all) p.3 q.3 in
    p.4 ∙ ap (λ z. z ++ p.1) first ∙ ap (λ z. q.0 ++ z) others ∙ sym q.4

-- each element of any list
pub any : {X : Type 0} (xs : List X) → All (λ x. Unit {0}) xs
any xs k d lt = tt

module _
    (exists : (line : Line) (script : Script) (choice : Choice) → DelaysFromOne line choice
    → (h : History) × IsLineHistory line script choice h)
    (only : (line : Line) (script : Script) (choice : Choice) (g h : History)
    → DelaysFromOne line choice → IsLineHistory line script choice g
    → IsLineHistory line script choice h → IsSameHistory line g h)
    (from_one : (line : Line) (choice : Choice) → IsInside line choice → DelaysFromOne line choice)
    (choice_inside : (line : Line) (timing : TimingValues) → IsTimingInside line timing
    → IsInside line (timing_choice line timing))
    (line : Line) where
  delayed : (timing : NamedValues) → IsTimingInside line timing.timing
      → DelaysFromOne line (timing_choice line timing.timing)
  delayed timing inside =
      from_one line (timing_choice line timing.timing) (choice_inside line timing.timing inside)

  run_exists : (timing : NamedValues) (script : Script) → IsTimingInside line timing.timing
      → (text : List ℕ) × IsRunText line timing script text
  run_exists timing script inside =
      let found = exists line script (timing_choice line timing.timing) (delayed timing inside) in (
        run_rows timing.name script.name line found.0,
        record { history = found.0; is_history = found.1; text_is = refl },
      )

  run_once : (timing : NamedValues) (script : Script) (a b : List ℕ)
      → IsTimingInside line timing.timing → IsRunText line timing script a
      → IsRunText line timing script b → a ≡ b
  run_once timing script a b inside p q =
      p.text_is
      ∙ run_rows-same timing.name script.name line p.history q.history
      (only line script (timing_choice line timing.timing) p.history q.history
      (delayed timing inside) p.is_history q.is_history)
      ∙ sym q.text_is

  abbrev IsIn : NamedValues → Type 0
  IsIn timing = IsTimingInside line timing.timing

  pub play_exists : (scripts : List Script) (timings : List NamedValues) → All IsIn timings
      → (text : List ℕ) × IsPlayText line scripts timings text
  play_exists scripts timings inside =
      let rows = pieces_exist (IsTimingText line scripts) IsIn
      (λ timing is. pieces_exist (IsRunText line timing) (λ script. Unit {0})
      (λ script _. run_exists timing script is) scripts (any scripts))
      timings inside in
      (play_header ++ rows.0, record { rows = rows.0; are_rows = rows.1; text_is = refl })

  pub play_once : (scripts : List Script) (timings : List NamedValues) (a b : List ℕ)
      → All IsIn timings → IsPlayText line scripts timings a → IsPlayText line scripts timings b
      → a ≡ b
  play_once scripts timings a b inside p q =
      p.text_is
      ∙ ap (λ z. play_header ++ z) (pieces_once (IsTimingText line scripts) IsIn
      (λ timing x y is. pieces_once (IsRunText line timing) (λ script. Unit {0})
      (λ script u v _. run_once timing script u v is) scripts x y (any scripts))
      timings p.rows q.rows inside p.are_rows q.are_rows)
      ∙ sym q.text_is
