-- Laws of whole lines: the first one, those of a front, and what is so of each line under a script.
use Rattle.std.proofs.Common.{◌≡◌, ℕ, Bool, true, false, cond, List, [], ◌∷◌}
use Rattle.std.proofs.Common.{◌++◌}
use Rattle.std.proofs.Common.{refl, sym, ◌∙◌, ap, subst, append_assoc}
use Rattle.std.proofs.lemmas.Bool.{not-true}
use Rattle.std.proofs.lemmas.List.{append-nil}
use Rattle.std.proofs.lemmas.List.Elements.{All-head, All-tail}
use Rattle.std.specs.List.{All}
use Rattle.base_text.specs.lines.Lines.{BeginsWith, is_feed, is_no_feed, is_one_line}
use Rattle.base_text.specs.lines.LineLaws.{both_true}
use Rattle.cert_claims.specs.text.Grammar.{script_text}
use Rattle.cert_own.specs.WholeLines.{IsScriptLine, StandsUnder, lines_from, whole_lines}

first_from : (done line rest : List ℕ) → is_one_line line ≡ true
    → lines_from done (line ++ 10 ∷ rest) ≡ (done ++ line) ∷ whole_lines rest
first_from done [] rest whole =
    ap (λ (l : List ℕ). l ∷ whole_lines rest) (sym (append-nil done))
first_from done (byte ∷ line) rest whole =
    let both = both_true (is_no_feed byte) (is_one_line line) whole in
    ap (λ (o : Bool). cond o (done ∷ whole_lines (line ++ 10 ∷ rest))
    (lines_from (done ++ byte ∷ []) (line ++ 10 ∷ rest))) (not-true (is_feed byte) both.0)
    ∙ first_from (done ++ byte ∷ []) line rest both.1
    ∙ ap (λ (l : List ℕ). l ∷ whole_lines rest) (append_assoc done (byte ∷ []) line)

-- the first line, and then the others
pub first_whole : (text line rest : List ℕ) → BeginsWith text line rest
    → whole_lines text ≡ line ∷ whole_lines rest
first_whole text line rest begins =
    ap whole_lines begins.is ∙ first_from [] line rest begins.whole

-- ---- a front of a text

abbrev Fronts : List (List ℕ) → List (List ℕ) → Type 0
Fronts all front = (more : List (List ℕ)) × (all ≡ front ++ more)

by_feed : (o : Bool) (done : List ℕ) (all other front less : List (List ℕ)) → Fronts all front
    → Fronts other less → Fronts (cond o (done ∷ all) other) (cond o (done ∷ front) less)
by_feed true done all other front less f g = (f.0, ap (λ (l : List (List ℕ)). done ∷ l) f.1)
by_feed false done all other front less f g = g

front_from : (done front rest : List ℕ)
    → Fronts (lines_from done (front ++ rest)) (lines_from done front)
front_from done [] rest = (lines_from done rest, refl)
front_from done (byte ∷ front) rest =
    by_feed (is_feed byte) done (whole_lines (front ++ rest))
    (lines_from (done ++ byte ∷ []) (front ++ rest)) (whole_lines front)
    (lines_from (done ++ byte ∷ []) front) (front_from [] front rest)
    (front_from (done ++ byte ∷ []) front rest)

-- its whole lines are the first ones
pub front_whole : (front rest : List ℕ) → Fronts (whole_lines (front ++ rest)) (whole_lines front)
front_whole front rest = front_from [] front rest

-- ---- lines that are good where they stand

module _ (Good : List ℕ → List ℕ → Type 0) where
  -- each up to the next script line, under a script of this name
  abbrev pub GoodUnder : List ℕ → List (List ℕ) → Type 0
  GoodUnder name [] = Unit {0}
  GoodUnder name (line ∷ lines) = Good name line × (¬ (IsScriptLine line) → GoodUnder name lines)

  -- each under its script line
  abbrev pub AllGood : List (List ℕ) → Type 0
  AllGood [] = Unit {0}
  AllGood (line ∷ lines) =
      ((name : List ℕ) → line ≡ script_text name → GoodUnder name lines) × AllGood lines

  under_front : (name : List ℕ) (front more : List (List ℕ)) → GoodUnder name (front ++ more)
      → GoodUnder name front
  under_front name [] more good = tt
  under_front name (line ∷ front) more good =
      (good.0, λ other. under_front name front more (good.1 other))

  pub good_front : (front more : List (List ℕ)) → AllGood (front ++ more) → AllGood front
  good_front [] more good = tt
  good_front (line ∷ front) more good = (
    λ name is. under_front name front more (good.0 name is),
    good_front front more good.1,
  )

  good_after : (before lines : List (List ℕ)) → AllGood (before ++ lines) → AllGood lines
  good_after [] lines good = good
  good_after (line ∷ before) lines good = good_after before lines good.1

  good_between : (name line : List ℕ) (between after : List (List ℕ))
      → All (λ other. ¬ (IsScriptLine other)) between
      → GoodUnder name (between ++ line ∷ after) → Good name line
  good_between name line [] after none good = good.0
  good_between name line (other ∷ between) after none good =
      let P : List ℕ → Type 0 = λ o. ¬ (IsScriptLine o) in
      good_between name line between after (All-tail P other between none)
      (good.1 (All-head P other between none))

  pub good_there : (lines : List (List ℕ)) (name line : List ℕ) → AllGood lines
      → StandsUnder lines name line → Good name line
  good_there lines name line good stands =
      good_between name line stands.between stands.after stands.nearest
      ((good_after stands.before (script_text name ∷ (stands.between ++ line ∷ stands.after))
      (subst AllGood stands.lines_are good)).0 name refl)
