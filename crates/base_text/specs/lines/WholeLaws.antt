-- Laws of whole texts: what they say, and the first line that leaves their grammar.
use Rattle.std.proofs.Common.{◌≡◌, ℕ, List, [], ◌∷◌, refl, ap, drop}
use Rattle.std.proofs.lemmas.List.{append_cancel_right}
use Rattle.base_text.specs.lines.Grammar.{Grammar, Parts, IsText, LeavesText, all_said, text_places}
use Rattle.base_text.specs.lines.Grammar.{text_said}
use Rattle.base_text.specs.lines.ReadingLaws.{same_reading, same_text, same_number, not_whole}

-- a line says one thing at a place
abbrev pub SaysOneThing : Grammar → Type 0
SaysOneThing g = (place : g.Place) (m n : g.Said) (line : List ℕ) → g.stands place m line
    → g.stands place n line → m ≡ n

-- what is said at a place has one line
abbrev pub HasOneLine : Grammar → Type 0
HasOneLine g = (place : g.Place) (m : g.Said) (line other : List ℕ) → g.stands place m line
    → g.stands place m other → line ≡ other

module _ {X Y : Type 0} (p : Parts X Y) (head : List ℕ) (items : List X) (last : List ℕ) where
  pub one_meaning : SaysOneThing p.grammar → (meant others : List Y) (bytes : List ℕ)
      → IsText p head items last meant bytes → IsText p head items last others bytes
      → all_said p meant ≡ all_said p others
  one_meaning one meant others bytes is other =
      let g = p.grammar in
      let r = same_reading g.stands g.opens one (text_places p head items last)
      (text_said p meant) (text_said p others) bytes [] [] [] [] is.lines tt other.lines tt in
      append_cancel_right (all_said p meant) (all_said p others) (g.nothing ∷ [])
      (ap (drop 1) r.said)

  pub same_bytes : HasOneLine p.grammar → (meant : List Y) (bytes others : List ℕ)
      → IsText p head items last meant bytes → IsText p head items last meant others
      → bytes ≡ others
  same_bytes one meant bytes others is other =
      let g = p.grammar in
      same_text g.stands g.opens one (text_places p head items last) (text_said p meant) bytes [] []
      others [] [] is.lines other.lines refl

  pub leaves_at_one_line : SaysOneThing p.grammar → (bytes : List ℕ) (n m : ℕ)
      → LeavesText p head items last bytes n → LeavesText p head items last bytes m → n ≡ m
  leaves_at_one_line one bytes n m is other =
      let g = p.grammar in
      same_number g.stands g.opens one (text_places p head items last) bytes 1 n m is other

  pub is_no_text : SaysOneThing p.grammar → (meant : List Y) (bytes : List ℕ) (n : ℕ)
      → LeavesText p head items last bytes n → ¬ (IsText p head items last meant bytes)
  is_no_text one meant bytes n is other =
      let g = p.grammar in
      not_whole g.stands g.opens one (text_places p head items last) bytes 1 n
      (text_said p meant) is other.lines
