-- Where the first line of a text ends.
use Rattle.std.proofs.Common.{◌≡◌, ◌&&◌, ℕ, ◌+◌, ◌<◌, Bool, true, false, cond, List, [], ◌∷◌, ◌++◌}
use Rattle.std.proofs.Common.{length, take, drop, get_or, refl, sym, ◌∙◌, ap, subst, arith}
use Rattle.std.proofs.Common.{length-append}
use Rattle.std.proofs.Math.Numerals.{one-add}
use Rattle.std.proofs.lemmas.Bool.{eqb-true}
use Rattle.std.proofs.lemmas.List.Sums.{split_at_first, passes_at_first}
use Rattle.std.specs.List.{position_or_len, before_first, after_first}
use Rattle.base_text.specs.lines.Lines.{is_feed, is_no_feed, is_one_line, BeginsWith}
use Rattle.base_text.specs.lines.LineLaws.{line_ends}

-- where it is the whole text, there is no line feed
pub no_line : (text line rest : List ℕ) → position_or_len is_feed text ≡ length text
    → ¬ (BeginsWith text line rest)
no_line text line rest all b =
    absurd (omega (
      arith,
      line_ends text line rest b,
      ap length b.is,
      length-append line (10 ∷ rest),
    ))

whole_by : (other : Bool) (byte : ℕ) (text : List ℕ) → is_no_feed byte ≡ other
    → is_one_line (before_first is_feed text) ≡ true
    → is_one_line (take (cond other (1 + position_or_len is_feed text) 0) (byte ∷ text)) ≡ true
whole_by true byte text is rest = rw one-add (ap (λ b. b && is_one_line (before_first is_feed
    text)) is ∙ rest)
whole_by false byte text is rest = refl

before_is_whole : (text : List ℕ) → is_one_line (before_first is_feed text) ≡ true
before_is_whole [] = refl
before_is_whole (byte ∷ text) =
    whole_by (is_no_feed byte) byte text refl (before_is_whole text)

-- what ends at the first line feed is a line
pub line_is : (text : List ℕ) (end : ℕ) → end ≡ position_or_len is_feed text → end < length text
    → BeginsWith text (take end text) (drop (end + 1) text)
line_is text end is inside =
    let P : ℕ → Type 0 = λ n. BeginsWith text (take n text) (drop (n + 1) text) in
    let here : position_or_len is_feed text < length text = omega arith in
    let feed : get_or text (position_or_len is_feed text) 0 ≡ 10 =
    eqb-true _ 10 (passes_at_first is_feed text 0 here) in
    subst P (sym is) (record {
      whole = before_is_whole text;
      is = split_at_first is_feed text 0 here
          ∙ ap (λ (b : ℕ). before_first is_feed text ++ b ∷ after_first is_feed text) feed;
    })
