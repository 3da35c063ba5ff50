-- Laws of lines of bytes, and of lines read one after another where they are expected.
use Rattle.std.specs.Prelude.{◌≡◌, ◌&&◌, ℕ, ◌+◌, Bool, true, false, cond, List, [], ◌∷◌, ◌++◌}
use Rattle.std.specs.Prelude.{length, take, drop, refl}
use Rattle.std.specs.List.{position_or_len, prefix_len}
use Rattle.std.proofs.Common.{sym, ◌∙◌, ap, subst, arith, length-append}
use Rattle.std.proofs.lemmas.List.{take_at, drop_at}
use Rattle.base_text.specs.lines.Lines.{is_feed, is_no_feed, is_one_line, BeginsWith, Lines, CannotGoOn}
use Rattle.base_text.specs.lines.Lines.{LeavesAt, Goes}

pub both_true : (a b : Bool) → (a && b) ≡ true → (a ≡ true) × (b ≡ true)
both_true true b h = (refl, h)
both_true false b h = cc

-- ---- the first line

feed_after : (line rest : List ℕ) → is_one_line line ≡ true
    → position_or_len is_feed (line ++ 10 ∷ rest) ≡ length line
feed_after [] rest whole = refl
feed_after (byte ∷ line) rest whole =
    let both = both_true (is_no_feed byte) (is_one_line line) whole in
    ap (λ (other : Bool). cond other (1 + prefix_len is_no_feed (line ++ 10 ∷ rest)) 0) both.0
    ∙ (let more = feed_after line rest both.1 in omega arith)

-- it ends at the first line feed
pub line_ends : (text line rest : List ℕ) → BeginsWith text line rest
    → position_or_len is_feed text ≡ length line
line_ends text line rest b = ap (position_or_len is_feed) b.is ∙ feed_after line rest b.whole

-- a text begins with at most one line
pub one_line : (text line rest other later : List ℕ) → BeginsWith text line rest
    → BeginsWith text other later → line ≡ other
one_line text line rest other later b c =
    sym (take_at line (10 ∷ rest) (length line) refl)
    ∙ ap (take (length line)) (sym b.is ∙ c.is)
    ∙ ap (λ n. take n (other ++ 10 ∷ later))
    (sym (line_ends text line rest b) ∙ line_ends text other later c)
    ∙ take_at other (10 ∷ later) (length other) refl

pub one_rest : (text line rest other later : List ℕ) → BeginsWith text line rest
    → BeginsWith text other later → rest ≡ later
one_rest text line rest other later b c =
    let same : line ≡ other = one_line text line rest other later b c in
    let whole : line ++ 10 ∷ rest ≡ line ++ 10 ∷ later =
    sym b.is ∙ c.is ∙ ap (λ (l : List ℕ). l ++ 10 ∷ later) (sym same) in
    let tails : 10 ∷ rest ≡ 10 ∷ later =
    sym (drop_at line (10 ∷ rest) (length line) refl) ∙ ap (drop (length line)) whole
    ∙ drop_at line (10 ∷ later) (length line) refl in
    cc

-- ---- lines where they are expected

module _ {K M : Type 0} (stands : K → M → List ℕ → Type 0) (opens : K → M → List K) where
  -- lines, and then more lines
  pub lines_then : (places : List K) (said : List M) (text : List ℕ) (mid : List K) (at : List ℕ)
      (more : List M) (left : List K) (rest : List ℕ)
      → Lines stands opens places said text mid at → Lines stands opens mid more at left rest
      → Lines stands opens places (said ++ more) text left rest
  lines_then places [] text mid at more left rest first next =
      let P : List K → Type 0 = λ p. Lines stands opens p more text left rest in
      let Q : List ℕ → Type 0 = λ t. Lines stands opens mid more t left rest in
      subst P (sym first.0) (subst Q (sym first.1) next)
  lines_then [] (m ∷ said) text mid at more left rest first next = absurd first
  lines_then (place ∷ places) (m ∷ said) text mid at more left rest first next = (
    first.0,
    (
      first.1.0,
      (
        first.1.1.0,
        (
          first.1.1.1.0,
          lines_then (opens place m ++ places) said first.1.0 mid at more left rest
              first.1.1.1.1 next,
        ),
      ),
    ),
  )

  pub goes_then : (places : List K) (said : List M) (text : List ℕ) (a : ℕ) (mid : List K)
      (at : List ℕ) (b : ℕ) (more : List M) (left : List K) (rest : List ℕ) (c : ℕ)
      → Goes stands opens places said text a mid at b
      → Goes stands opens mid more at b left rest c
      → Goes stands opens places (said ++ more) text a left rest c
  goes_then places said text a mid at b more left rest c g h = record {
    lines = lines_then places said text mid at more left rest g.lines h.lines;
    number = omega (arith, g.number, h.number, length-append said more);
  }

  -- what leaves after some lines leaves
  pub leaves_later : (places : List K) (said : List M) (text : List ℕ) (a : ℕ) (mid : List K)
      (at : List ℕ) (b n : ℕ) → Goes stands opens places said text a mid at b
      → LeavesAt stands opens mid at b n → LeavesAt stands opens places text a n
  leaves_later places said text a mid at b n g l = record {
    said = said ++ l.said;
    left = l.left;
    rest = l.rest;
    before = lines_then places said text mid at l.said l.left l.rest g.lines l.before;
    stops = l.stops;
    number = omega (arith, g.number, l.number, length-append said l.said);
  }

  -- the next line cannot stand
  pub leaves_here : (places : List K) (text : List ℕ) (a : ℕ) → CannotGoOn stands places text
      → LeavesAt stands opens places text a a
  leaves_here places text a stops = record {
    said = [];
    left = places;
    rest = text;
    before = (refl, refl);
    stops = stops;
    number = omega arith;
  }

  -- one line
  pub goes_one : (place : K) (places : List K) (m : M) (text line rest : List ℕ) (a b : ℕ)
      → BeginsWith text line rest → stands place m line → b ≡ a + 1
      → Goes stands opens (place ∷ places) (m ∷ []) text a (opens place m ++ places) rest b
  goes_one place places m text line rest a b begins is next = record {
    lines = (line, (rest, (begins, (is, (refl, refl)))));
    number = next;
  }

  -- a line that cannot stand
  pub refused : (place : K) (places : List K) (text line rest : List ℕ) (a : ℕ)
      → BeginsWith text line rest → ((m : M) → ¬ (stands place m line))
      → LeavesAt stands opens (place ∷ places) text a a
  refused place places text line rest a begins never =
      leaves_here (place ∷ places) text a (λ m other later b is.
      let P : List ℕ → Type 0 = λ l. stands place m l in
      never m (subst P (sym (one_line text line rest other later begins b)) is))

  -- no line at all
  pub absent : (place : K) (places : List K) (text : List ℕ) (a : ℕ)
      → ((line rest : List ℕ) → ¬ (BeginsWith text line rest))
      → LeavesAt stands opens (place ∷ places) text a a
  absent place places text a never =
      leaves_here (place ∷ places) text a (λ m other later b is. never other later b)
