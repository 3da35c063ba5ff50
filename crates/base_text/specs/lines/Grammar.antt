-- The grammar of a text of lines, and lines that are read where more are expected after them.
use Rattle.std.specs.Prelude.{◌≡◌, ◌++◌, ℕ, List, [], ◌∷◌, length}
use Rattle.std.specs.List.{All, flat_map}
use Rattle.base_memory.specs.{Gives.OfFault, declared.stopped.Stopped.Stopped}
use Rattle.base_text.specs.declared.lines.fault.TextFault.{TextFault}
use Rattle.base_text.specs.lines.Lines.{Lines, Goes, LeavesAt}

-- the line is this text alone, and says nothing more
abbrev pub IsFixed : {M : Type 0} → M → List ℕ → M → List ℕ → Type 0
IsFixed nothing text said line = (said ≡ nothing) × (line ≡ text)

-- where lines are expected, and what they say
pub record Grammar : Type 1 where
  pub Place : Type 0
  pub Said : Type 0
  -- what can stand at each place, where it says this, and what it opens
  pub stands : Place → Said → List ℕ → Type 0
  pub opens : Place → Said → List Place
  -- the places whose line is one text alone, which says nothing more and opens nothing
  pub fixed : List ℕ → Place
  pub nothing : Said
  pub there : (text : List ℕ) → stands (fixed text) nothing text
  pub alone : (text line : List ℕ) (said : Said) → stands (fixed text) said line
      → IsFixed nothing text said line
  pub opens_none : (text : List ℕ) → opens (fixed text) nothing ≡ []

-- lines of these places were read, which say this, where others are expected after them
abbrev pub Reads : (g : Grammar) → List g.Place → List g.Said → List g.Place → List ℕ → ℕ
    → List ℕ → ℕ → Type 0
Reads g places said later text first rest next =
    Goes g.stands g.opens (places ++ later) said text first later rest next

-- the fault, where these places are expected; want of memory says nothing
abbrev pub IsFault : (g : Grammar) → List g.Place → List ℕ → ℕ → Stopped TextFault → Type 0
IsFault g places text first why =
    OfFault (λ fault. LeavesAt g.stands g.opens places text first fault.line) why

-- ---- the parts of a text, one for each of several items

-- the places of an item's lines; what can be meant of an item, and what its lines say then
pub record Parts (X Y : Type 0) : Type 1 where
  pub grammar : Grammar
  pub places : X → List grammar.Place
  pub IsWhole : Y → Type 0
  pub said : Y → List grammar.Said

-- one line for each item, which says anything
abbrev pub one_line_each : {X Y : Type 0} (g : Grammar) → (X → g.Place) → (Y → g.Said) → Parts X Y
one_line_each g place says = record {
  grammar = g;
  places = λ item. place item ∷ [];
  IsWhole = λ meant. Unit {0};
  said = λ meant. says meant ∷ [];
}

-- the places of all items, and what all lines say
abbrev pub all_places : {X Y : Type 0} (p : Parts X Y) → List X → List p.grammar.Place
all_places p items = flat_map p.places items

abbrev pub all_said : {X Y : Type 0} (p : Parts X Y) → List Y → List p.grammar.Said
all_said p meant = flat_map p.said meant

-- ---- a whole text, between a first and a last line of its own

-- these places, and then a last line; what such lines say
abbrev pub ended : (g : Grammar) → List g.Place → List ℕ → List g.Place
ended g places last = places ++ g.fixed last ∷ []

abbrev pub end_said : (g : Grammar) → List g.Said → List g.Said
end_said g said = said ++ g.nothing ∷ []

-- the first line, those of all items in order, and the last
abbrev pub text_places : {X Y : Type 0} (p : Parts X Y) → List ℕ → List X → List ℕ
    → List p.grammar.Place
text_places p head items last =
    p.grammar.fixed head ∷ ended p.grammar (all_places p items) last

abbrev pub text_said : {X Y : Type 0} (p : Parts X Y) → List Y → List p.grammar.Said
text_said p meant = p.grammar.nothing ∷ end_said p.grammar (all_said p meant)

-- the bytes are the lines of these places, which say this, then the last line, and nothing more
abbrev pub IsEnded : (g : Grammar) → List g.Place → List ℕ → List g.Said → List ℕ → Type 0
IsEnded g places last said bytes =
    Lines g.stands g.opens (ended g places last) (end_said g said) bytes [] []

-- The bytes are a text of the items, which means this, one for each: they are its lines, each with
-- its line feed, and nothing more.
pub record IsText {X Y : Type 0} (p : Parts X Y) (head : List ℕ) (items : List X) (last : List ℕ)
    (meant : List Y) (bytes : List ℕ) : Type 0 where
  pub many : length meant ≡ length items
  pub each : All p.IsWhole meant
  pub lines : Lines p.grammar.stands p.grammar.opens (text_places p head items last)
      (text_said p meant) bytes [] []

-- line n, counted from 1, is the first that leaves the text's grammar
abbrev pub LeavesText : {X Y : Type 0} → Parts X Y → List ℕ → List X → List ℕ → List ℕ → ℕ → Type 0
LeavesText p head items last bytes n =
    LeavesAt p.grammar.stands p.grammar.opens (text_places p head items last) bytes 1 n

-- the fault of a whole text
abbrev pub IsTextFault : {X Y : Type 0} → Parts X Y → List ℕ → List X → List ℕ → List ℕ
    → Stopped TextFault → Type 0
IsTextFault p head items last bytes why =
    IsFault p.grammar (text_places p head items last) bytes 1 why
