-- The search for the slack of each end over the obligations of one more script.
use Rattle.std.specs.Prelude.{◌≡◌, ◌≤◌, ◌<◌, ◌+◌, ◌-◌, ◌/◌, ℕ, Bool, List, Option, None, Some}
use Rattle.std.specs.Prelude.{MatchOption, length, slice_get, nat_lt, if◌then◌else◌}
use Rattle.model_logic.specs.Choice.{Box}
use Rattle.judge_report.specs.declared.upper_end.Lost.{Lost}
use Rattle.judge_margins.specs.{declared.margins.ask.Ask.Ask, declared.margins.bracket.Bracket.Bracket}
use Rattle.judge_margins.specs.{declared.margins.end.End.End, declared.margins.end.Side.Side, margins.Each.OneForEach}
use Rattle.judge_margins.specs.{declared.margins.group.Group.Group, margins.Groups.AllKept, margins.Groups.IsFirstOf}
use Rattle.judge_margins.specs.margins.Widened.{widened, param_at, side_at}

-- some obligation is lost over the box, and this is the first
pub record IsLostOver (of : Group) (box : Box) (told : Option Lost) : Type 0 where
  pub first : Lost
  pub is : told ≡ Some first
  pub lost : IsFirstOf of box first

-- all are held up to `near`; one beyond `far` some is lost, or `far` is this slack
pub record IsBracket (of : Group) (param : ℕ) (side : Side) (slack : ℕ) (b : Bracket) : Type 0 where
  pub ordered : b.near ≤ b.far
  pub within : b.far ≤ slack
  pub held : AllKept of (widened of.compiled.line.now param side b.near)
  pub lost : b.far < slack → IsLostOver of (widened of.compiled.line.now param side (b.far + 1))
      b.lost

-- and it is no wider than this
pub record IsNarrow (of : Group) (width place slack : ℕ) (b : Bracket) : Type 0 where
  pub is : IsBracket of (param_at place) (side_at place) slack b
  pub narrow : b.far ≤ b.near + width

-- one for each end
abbrev pub AreBrackets : Group → List End → ℕ → List Bracket → Type 0
AreBrackets of ends width brackets =
    OneForEach (λ place end b. IsNarrow of width place end.slack b) ends brackets (length ends)

-- however wide
abbrev pub AreBracketsOf : Group → List End → List Bracket → Type 0
AreBracketsOf of ends brackets =
    OneForEach (λ place end b. IsBracket of (param_at place) (side_at place) end.slack b) ends
    brackets (length ends)

-- before anything is asked
abbrev pub fresh_bracket : ℕ → Bracket
fresh_bracket slack = record { near = 0; far = slack; lost = None }

abbrev pub AreOpen : List End → List Bracket → Type 0
AreOpen ends brackets =
    OneForEach (λ _ end b. b ≡ fresh_bracket end.slack) ends brackets (length ends)

-- the number to be tried next: the whole slack, or the middle
abbrev pub tried : Bool → Bracket → ℕ
tried whole b = if whole then b.far else (b.near + b.far + 1) / 2

abbrev pub ask_for : Bool → ℕ → Bracket → Ask
ask_for whole place b = record { place = place; by = tried whole b }

-- a bracket that is open has its ask at this place of the asks; one that is closed has none
abbrev pub IsSlot : Bool → List Ask → ℕ → Bracket → Option ℕ → Type 0
IsSlot whole asks place b slot =
    MatchOption slot (b.far ≤ b.near)
    (λ j. (b.near < b.far) × (slice_get asks j ≡ Some (ask_for whole place b)))

abbrev pub AreSlots : Bool → List Bracket → List (Option ℕ) → List Ask → ℕ → Type 0
AreSlots whole brackets slots asks n =
    OneForEach (λ place b slot. IsSlot whole asks place b slot) brackets slots n

-- an ask is that of an open bracket
pub record IsAskOf (whole : Bool) (brackets : List Bracket) (ask : Ask) : Type 0 where
  pub bracket : Bracket
  pub at : slice_get brackets ask.place ≡ Some bracket
  pub wide : bracket.near < bracket.far
  pub is : ask ≡ ask_for whole ask.place bracket

abbrev pub AreAsksOf : Bool → List Bracket → List Ask → Type 0
AreAsksOf whole brackets asks =
    (j : ℕ) (ask : Ask) → slice_get asks j ≡ Some ask → IsAskOf whole brackets ask

-- what is left where all are held at n, or this is lost first
abbrev pub half_of : ℕ → Bracket → Option Lost → Bracket
half_of n b None = record { near = n; far = b.far; lost = b.lost }
half_of n b (Some o) = record { near = b.near; far = n - 1; lost = Some o }

-- what is left by what is told at the slot
abbrev pub IsHalf : Bool → List (Option Lost) → Bracket → Option ℕ → Bracket → Type 0
IsHalf whole told b slot new =
    MatchOption slot (new ≡ b)
    (λ j. (t : Option Lost) → slice_get told j ≡ Some t → new ≡ half_of (tried whole b) b t)

abbrev pub AreHalves : Bool → List (Option ℕ) → List (Option Lost) → List Bracket → List Bracket
    → Type 0
AreHalves whole slots told before after =
    OneForEach (λ place old new. (slot : Option ℕ) → slice_get slots place ≡ Some slot
    → IsHalf whole told old slot new) before after (length before)

-- the widths that are left: a half, where the middles are tried
abbrev pub left_of : Bool → ℕ → ℕ
left_of whole width = if whole then width else width / 2

-- the end where these obligations are held up to `near`
abbrev pub settled : Bracket → End → End
settled b end = if nat_lt b.near end.slack then record { slack = b.near; lost = b.lost } else end

abbrev pub AreSettled : List Bracket → List End → List End → Type 0
AreSettled brackets before after =
    OneForEach (λ place old new. (b : Bracket) → slice_get brackets place ≡ Some b
    → new ≡ settled b old) before after (length before)

-- the ends over these obligations too
pub record AreNarrowed (of : Group) (before after : List End) : Type 0 where
  pub brackets : List Bracket
  pub are : AreBrackets of before 0 brackets
  pub settle : AreSettled brackets before after
