-- What is answered of the records of a file: a line for each head, in file order.
use Rattle.std.specs.Prelude.{◌≡◌, ℕ, Bool, true, false, List, Some, map, slice_get}
use Rattle.std.specs.List.{AllZip, concat, list_any}
use Rattle.model_line.specs.{declared.line.Line.Line, declared.script.Script.Script}
use Rattle.judge_match.specs.declared.matching.seen.Seen.{Seen}
use Rattle.judge_match.specs.declared.matching.seen.Match.TheVariants.{Explained, Impossible, Unsettled}
use Rattle.judge_match.specs.matching.Waves.{SeenValues, seen_values}
use Rattle.judge_match.specs.{declared.matching.seen.Match.Match, matching.Match.IsMatch, matching.MatchText.match_line}

-- what is settled of a record, and its line
pub record Head : Type 0 where
  pub settled : Match
  pub text : List ℕ

pub record IsHead (line : Line) (scripts : List Script) (values : SeenValues) (head : Head)
    : Type 0 where
  pub seen : Seen
  pub seen_is : seen_values seen ≡ values
  pub script : Script
  pub script_is : slice_get scripts values.script ≡ Some script
  pub is : IsMatch line script seen head.settled
  pub text_is : head.text ≡ match_line line script head.settled

abbrev pub is_impossible : Match → Bool
is_impossible (Explained timing) = false
is_impossible (Impossible k trip t level derived) = true
is_impossible Unsettled = false

abbrev pub is_unsettled : Match → Bool
is_unsettled (Explained timing) = false
is_unsettled (Impossible k trip t level derived) = false
is_unsettled Unsettled = true

-- the lines of all records, whether some record is impossible, and whether some is open
pub record IsMatchAnswer
    (line : Line) (scripts : List Script) (records : List SeenValues) (impossible unsettled : Bool)
    (text : List ℕ) : Type 0 where
  pub heads : List Head
  pub are_heads : AllZip (IsHead line scripts) records heads
  pub impossible_is : impossible ≡ list_any (λ head. is_impossible head.settled) heads
  pub unsettled_is : unsettled ≡ list_any (λ head. is_unsettled head.settled) heads
  pub text_is : text ≡ concat (map (λ head. head.text) heads)
