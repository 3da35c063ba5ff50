-- The words of obligations that are lost beyond a range, or left in it.
use Rattle.std.specs.Prelude.{◌<◌, ◌+◌, ◌^◌, ◌++◌, ⊤, ℕ, Bool, true, false, not, List, [], ◌∷◌, codes, decimal}
use Rattle.std.specs.Prelude.{length, nat_le, take, if◌then◌else◌}
use Rattle.std.specs.List.{list_any}
use Rattle.model_line.specs.{declared.line.Line.Line, declared.script.Script.Script}
use Rattle.judge_margins.specs.map.MapText.{obligation_said, obligations_said}
use Rattle.judge_choose.specs.{declared.range.Bound.Bound, declared.range.Range.Range}
use Rattle.judge_choose.specs.declared.range.Bound.TheVariants.{Limit, Lost, Open}

-- the place of what is lost fits into 32 bits
abbrev pub IsSmallBound : Bound → Type 0
IsSmallBound Limit = ⊤
IsSmallBound (Lost place) = place < 2 ^ 32
IsSmallBound Open = ⊤

-- Behind obligations that are not held. Where the trips of the line are one-railed some choice fails
-- each; else it is open whether one does.
abbrev pub open_mark : Bool → List ℕ
open_mark true = []
open_mark false = codes " (open)"

-- what is lost one tick beyond an end, as `SCRIPT/TERMINAL`
abbrev pub lost_words : Line → List Script → Bool → Bound → List ℕ
lost_words line scripts one_railed Limit = []
lost_words line scripts one_railed (Lost place) =
    obligation_said line scripts place ++ open_mark one_railed
lost_words line scripts one_railed Open = []

-- ---- what is left

abbrev pub is_left : Bool → Bool
is_left kept = not kept

abbrev pub has_left : Range → Bool
has_left range = list_any is_left range.kept.items

-- the places, from this one on, of those that are not kept
abbrev pub left_from : ℕ → List Bool → List ℕ
left_from place [] = []
left_from place (true ∷ kept) = left_from (place + 1) kept
left_from place (false ∷ kept) = place ∷ left_from (place + 1) kept

abbrev pub left_of : List Bool → List ℕ
left_of kept = left_from 0 kept

-- how many there are, where there are more than three
abbrev pub count_mark : ℕ → List ℕ
count_mark count = if nat_le count 3 then [] else codes ";.." ++ decimal count

-- the first three, and how many there are where there are more
abbrev pub left_words : Line → List Script → Bool → List ℕ → List ℕ
left_words line scripts one_railed [] = []
left_words line scripts one_railed (place ∷ places) =
    (obligations_said line scripts (take 3 (place ∷ places))
    ++ count_mark (length (place ∷ places))) ++ open_mark one_railed
