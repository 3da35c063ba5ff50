-- The parts of the words of an axis.
use Rattle.std.specs.Prelude.{◌+◌, ◌==◌, ◌&&◌, ℕ, suc, Bool, List, [], ◌∷◌, drop, get_or, take}
use Rattle.std.specs.Prelude.{if◌then◌else◌}
use Rattle.std.specs.List.{after_first, before_first}

abbrev pub is_equals : ℕ → Bool
is_equals byte = byte == 61

abbrev pub is_colon : ℕ → Bool
is_colon byte = byte == 58

-- two points stand at the front
abbrev pub is_dotted : List ℕ → Bool
is_dotted text = (get_or text 0 0 == 46) && (get_or text 1 0 == 46)

-- where two points stand first; the length of the text where they stand nowhere
abbrev pub dots_in : List ℕ → ℕ
dots_in [] = 0
dots_in (byte ∷ text) = if is_dotted (byte ∷ text) then 0 else suc (dots_in text)

-- NAMES=NUMBERS
abbrev pub names_of : List ℕ → List ℕ
names_of words = before_first is_equals words

abbrev pub numbers_of : List ℕ → List ℕ
numbers_of words = after_first is_equals words

-- FROM..BEHIND, and in that TO:STEP
abbrev pub first_of : List ℕ → List ℕ
first_of numbers = take (dots_in numbers) numbers

abbrev pub behind_of : List ℕ → List ℕ
behind_of numbers = drop (dots_in numbers + 2) numbers

abbrev pub last_of : List ℕ → List ℕ
last_of numbers = before_first is_colon (behind_of numbers)

abbrev pub step_of : List ℕ → List ℕ
step_of numbers = after_first is_colon (behind_of numbers)
