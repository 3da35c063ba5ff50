-- Why nothing is chosen: the exit status, and the line that says it.
use Rattle.std.specs.Prelude.{ℕ, List, [], codes, get_or}
use Rattle.call_work.specs.map.Denials.{pieces_of, unknown_pieces}
use Rattle.call_work.specs.declared.choose.denial.ChooseDenial.{ChooseDenial}
use Rattle.call_work.specs.declared.choose.denial.ChooseDenial.TheVariants as denial

-- 9 where a parameter is unknown, else 4
abbrev pub choose_denial_status : ChooseDenial → ℕ
choose_denial_status (denial.Unknown place number near) = 9
choose_denial_status (denial.Delay place name) = 4

-- the word at a place
abbrev pub word_at : List (List ℕ) → ℕ → List ℕ
word_at words place = get_or words place []

abbrev pub choose_denial_pieces : List (List ℕ) → ChooseDenial → List (List ℕ)
choose_denial_pieces words (denial.Unknown place number near) =
    unknown_pieces (word_at words place) number near
choose_denial_pieces words (denial.Delay place name) =
    pieces_of (word_at words place) name [] (codes " is a delay, which choose does not take")
    (codes ": move it by study map")
