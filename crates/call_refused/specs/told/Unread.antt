-- The lines of what is not done for another cause than what a file says.
use Rattle.std.specs.Prelude.{◌∷◌, ℕ, List, [], codes}
use Rattle.std.specs.List.{concat}
use Rattle.base_files.specs.Reasons.{words_of}
use Rattle.base_files.specs.declared.reason.Reason.{Reason}

-- a file that is not read, for this reason
abbrev pub unread_line : List ℕ → Reason → List ℕ
unread_line name reason =
    concat (name ∷ codes ": cannot be read: " ∷ words_of reason ∷ codes "\n" ∷ [])

abbrev pub out_of_memory : List ℕ
out_of_memory = codes "out of memory\n"
