-- What the words and the files fix of an answer, and of the end of a call.
use Rattle.std.specs.Prelude.{◌≡◌, ℕ, List, Option, None, Some, ⊤}
use Rattle.std.specs.Io.KnownBytes.{Appends}
use Rattle.call_pilot.specs.top.Clauses.{Call}
use Rattle.call_pilot.specs.top.Words as words
use Rattle.call_pilot.specs.top.Words.{Command}
use Rattle.call_files.specs.declared.stop.Status.{Status}

-- the text of a net and of a line file may be spelt in more than one way, every other in one alone
abbrev pub IsTextFixed : Option Command → Type 0
IsTextFixed None = ⊤
IsTextFixed (Some (words.one_file command line)) = ⊥
IsTextFixed (Some (words.two_files command line scripts)) = ⊤
IsTextFixed (Some (words.three_files command line scripts third)) = ⊤
IsTextFixed (Some (words.bench n)) = ⊤

-- two calls end alike: with the same status, with the same line for err, and with out grown by the
-- same text
pub record AreAlike (one other : Call) (s t : Status) (first second : List ℕ) : Type 0 where
  pub status : s ≡ t
  pub line : first ≡ second
  pub text : IsTextFixed one.command → (text : List ℕ)
      × Appends one.out_old.written one.out_new.written text
      × Appends other.out_old.written other.out_new.written text
