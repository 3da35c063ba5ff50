-- What a page is asked to say: its title, what made it and when, and the files that were read.
use Rattle.std.specs.Prelude.{◌≡◌, ◌++◌, ℕ, List, [], ◌∷◌, Option, codes, decimal, map, nat_le}
use Rattle.std.specs.Prelude.{option_map, if◌then◌else◌}
use Rattle.draw_page.specs.declared.page.FileText.{FileText}
use Rattle.call_facts.specs.Hashes.{IsHashOf}
use Rattle.call_page.specs.declared.said.{Asked.Asked, Source.Source}

-- the name of a file, as it is asked for, and its bytes
pub record SourceFile : Type 0 where
  pub name : List ℕ
  pub bytes : List ℕ

pub record PageWords : Type 0 where
  pub title : List ℕ
  pub made : List ℕ
  pub date : Option (List ℕ)
  pub sources : List SourceFile

abbrev pub source_file : Source → SourceFile
source_file source = record { name = source.name.now; bytes = source.bytes.now }

abbrev pub words_of : Asked → PageWords
words_of asked = record {
  title = asked.title.now;
  made = asked.made.now;
  date = option_map (λ date. date.now) asked.date;
  sources = map source_file asked.sources.now;
}

-- a file as it was read, byte for byte, and the hash of these bytes
pub record IsSourceFile (source : SourceFile) (file : FileText) : Type 0 where
  pub name : file.name.items ≡ source.name
  pub text : file.text.items ≡ source.bytes
  pub hash : IsHashOf source.bytes file.sha256.items

-- ---- what a page of so many scripts leaves out

unfoldable pub times_said : ℕ → List ℕ
times_said scripts =
    codes "The study comes to " ++ decimal scripts ++ codes " scripts. How far times may move is worked out here for at most 64, as `study scripts --part` gives them; `study margins` does it for 4,096."

abbrev pub times_note : ℕ → List (List ℕ)
times_note scripts = if nat_le scripts 64 then [] else times_said scripts ∷ []

abbrev pub digest_note : ℕ → List (List ℕ)
digest_note scripts =
    if nat_le scripts 4096 then []
    else codes "The digest of the settled trees is worked out for at most 4,096 scripts." ∷ []

abbrev pub notes_of : ℕ → List (List ℕ)
notes_of scripts = times_note scripts ++ digest_note scripts
