-- The words that are a command, and the files that it reads.
use Rattle.std.specs.Prelude.{◌∷◌, ◌&&◌, ℕ, List, [], Option, None, Some, codes, nat_le, option_map}
use Rattle.std.specs.Prelude.{if◌then◌else◌}
use Rattle.std.specs.Str.{bytes_eq}
use Rattle.base_text.specs.store.Number.{number_of}
use Rattle.call_files.specs.Files.{NamedFile, named}
use Rattle.call_files.specs.declared.stop.File.{File}
use Rattle.call_files.specs.declared.stop.File.TheVariants as file
use Rattle.call_pilot.specs.declared.top.words.OneFile.{OneFile}
use Rattle.call_pilot.specs.declared.top.words.OneFile.TheVariants as one
use Rattle.call_pilot.specs.declared.top.words.ThreeFiles.{ThreeFiles}
use Rattle.call_pilot.specs.declared.top.words.ThreeFiles.TheVariants as three

-- a command over a line file and a scripts file, with what else its words say
pub data TwoFiles : Type 0 where
  certify : TwoFiles
  report : TwoFiles
  -- of the parameter of this name
  margin : List ℕ → TwoFiles
  -- to this number of splits
  split : ℕ → TwoFiles

-- a command, by the files that it reads, with their names
pub data Command : Type 0 where
  -- a line file
  one_file : OneFile → List ℕ → Command
  -- a line file and a scripts file
  two_files : TwoFiles → List ℕ → List ℕ → Command
  -- a line file, a scripts file, and a file of the command's own
  three_files : ThreeFiles → List ℕ → List ℕ → List ℕ → Command
  -- no file, and a number of scripts
  bench : ℕ → Command

-- a number from 1 to 64
abbrev pub bench_size : Option ℕ → Option ℕ
bench_size None = None
bench_size (Some n) = if nat_le 1 n && nat_le n 64 then Some n else None

-- a number from 0 to 8
abbrev pub split_depth : Option ℕ → Option ℕ
split_depth None = None
split_depth (Some n) = if nat_le n 8 then Some n else None

-- the command of two words
abbrev pub command_of_two : List ℕ → List ℕ → Option Command
command_of_two word name =
    if bytes_eq word (codes "net") then Some (one_file one.Net name)
    else if bytes_eq word (codes "line") then Some (one_file one.Line name)
    else if bytes_eq word (codes "migrate") then Some (one_file one.Migrate name)
    else if bytes_eq word (codes "bench") then option_map bench (bench_size (number_of name))
    else None

-- the command of three words
abbrev pub command_of_three : List ℕ → List ℕ → List ℕ → Option Command
command_of_three word first second =
    if bytes_eq word (codes "certify") then Some (two_files certify first second)
    else if bytes_eq word (codes "report") then Some (two_files report first second)
    else None

-- the command of four words
abbrev pub command_of_four : List ℕ → List ℕ → List ℕ → List ℕ → Option Command
command_of_four word first second third =
    if bytes_eq word (codes "play") then Some (three_files three.Play first second third)
    else if bytes_eq word (codes "check") then Some (three_files three.Check first second third)
    else if bytes_eq word (codes "match") then Some (three_files three.Match first second third)
    else if bytes_eq word (codes "recheck") then Some (three_files three.Recheck first second third)
    else if bytes_eq word (codes "margin") then Some (two_files (margin third) first second)
    else if bytes_eq word (codes "split")
    then option_map (λ n. two_files (split n) first second) (split_depth (number_of third))
    else None

-- the command that these words are
abbrev pub command_of : List (List ℕ) → Option Command
command_of [] = None
command_of (word ∷ []) = None
command_of (word ∷ first ∷ []) = command_of_two word first
command_of (word ∷ first ∷ second ∷ []) = command_of_three word first second
command_of (word ∷ first ∷ second ∷ third ∷ []) = command_of_four word first second third
command_of (word ∷ first ∷ second ∷ third ∷ more ∷ rest) = None

-- ---- the files

-- the file of a command's own
abbrev pub own_file : ThreeFiles → File
own_file three.Play = file.Timings
own_file three.Check = file.Cert
own_file three.Match = file.Record
own_file three.Recheck = file.Trees

-- the files of a command in word order
abbrev pub files_of : Command → List NamedFile
files_of (bench n) = []
files_of (one_file command line) = named file.Line line ∷ []
files_of (two_files command line scripts) =
    named file.Line line ∷ named file.Scripts scripts ∷ []
files_of (three_files command line scripts third) =
    named file.Line line ∷ named file.Scripts scripts ∷ named (own_file command) third ∷ []

-- the files of the command that the words are, if they are one
abbrev pub files_named : Option Command → List NamedFile
files_named None = []
files_named (Some command) = files_of command
