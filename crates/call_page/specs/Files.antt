-- The files of a page, and their digests.
use Rattle.std.specs.Prelude.{◌≡◌, ◌+◌, ℕ, List, [], ◌∷◌, Ok, length, map}
use Rattle.model_line.specs.{declared.line.Line.Line, declared.script.Script.Script}
use Rattle.file_line.specs.{LineFiles.line_of, Lines.line_values}
use Rattle.file_tables.specs.script.Values.{values_of}
use Rattle.file_study.specs.sweeps.Parts.{part, parts_of}
use Rattle.file_tables.specs.script.ReadBack.{SaysScripts}
use Rattle.judge_verdict.specs.verdict.OneEach.{OneEach}
use Rattle.draw_page.specs.declared.page.{Digest.Digest, FileText.FileText}
use Rattle.call_tables.specs.{declared.row.Row.Row, Written.trees_text}
use Rattle.call_facts.specs.Hashes.{IsHashOf}

pub record IsLineFile (line : Line) (file : FileText) : Type 0 where
  pub says : line_of file.text.items ≡ Ok (line_values line)
  pub hash : IsHashOf file.text.items file.sha256.items

-- part n of the scripts, counted from 0
pub record IsScriptsFile (line : Line) (scripts : List Script) (n : ℕ) (file : FileText)
    : Type 0 where
  pub says : SaysScripts line (map values_of (part (n + 1) scripts)) file.text.items
  pub hash : IsHashOf file.text.items file.sha256.items

-- the line file, and the first n scripts files of the line
pub record AreFilesSoFar (line : Line) (scripts : List Script) (n : ℕ) (files : List FileText)
    : Type 0 where
  pub first : FileText
  pub others : List FileText
  pub are : files ≡ first ∷ others
  pub line_file : IsLineFile line first
  pub scripts_files : OneEach (IsScriptsFile line scripts) n others

-- all of them, 64 scripts in each but the last
abbrev pub AreFiles : Line → List Script → List FileText → Type 0
AreFiles line scripts files = AreFilesSoFar line scripts (parts_of (length scripts)) files

-- the hash of the text of the trees and timings by which the obligations are settled
pub record AreDigests (line : Line) (scripts : List Script) (rows : List Row)
    (digests : List Digest) : Type 0 where
  pub one : Digest
  pub are : digests ≡ one ∷ []
  pub hash : IsHashOf (trees_text line scripts rows) one.sha256.items
