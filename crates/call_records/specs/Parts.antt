-- The two parts of a record: its configuration and its data, in files of their own or in one.
use Rattle.std.specs.Prelude.{◌∷◌, ◌++◌, ℕ, List, [], Option, None, Some, Result, Ok, Err}
use Rattle.base_memory.specs.Gives.{◌>>=◌}
use Rattle.file_comtrade.specs.{Sections.Parts, Sections.parts_of}
use Rattle.file_comtrade.specs.declared.sections.SectionFault.{SectionFault}
use Rattle.file_records.specs.tracks.Tracks.{BytesValues}

-- a file, with its name
pub record NamedText : Type 0 where
  pub name : List ℕ
  pub bytes : List ℕ

abbrev pub named : List ℕ → List ℕ → NamedText
named name bytes = record { name = name; bytes = bytes }

-- The files of a recorder: a configuration and its data, or a record in one file.
pub record RecorderFiles : Type 0 where
  pub config : NamedText
  pub samples : Option NamedText

abbrev pub files_with : NamedText → Option NamedText → RecorderFiles
files_with config samples = record { config = config; samples = samples }

-- a part of a record: the name of its file, its bytes, and how many lines stand before them there
pub record Part : Type 0 where
  pub name : List ℕ
  pub bytes : List ℕ
  pub line : ℕ

pub record RecordParts : Type 0 where
  pub config : Part
  pub samples : Part

abbrev pub bytes_in : RecordParts → BytesValues
bytes_in own = record { config = own.config.bytes; samples = own.samples.bytes }

-- a whole file
abbrev pub whole : NamedText → Part
whole file = record { name = file.name; bytes = file.bytes; line = 0 }

-- sections of a file of that name
abbrev pub in_sections : List ℕ → Parts → RecordParts
in_sections name parts = record {
  config = record { name = name; bytes = parts.config; line = parts.config_line };
  samples = record { name = name; bytes = parts.samples; line = parts.samples_line };
}

-- a file whose sections are at fault
pub record SectionRefusal : Type 0 where
  pub name : List ℕ
  pub why : SectionFault

abbrev pub sections_said : List ℕ → Result Parts SectionFault → Result RecordParts SectionRefusal
sections_said name (Ok parts) = Ok (in_sections name parts)
sections_said name (Err why) = Err (record { name = name; why = why })

abbrev pub parts_with : NamedText → Option NamedText → Result RecordParts SectionRefusal
parts_with config (Some samples) = Ok (record { config = whole config; samples = whole samples })
parts_with config None = sections_said config.name (parts_of config.bytes)

-- the parts of the record in these files
abbrev pub parts_in : RecorderFiles → Result RecordParts SectionRefusal
parts_in files = parts_with files.config files.samples

-- those of all recorders, behind those that are there; the first fault ends it
abbrev pub parts_from : List RecorderFiles → List RecordParts
    → Result (List RecordParts) SectionRefusal
parts_from [] done = Ok done
parts_from (f ∷ fs) done = parts_in f >>= λ own. parts_from fs (done ++ own ∷ [])
