-- Why a record in one file is refused, as the line on standard error says it.
use Rattle.std.specs.Prelude.{◌∷◌, ℕ, List, [], codes, decimal}
use Rattle.file_comtrade.specs.declared.sections.SectionFault.{SectionFault}
use Rattle.file_comtrade.specs.declared.sections.SectionFault.TheVariants as fault
use Rattle.call_records.specs.{Lines.Refusal, Lines.exactly, Parts.SectionRefusal, RecordFaults.place_line}

abbrev pub section_line : SectionFault → ℕ
section_line fault.NoConfig = 1
section_line (fault.NoData n) = n
section_line (fault.Twice n) = n
section_line (fault.Behind n) = n
section_line (fault.Wrong n) = n
section_line (fault.Count n found) = n

abbrev pub section_words : SectionFault → List (List ℕ)
section_words fault.NoConfig = codes "there is no line --- file type: CFG ---" ∷ []
section_words (fault.NoData n) =
    codes "no line --- file type: DAT ASCII --- or --- file type: DAT BINARY: N --- stands behind this one" ∷ []
section_words (fault.Twice n) = codes "a second configuration" ∷ []
section_words (fault.Behind n) = codes "a section stands behind the data, which are the last one" ∷ []
section_words (fault.Wrong n) =
    codes "neither DAT ASCII nor DAT BINARY: N, with N the number of bytes" ∷ []
section_words (fault.Count n found) =
    codes "not the number of bytes of the data: " ∷ decimal found ∷ codes " stand behind this line" ∷ []

abbrev pub section_refusal : SectionRefusal → List ℕ
section_refusal refused =
    place_line refused.name (section_line refused.why) 1 (section_words refused.why)

abbrev pub refused_section : SectionRefusal → Refusal
refused_section refused = exactly (section_refusal refused)
