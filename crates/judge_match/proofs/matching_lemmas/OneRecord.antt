-- Each record that a file says is one of the line and of its scripts.
use Rattle.std.proofs.Common.{◌≡◌, ◌+◌, ℕ, true, false, List, [], ◌∷◌, Ok, length, map, subst}
use Rattle.std.proofs.lemmas.List.Elements.{All-nil, All-cons, All-head, All-tail}
use Rattle.std.specs.List.{All}
use Rattle.model_line.specs.{declared.line.Line.Line, declared.script.Script.Script}
use Rattle.base_records.specs.{Fields.are_fields, Records.records_of, RecordFile.after_header}
use Rattle.base_records.specs.{RecordFile.after_records, RecordFile.said_in}
use Rattle.base_memory.specs.CheckLaws.{choice_passed, passed, same_ok}
use Rattle.base_records.specs.SoFar.{SoFar, all_of, nothing}
use Rattle.judge_match.specs.declared.matching.fault.SeenFault.{SeenFault}
use Rattle.judge_match.specs.matching.Heads.{HeadValues, AllHeadsNamed, IsNamed}
use Rattle.judge_match.specs.matching.Records.{after_record, heads_in, heads_of, seen_file}
use Rattle.judge_match.specs.{matching.Recorded.IsRecordOf, matching.Row.header_record}
use Rattle.judge_match.specs.matching.Waves.{SeenValues, records_said, seen_of}
use Rattle.judge_match.proofs.matching_lemmas.NamedLaws.{record_named}
use Rattle.judge_match.proofs.matching_lemmas.WaveLaws.{are_waves, known}

module _ (line : Line) (scripts : List Script) where
  -- the records from number n on
  after_named : (s : SoFar HeadValues) (n : ℕ) (rows : List (List (List ℕ)))
      (t : SoFar HeadValues) → AllHeadsNamed (length scripts) s
      → after_records (seen_file line scripts) s n rows ≡ Ok t → AllHeadsNamed (length scripts) t
  unfolding after_records
  after_named s n [] t named e =
      subst (AllHeadsNamed (length scripts)) (same_ok {F = SeenFault} s t e) named
  after_named s n (fields ∷ rest) t named e =
      let p = passed (after_record line scripts s n fields)
      (λ next. after_records (seen_file line scripts) next (n + 1) rest) t e in
      after_named p.value (n + 1) rest t
      (record_named line scripts s n fields p.value p.was named) p.rest

  header_named : (rows : List (List (List ℕ))) (t : SoFar HeadValues)
      → after_header (seen_file line scripts) rows ≡ Ok t → AllHeadsNamed (length scripts) t
  header_named [] t e = absurd (cc)
  header_named (fields ∷ rest) t e =
      after_named nothing 2 (fields ∷ rest) t (All-nil (IsNamed (length scripts))) e

  said_named : (rows : List (List (List ℕ))) (t : SoFar HeadValues)
      → said_in (seen_file line scripts) rows ≡ Ok t → AllHeadsNamed (length scripts) t
  said_named [] t e = absurd (cc)
  said_named (fields ∷ rest) t e =
      header_named rest t
      (choice_passed (are_fields header_record fields) (after_header (seen_file line scripts) rest)
      _ t e)

  heads_named : (rows : List (List (List ℕ))) (heads : List HeadValues)
      → heads_in line scripts rows ≡ Ok heads → All (IsNamed (length scripts)) heads
  unfolding heads_in
  heads_named rows heads e =
      let p = passed (said_in (seen_file line scripts) rows) (λ s. Ok (all_of s)) heads e in
      subst (All (IsNamed (length scripts)))
      (same_ok {F = SeenFault} (all_of p.value) heads p.rest) (said_named rows p.value p.was)

  -- what was seen under a head
  one_record : (head : HeadValues) → IsNamed (length scripts) head
      → IsRecordOf line scripts (seen_of line head)
  one_record head named = record {
    script = named;
    keys = are_waves line head.changes false;
    trips = are_waves line head.changes true;
    known_keys = known line head.changes false;
    known_trips = known line head.changes true;
  }

  each_record : (heads : List HeadValues) → All (IsNamed (length scripts)) heads
      → All (IsRecordOf line scripts) (map (seen_of line) heads)
  each_record [] named = All-nil (IsRecordOf line scripts)
  each_record (head ∷ heads) named =
      All-cons (IsRecordOf line scripts) (seen_of line head) (map (seen_of line) heads)
      (one_record head (All-head (IsNamed (length scripts)) head heads named))
      (each_record heads (All-tail (IsNamed (length scripts)) head heads named))

  pub records_of_the_line : (bytes : List ℕ) (records : List SeenValues)
      → records_said line scripts bytes ≡ Ok records → All (IsRecordOf line scripts) records
  records_of_the_line bytes records e =
      let p = passed (heads_of line scripts bytes) (λ heads. Ok (map (seen_of line) heads)) records
      e in
      subst (All (IsRecordOf line scripts))
      (same_ok {F = SeenFault} (map (seen_of line) p.value) records p.rest)
      (each_record p.value (heads_named (records_of bytes) p.value p.was))
