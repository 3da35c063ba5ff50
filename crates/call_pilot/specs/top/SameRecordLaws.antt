-- What the bytes of a record file say rests on the values of the line and of the scripts alone.
use Rattle.std.proofs.Common.{◌≡◌, ◌+◌, ℕ, cond, List, [], ◌∷◌, Option, Some, Result, Ok}
use Rattle.std.proofs.Common.{true, false, length, map, refl, sym, ◌∙◌, ap}
use Rattle.std.proofs.Math.Path.{fun_ext}
use Rattle.std.specs.Prelude.{◌==◌, nat_lt, if◌then◌else◌}
use Rattle.std.specs.List.{position_from, range_with_len}
use Rattle.std.specs.{Option.ok_or, Str.bytes_eq}
use Rattle.std.proofs.lemmas.Map.Entries.{option_filter}
use Rattle.base_memory.specs.Gives.{◌>>=◌, passes_or}
use Rattle.base_records.specs.{SoFar.SoFar, SoFar.all_of, SoFar.nothing}
use Rattle.base_records.specs.{RecordFile.RecordFile, RecordFile.said_in, Records.records_of}
use Rattle.base_text.specs.store.Number.{number_of}
use Rattle.model_line.specs.{declared.line.Line.Line, declared.script.Script.Script}
use Rattle.model_line.specs.{declared.line.Terminal.Terminal, SetBounds.SameButParams}
use Rattle.model_names.specs.NumbersByName.{script_named}
use Rattle.file_tables.specs.script.Values.{values_of}
use Rattle.judge_match.specs.declared.matching.fault.SeenFault.{SeenFault}
use Rattle.judge_match.specs.declared.matching.fault.SeenFault.TheVariants as fault
use Rattle.base_records.specs.Fields.{level_named}
use Rattle.judge_match.specs.matching.Checks.{change_of, comes_later, is_head, level_before}
use Rattle.judge_match.specs.matching.Checks.{name_for, other_level, place_of, signal_of}
use Rattle.judge_match.specs.{matching.Heads.HeadValues, matching.Heads.with_change, matching.Heads.with_head}
use Rattle.judge_match.specs.{matching.Records.after_name, matching.Records.after_record, matching.Records.after_row}
use Rattle.judge_match.specs.{matching.Records.heads_in, matching.Records.heads_of, matching.Records.seen_file}
use Rattle.judge_match.specs.{matching.Row.Row, matching.Row.header_record, matching.Row.row_in, matching.Waves.SeenValues}
use Rattle.judge_match.specs.matching.Waves.{records_said, seen_of, wave_of}
use Rattle.call_pilot.specs.top.SameTextLaws.{script_names_same}

-- a script is found by its name
by_names : (name : List ℕ) (n : ℕ) (xs : List Script)
    → position_from (λ (s : Script). bytes_eq s.name name) n xs
    ≡ position_from (λ (l : List ℕ). bytes_eq l name) n (map (λ (s : Script). s.name) xs)
by_names name n [] = refl
by_names name n (x ∷ xs) =
    ap (λ (o : Option ℕ). cond (bytes_eq x.name name) (Some n) o) (by_names name (n + 1) xs)

pub named_same : (xs ys : List Script) → map values_of ys ≡ map values_of xs → (name : List ℕ)
    → script_named ys name ≡ script_named xs name
named_same xs ys same name =
    by_names name 0 ys
    ∙ ap (λ (names : List (List ℕ)). position_from (λ (l : List ℕ). bytes_eq l name) 0 names)
    (script_names_same xs ys same)
    ∙ sym (by_names name 0 xs)

module _ (a b : Line) (same : SameButParams a b) where
  row_same : (s : SoFar HeadValues) (n : ℕ) (row : Row) (script : ℕ)
      → after_row b s n row script ≡ after_row a s n row script
  unfolding after_row
  row_same s n row script =
      let made : List Terminal → ℕ → Result (SoFar HeadValues) SeenFault = λ terminals horizon.
      ok_or (option_filter (λ (h : HeadValues). h.script == script) s.latest) (fault.Order n)
      >>= λ head.
      ok_or (place_of (position_from (λ (t : Terminal). bytes_eq t.name row.terminal) 0 terminals)
      (signal_of row.signal)) (fault.BadPlace n) >>= λ place.
      ok_or (option_filter (λ t. nat_lt t horizon) (number_of row.tick)) (fault.Ticks n) >>= λ t.
      passes_or (comes_later head.latest t place) (fault.Later n) >>= λ later.
      ok_or (other_level (level_before head place) (level_named row.level)) (fault.Level n)
      >>= λ level. Ok (with_change s head (change_of place t level)) in
      ap (λ (ts : List Terminal). made ts b.horizon) same.terminals
      ∙ ap (made a.terminals.items) same.horizon

  name_same : (s : SoFar HeadValues) (n : ℕ) (row : Row) (script : ℕ)
      → after_name b s n row script ≡ after_name a s n row script
  name_same s n row script =
      ap (λ (r : Result (SoFar HeadValues) SeenFault).
      if is_head row then Ok (with_head s script) else r) (row_same s n row script)

  seen_same : (head : HeadValues) → seen_of b head ≡ seen_of a head
  seen_same head =
      let made : ℕ → ℕ → SeenValues = λ terminals horizon. record {
        script = head.script;
        keys = map (wave_of horizon head.changes false) (range_with_len 0 terminals);
        trips = map (wave_of horizon head.changes true) (range_with_len 0 terminals);
      } in
      ap (λ (ts : List Terminal). made (length ts) b.horizon) same.terminals
      ∙ ap (made (length a.terminals.items)) same.horizon

  module _ (xs ys : List Script) (scripts : map values_of ys ≡ map values_of xs) where
    record_same : (s : SoFar HeadValues) (n : ℕ) (fields : List (List ℕ))
        → after_record b ys s n fields ≡ after_record a xs s n fields
    unfolding after_record
    record_same s n fields =
        let made : (List ℕ → Option ℕ)
        → (SoFar HeadValues → ℕ → Row → ℕ → Result (SoFar HeadValues) SeenFault)
        → Result (SoFar HeadValues) SeenFault = λ named after.
        ok_or (row_in fields) (fault.Fields n) >>= λ row.
        ok_or (name_for s (is_head row) (named row.name)) (fault.BadName n) >>= λ script.
        after s n row script in
        ap (λ (named : List ℕ → Option ℕ). made named (after_name b))
        (fun_ext (named_same xs ys scripts))
        ∙ ap (made (script_named xs))
        (fun_ext (λ s. fun_ext (λ n. fun_ext (λ row. fun_ext (λ script.
        name_same s n row script)))))

    file_same : seen_file b ys ≡ seen_file a xs
    file_same =
        let made : (SoFar HeadValues → ℕ → List (List ℕ) → Result (SoFar HeadValues) SeenFault)
        → RecordFile (SoFar HeadValues) SeenFault = λ after.
        record {
          header = header_record;
          start = nothing;
          after = after;
          no_header = fault.Header;
          no_record = fault.Empty;
        } in
        ap made (fun_ext (λ s. fun_ext (λ n. fun_ext (λ fields. record_same s n fields))))

    heads_same : (bytes : List ℕ) → heads_of b ys bytes ≡ heads_of a xs bytes
    unfolding heads_in
    heads_same bytes =
        ap (λ (file : RecordFile (SoFar HeadValues) SeenFault).
        said_in file (records_of bytes) >>= λ s. Ok (all_of s)) file_same

    pub records_same : (bytes : List ℕ) → records_said b ys bytes ≡ records_said a xs bytes
    records_same bytes =
        ap (λ (r : Result (List HeadValues) SeenFault).
        r >>= λ heads. Ok (map (seen_of b) heads)) (heads_same bytes)
        ∙ ap (λ (seen : HeadValues → SeenValues).
        heads_of a xs bytes >>= λ heads. Ok (map seen heads)) (fun_ext seen_same)
