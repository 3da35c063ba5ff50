use Rattle.std.proofs.Common.{◌≡◌, ◌<◌, ◌++◌, ℕ, List, [], ◌∷◌, length, map, get_or, sym, ◌∙◌, ap}
use Rattle.std.proofs.Common.{refl, subst}
use Rattle.std.proofs.lemmas.List.{get_or-map}
use Rattle.std.specs.Prelude.{IfSome, None, OnOk, Option, Some, decimal, option_map}
use Rattle.csv.specs.Writing.{row_text, default_writer}
use Rattle.model_line.specs.{declared.line.Line.Line, declared.script.Script.Script}
use Rattle.model_line.specs.NamesByNumber.{kind_text, script_name, terminal_name}
use Rattle.file_study.specs.declared.sweeps.group.Group.{Group}
use Rattle.file_study.specs.sweeps.Places.{PlaceValues, place_in, place_values}
use Rattle.call_verdicts.specs.Records.{answer_word, fails_for, fault_name, number_text, swept_text}
use Rattle.call_verdicts.specs.Records.{trip_text}
use Rattle.call_shots.specs.Table.{deadline_text, shot_record}
use Rattle.call_shots.specs.declared.rows.Row.{Row}
use Rattle.call_shots.proofs.table.push_row.Goals as goal

-- the record of a row, by its fields
record_of : (line : Line) (scripts : List Script) (groups : List Group) (r : Row)
    (n fault at kind due answer every place name swept terminal k1 k2 t1 t2 : List ℕ)
    → n ≡ decimal r.number → fault ≡ fault_name (place_in groups r.found.script)
    → at ≡ terminal_name line r.found.terminal
    → kind ≡ get_or (map (λ s. kind_text s.kind) scripts) r.found.script []
    → due ≡ get_or (map (λ s. deadline_text line.tick_us s.kind s.deadline) scripts) r.found.script []
    → answer ≡ answer_word r.found.standing → every ≡ fails_for r.found.standing
    → place ≡ number_text (place_in groups r.found.script) → name ≡ script_name scripts r.found.script
    → swept ≡ swept_text line.tick_us (place_in groups r.found.script)
    → terminal ≡ terminal_name line r.terminal → k1 ≡ trip_text line.tick_us r.window.key_may
    → k2 ≡ trip_text line.tick_us r.window.key_must → t1 ≡ trip_text line.tick_us r.window.trip_may
    → t2 ≡ trip_text line.tick_us r.window.trip_must
    → n ∷ fault ∷ at ∷ kind ∷ due ∷ answer ∷ every ∷ place ∷ name ∷ swept ∷ terminal ∷ k1 ∷ k2 ∷ t1
    ∷ t2 ∷ [] ≡ shot_record line scripts groups r
unfolding shot_record
record_of line scripts groups r n fault at kind due answer every place name swept terminal k1 k2 t1 t2
    a b c d e f g h i j k l m o p =
    rw (a, b, c, d, e, f, g, h, i, j, k, l, m, o, p)

-- what is told of the script that is read
field_there : (f : Script → List ℕ) (scripts : List Script) (i : ℕ) (d : Script)
    → i < length scripts → f (get_or scripts i d) ≡ get_or (map f scripts) i []
field_there f scripts i d within = sym (get_or-map f scripts i d [] within)

-- the words of a number that a text is
number_said : (number : Option ℕ) (said text : List ℕ) → IfSome number (λ n. said ≡ decimal n)
    → (number ≡ None → said ≡ []) → IfSome number (λ n. text ≡ decimal n)
    → (number ≡ None → text ≡ []) → said ≡ text
number_said None said text some none is is_none = none refl ∙ sym (is_none refl)
number_said (Some n) said text some none is is_none = some ∙ sym is

pub returns : goal.returns
returns c =
    let line : Line = c.args.cases.now.compiled.line.now in
    let scripts : List Script = c.args.cases.now.scripts.now in
    let groups : List Group = c.args.cases.now.groups.now in
    let row : Row = c.args.row.now in
    let script : Script = c.index-cases-row.result in
    let i : ℕ = row.found.script in
    let place : Option PlaceValues = option_map place_values c.place_of_script-place.result in
    let is : place ≡ place_in groups i = c.place_of_script-place.ensures.is in
    subst (λ (said : List (List ℕ)). OnOk c.push_record.result
    (c.push_record.new.text.items ≡ c.args.text.now.items ++ row_text default_writer said))
    (record_of line scripts groups row c.as_bytes.result.now c.fault_name-fault.result.now
    c.name_of_terminal-at.result.now c.kind_word-kind_said.result.now c.as_slice.result.now
    c.answer_word-answer.result.now c.fails_for_word-fails_for.result.now c.number_words.result.now
    c.bytes.result.now c.as_slice-2.result.now c.name_of_terminal-terminal.result.now
    c.as_slice-3.result.now c.as_slice-4.result.now c.as_slice-5.result.now c.as_slice-6.result.now
    (c.as_bytes.ensures.value ∙ c.format.ensures.text)
    (c.fault_name-fault.ensures ∙ ap fault_name is)
    c.name_of_terminal-at.ensures
    (c.kind_word-kind_said.ensures
    ∙ field_there (λ s. kind_text s.kind) scripts i script c.requires)
    (c.as_slice.ensures.value ∙ c.in_ok-due.ensures
    ∙ field_there (λ s. deadline_text line.tick_us s.kind s.deadline) scripts i script c.requires)
    c.answer_word-answer.ensures c.fails_for_word-fails_for.ensures
    (number_said c.number_in.result c.number_words.result.now (number_text place)
    c.number_words.ensures.some c.number_words.ensures.none c.number_in.ensures.some
    c.number_in.ensures.none
    ∙ ap number_text is)
    (c.bytes.ensures.same ∙ field_there (λ s. s.name) scripts i script c.requires)
    (c.as_slice-2.ensures.value ∙ c.in_ok-swept.ensures ∙ ap (swept_text line.tick_us) is)
    c.name_of_terminal-terminal.ensures
    (c.as_slice-3.ensures.value ∙ c.in_ok-told.ensures.key_from)
    (c.as_slice-4.ensures.value ∙ c.in_ok-told.ensures.key_by)
    (c.as_slice-5.ensures.value ∙ c.in_ok-told.ensures.trip_from)
    (c.as_slice-6.ensures.value ∙ c.in_ok-told.ensures.trip_by))
    c.push_record.ensures
