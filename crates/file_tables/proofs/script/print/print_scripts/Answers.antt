use Rattle.std.proofs.Common.{◌≡◌, ◌+◌, ◌++◌, List, [], ◌∷◌, map, take, sym, ◌∙◌, ap}
use Rattle.std.proofs.lemmas.Grind.{flat_map-append}
use Rattle.std.proofs.lemmas.List.{map-append, append-nil, take_more}
use Rattle.std.specs.List.{flat_map}
use Rattle.csv.specs.Writing.{row_text, default_writer}
use Rattle.model_line.specs.declared.line.Line.{Line}
use Rattle.file_tables.specs.script.Row.{header_record}
use Rattle.file_tables.specs.script.Printed.{script_records, file_records, records_text}
use Rattle.file_tables.specs.script.Values.{ScriptValues, values_of}
use Rattle.file_tables.specs.script.StandingLaws.{printed_stand, scripts_fit_by_values}
use Rattle.file_tables.proofs.script.print.print_scripts.Goals as goal

-- a file with one script more
one_more : (line : Line) (scripts : List ScriptValues) (script : ScriptValues)
    → records_text (file_records line (scripts ++ script ∷ []))
    ≡ records_text (file_records line scripts) ++ records_text (script_records line script)
one_more line scripts script =
    let records = script_records line in
    ap (λ l. records_text (header_record ∷ l))
    (flat_map-append records scripts (script ∷ [])
    ∙ ap (λ l. flat_map records scripts ++ l) (append-nil (records script)))
    ∙ flat_map-append (row_text default_writer) (header_record ∷ flat_map records scripts) (records script)

pub loop-script-preserved : goal.loop-script-preserved
loop-script-preserved c =
    let line = c.args.line.now in
    let scripts = c.args.scripts.now in
    let i = c.loop-script.script-index in
    let script = c.script-item.result in
    let more : take (i + 1) scripts ≡ take i scripts ++ script ∷ [] =
    take_more scripts i script c.loop-script-test.true
    ∙ ap (λ x. take i scripts ++ x ∷ []) (sym c.script-item.is) in
    c.in_ok-push_script.ensures
    ∙ ap (λ text. text ++ records_text (script_records line (values_of script)))
    c.loop-script.invariant
    ∙ sym (one_more line (map values_of (take i scripts)) (values_of script))
    ∙ ap (λ l. records_text (file_records line l))
    (sym (map-append values_of (take i scripts) (script ∷ [])))
    ∙ ap (λ l. records_text (file_records line (map values_of l))) (sym more)

pub returns-clause-stand : goal.returns-clause-stand
returns-clause-stand c =
    printed_stand c.args.line.now (map values_of c.args.scripts.now)
    (scripts_fit_by_values c.args.line.now c.args.scripts.now c.requires.fit)
    c.requires.one_file

pub returns-in_err-push_record-clause-stand : goal.returns-in_err-push_record-clause-stand
returns-in_err-push_record-clause-stand c =
    printed_stand c.args.line.now (map values_of c.args.scripts.now)
    (scripts_fit_by_values c.args.line.now c.args.scripts.now c.requires.fit)
    c.requires.one_file

pub returns-in_err-push_script-clause-stand : goal.returns-in_err-push_script-clause-stand
returns-in_err-push_script-clause-stand c =
    printed_stand c.args.line.now (map values_of c.args.scripts.now)
    (scripts_fit_by_values c.args.line.now c.args.scripts.now c.requires.fit)
    c.requires.one_file
