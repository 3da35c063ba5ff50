use Rattle.std.proofs.Common.{◌≡◌, ◌+◌, ◌++◌, ℕ, List, [], ◌∷◌, length, take, sym, ◌∙◌, ap, arith}
use Rattle.std.proofs.Common.{append_assoc}
use Rattle.std.proofs.lemmas.List.{take_more, append-nil, length-take-le}
use Rattle.std.proofs.lemmas.List.Concat.{flat_map-append}
use Rattle.csv.specs.Writing.{row_text, default_writer}
use Rattle.model_line.specs.declared.line.Line.{Line}
use Rattle.file_tables.specs.script.Printed.{records_text}
use Rattle.file_tables.specs.timing.Printed.{number_record, number_records}
use Rattle.file_tables.proofs.timing.print.push_numbers.Goals as goal

-- one number more
number_records-push : (line : Line) (name : List ℕ) (i : ℕ) (values : List ℕ) (v : ℕ)
    → number_records line name i (values ++ v ∷ [])
    ≡ number_records line name i values ++ number_record line name (i + length values) v ∷ []
number_records-push line name i [] v =
    (let e : i ≡ i + 0 = omega arith in ap (λ (k : ℕ). number_record line name k v ∷ []) e)
number_records-push line name i (x ∷ values) v =
    let e : i + 1 + length values ≡ i + length (x ∷ values) = omega arith in
    ap (λ (rows : List (List (List ℕ))). number_record line name i x ∷ rows)
    (number_records-push line name (i + 1) values v
    ∙ ap (λ (k : ℕ). number_records line name (i + 1) values ++ number_record line name k v ∷ [])
    e)

pub loop-i-preserved : goal.loop-i-preserved
loop-i-preserved c =
    let line = c.args.line.now in
    let name : List ℕ = c.args.name.now in
    let values : List ℕ = c.args.values.now in
    let i = c.loop-i.i in
    let v : ℕ = c.index-values-i.result in
    let text : List ℕ = c.args.text.now.items in
    let front : List ℕ = records_text (number_records line name 0 (take i values)) in
    let row : List ℕ = row_text default_writer (number_record line name i v) in
    let place : 0 + length (take i values) ≡ i =
    omega (arith, length-take-le i values (omega arith)) in
    let more : records_text (number_records line name 0 (take (i + 1) values)) ≡ front ++ row =
    ap (λ (l : List ℕ). records_text (number_records line name 0 l))
    (take_more values i v (omega arith))
    ∙ ap (λ (x : ℕ). records_text (number_records line name 0 (take i values ++ x ∷ [])))
    (sym c.index-values-i.is)
    ∙ ap records_text (number_records-push line name 0 (take i values) v)
    ∙ flat_map-append (row_text default_writer) (number_records line name 0 (take i values))
    (number_record line name (0 + length (take i values)) v ∷ [])
    ∙ ap (λ (l : List ℕ). front ++ l)
    (append-nil (row_text default_writer (number_record line name (0 + length (take i values)) v)))
    ∙ ap (λ (k : ℕ). front ++ row_text default_writer (number_record line name k v)) place in
    c.in_ok-push_number.ensures
    ∙ ap (λ (t : List ℕ). t ++ row) c.loop-i.invariant
    ∙ append_assoc text front row
    ∙ ap (λ (t : List ℕ). text ++ t) (sym more)
