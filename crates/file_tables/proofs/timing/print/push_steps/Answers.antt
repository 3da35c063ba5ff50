use Rattle.std.proofs.Common.{◌≡◌, ◌+◌, ◌++◌, ℕ, List, [], ◌∷◌, map, take, sym, ◌∙◌, ap}
use Rattle.std.proofs.Common.{append_assoc}
use Rattle.std.proofs.lemmas.List.{map-append, append-nil, take_more}
use Rattle.std.proofs.lemmas.List.Concat.{flat_map-append}
use Rattle.csv.specs.Writing.{row_text, default_writer}
use Rattle.model_line.specs.declared.line.Line.{Line}
use Rattle.model_timing.specs.declared.step.Step.{Step}
use Rattle.file_tables.specs.script.Printed.{records_text}
use Rattle.file_tables.specs.timing.Printed.{step_record}
use Rattle.file_tables.proofs.timing.print.push_steps.Goals as goal

-- the records of one step more
one_more : (line : Line) (name : List ℕ) (steps : List (Step ℕ)) (s : Step ℕ)
    → records_text (map (step_record line name) (steps ++ s ∷ []))
    ≡ records_text (map (step_record line name) steps) ++ row_text default_writer (step_record line name s)
one_more line name steps s =
    let record_of : Step ℕ → List (List ℕ) = step_record line name in
    ap records_text (map-append record_of steps (s ∷ []))
    ∙ flat_map-append (row_text default_writer) (map record_of steps) (record_of s ∷ [])
    ∙ ap (λ (l : List ℕ). records_text (map record_of steps) ++ l)
    (append-nil (row_text default_writer (record_of s)))

pub push_step-requires : goal.push_step-requires
push_step-requires c =
    rw c.index-steps-i.is (c.requires c.loop-i.i c.index-steps-i.result c.loop-i-test.true)

pub loop-i-preserved : goal.loop-i-preserved
loop-i-preserved c =
    let line : Line = c.args.line.now in
    let name : List ℕ = c.args.name.now in
    let steps : List (Step ℕ) = c.args.steps.now in
    let i = c.loop-i.i in
    let s : Step ℕ = c.index-steps-i.result in
    let text : List ℕ = c.args.text.now.items in
    let front : List ℕ = records_text (map (step_record line name) (take i steps)) in
    let row : List ℕ = row_text default_writer (step_record line name s) in
    let more : records_text (map (step_record line name) (take (i + 1) steps)) ≡ front ++ row =
    ap (λ (l : List (Step ℕ)). records_text (map (step_record line name) l))
    (take_more steps i s c.loop-i-test.true)
    ∙ ap (λ (x : Step ℕ). records_text (map (step_record line name) (take i steps ++ x ∷ [])))
    (sym c.index-steps-i.is)
    ∙ one_more line name (take i steps) s in
    c.in_ok-push_step.ensures
    ∙ ap (λ (t : List ℕ). t ++ row) c.loop-i.invariant
    ∙ append_assoc text front row
    ∙ ap (λ (t : List ℕ). text ++ t) (sym more)
