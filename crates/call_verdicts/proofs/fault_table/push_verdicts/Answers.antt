use Rattle.std.proofs.Common.{◌≡◌, ◌<◌, ◌++◌, ℕ, List, [], ◌∷◌, length, map, get_or, sym, ◌∙◌, ap}
use Rattle.std.proofs.Common.{refl, subst}
use Rattle.std.proofs.lemmas.List.{get_or-map}
use Rattle.std.specs.Prelude.{IfSome, None, OnOk, Option, Some, decimal}
use Rattle.std.specs.List.{count_by}
use Rattle.csv.specs.Writing.{row_text, default_writer}
use Rattle.model_line.specs.declared.line.Line.{Line}
use Rattle.model_line.specs.declared.line.Terminal.{Terminal}
use Rattle.model_line.specs.Parameters.{terminal_count}
use Rattle.model_line.specs.NamesByNumber.{kind_text, terminal_name}
use Rattle.file_study.specs.declared.sweeps.group.Group.{Group}
use Rattle.call_verdicts.specs.Faults.{fault_record}
use Rattle.call_verdicts.specs.Records.{margin_text, trip_text}
use Rattle.call_verdicts.specs.Stretches.{is_held, place_label, stretches, values_label}
use Rattle.call_verdicts.specs.Verdicts.{fails_for_every, fails_so, is_left}
use Rattle.call_verdicts.specs.Worst.{place_text, worst_place}
use Rattle.call_verdicts.specs.declared.verdict.Verdict.{Verdict}
use Rattle.call_verdicts.proofs.fault_table.push_verdicts.Goals as goal

-- the record of a fault at a terminal, by its fields
record_of : (line : Line) (group : Group) (k : ℕ) (vs : List Verdict)
    (fault name kind count held fails every left place trip margin places values : List ℕ)
    → fault ≡ group.name → name ≡ terminal_name line k
    → kind ≡ get_or (map (λ v. kind_text v.kind) vs) 0 []
    → count ≡ decimal (length vs) → held ≡ decimal (count_by is_held vs)
    → fails ≡ decimal (count_by (λ v. fails_so v.standing) vs)
    → every ≡ decimal (count_by (λ v. fails_for_every v.standing) vs)
    → left ≡ decimal (count_by (λ v. is_left v.standing) vs)
    → place ≡ place_text vs (worst_place line.horizon vs)
    → trip ≡ get_or (map (λ v. trip_text line.tick_us v.first_must) vs)
    (worst_place line.horizon vs) []
    → margin ≡ get_or (map (λ v. margin_text line.tick_us v.kind v.deadline v.first_must) vs)
    (worst_place line.horizon vs) []
    → places ≡ stretches vs place_label (length vs)
    → values ≡ stretches vs (values_label line.tick_us group) (length vs)
    → fault ∷ name ∷ kind ∷ count ∷ held ∷ fails ∷ every ∷ left ∷ place ∷ trip ∷ margin ∷ places
    ∷ values ∷ [] ≡ fault_record line group k vs
unfolding fault_record
record_of line group k vs fault name kind count held fails every left place trip margin places values
    f n k_is c h fl e o p t m ps vals =
    rw (f, n, k_is, c, h, fl, e, o, p, t, m, ps, vals)

-- the name of the terminal that is read
name_there : (line : Line) (k : ℕ) (one : Terminal) → k < terminal_count line
    → one ≡ get_or line.terminals.items k one → one.name ≡ terminal_name line k
name_there line k one within is =
    ap (λ (t : Terminal). t.name) is
    ∙ sym (get_or-map (λ (t : Terminal). t.name) line.terminals.items k one [] within)

-- the words of a number that a text is
said_by : (number : Option ℕ) (said text : List ℕ) → IfSome number (λ n. said ≡ decimal n)
    → (number ≡ None → said ≡ []) → IfSome number (λ n. text ≡ decimal n)
    → (number ≡ None → text ≡ []) → said ≡ text
said_by None said text some none is is_none = none refl ∙ sym (is_none refl)
said_by (Some n) said text some none is is_none = some ∙ sym is

pub returns : goal.returns
returns c =
    let line : Line = c.args.line.now in
    let k : ℕ = c.args.terminal in
    let vs : List Verdict = c.args.verdicts.now in
    let worst : c.worst_place-worst.result ≡ worst_place line.horizon vs =
    c.worst_place-worst.ensures in
    subst (λ (said : List (List ℕ)). OnOk c.push_record.result
    (c.push_record.new.text.items ≡ c.args.text.now.items ++ row_text default_writer said))
    (record_of line c.args.group.now k vs c.bytes.result.now c.bytes-2.result.now
    c.kind_of.result.now c.as_bytes.result.now c.as_bytes-2.result.now c.as_bytes-3.result.now
    c.as_bytes-4.result.now c.as_bytes-5.result.now c.number_words.result.now c.as_slice.result.now
    c.as_slice-2.result.now c.as_slice-3.result.now c.as_slice-4.result.now
    c.bytes.ensures.same
    (c.bytes-2.ensures.same ∙ name_there line k c.index.result.now c.requires c.index.ensures)
    c.kind_of.ensures
    (c.as_bytes.ensures.value ∙ c.format.ensures.text)
    (c.as_bytes-2.ensures.value ∙ c.format-2.ensures.text ∙ ap decimal c.held_count.ensures)
    (c.as_bytes-3.ensures.value ∙ c.format-3.ensures.text ∙ ap decimal c.failing_count.ensures)
    (c.as_bytes-4.ensures.value ∙ c.format-4.ensures.text ∙ ap decimal c.every_count.ensures)
    (c.as_bytes-5.ensures.value ∙ c.format-5.ensures.text ∙ ap decimal c.open_count.ensures)
    (said_by c.number_at.result c.number_words.result.now (place_text vs c.worst_place-worst.result)
    c.number_words.ensures.some c.number_words.ensures.none c.number_at.ensures.some
    c.number_at.ensures.none
    ∙ ap (place_text vs) worst)
    (c.as_slice.ensures.value ∙ (rw worst at c.in_ok-told.ensures.trip))
    (c.as_slice-2.ensures.value ∙ (rw worst at c.in_ok-told.ensures.margin))
    (c.as_slice-3.ensures.value ∙ c.in_ok-places.ensures)
    (c.as_slice-4.ensures.value ∙ c.in_ok-values.ensures))
    c.push_record.ensures
