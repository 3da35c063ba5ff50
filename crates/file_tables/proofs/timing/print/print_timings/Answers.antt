use Rattle.std.proofs.Common.{◌≡◌, ◌<◌, ◌+◌, ◌++◌, ℕ, List, [], ◌∷◌, length, map, get_or, take}
use Rattle.std.proofs.Common.{sym, ◌∙◌, ap, subst, arith}
use Rattle.std.proofs.lemmas.Grind.{flat_map-append}
use Rattle.std.proofs.lemmas.List.{get_or-map, length-map, map-append, append-nil, take_more}
use Rattle.std.proofs.lemmas.List.Elements.{All-get_or}
use Rattle.std.specs.List.{All, flat_map}
use Rattle.model_line.specs.declared.line.Line.{Line}
use Rattle.model_timing.specs.declared.named_timing.NamedTiming.{NamedTiming}
use Rattle.model_timing.specs.NamedValues.{NamedValues, values_of}
use Rattle.csv.specs.Writing.{row_text, default_writer}
use Rattle.file_tables.specs.script.Printed.{records_text}
use Rattle.file_tables.specs.timing.Row.{header_record}
use Rattle.file_tables.specs.timing.Printed.{MayStand, timing_records, file_records}
use Rattle.file_tables.proofs.timing.print.print_timings.Goals as goal

-- the timing at a place
stands_at : (line : Line) (timings : List NamedTiming) (i : ℕ) (t : NamedTiming)
    → All (MayStand line) (map values_of timings) → i < length timings → t ≡ get_or timings i t
    → MayStand line (values_of t)
stands_at line timings i t all inside is =
    let there : i < length (map values_of timings) =
    omega (arith, inside, length-map timings values_of) in
    subst (MayStand line)
    (get_or-map values_of timings i t (values_of t) inside ∙ ap values_of (sym is))
    (All-get_or (MayStand line) (map values_of timings) i (values_of t) there all)

-- a file with one timing more
one_more : (line : Line) (timings : List NamedValues) (t : NamedValues)
    → records_text (file_records line (timings ++ t ∷ []))
    ≡ records_text (file_records line timings) ++ records_text (timing_records line t)
one_more line timings t =
    let records = timing_records line in
    ap (λ l. records_text (header_record ∷ l))
    (flat_map-append records timings (t ∷ [])
    ∙ ap (λ l. flat_map records timings ++ l) (append-nil (records t)))
    ∙ flat_map-append (row_text default_writer) (header_record ∷ flat_map records timings) (records t)

pub push_timing-requires-clause-count : goal.push_timing-requires-clause-count
push_timing-requires-clause-count c =
    (stands_at c.args.line.now c.args.timings.now c.loop-timing.timing-index c.timing-item.result
    c.requires.may_stand c.loop-timing-test.true c.timing-item.is).inside.count

pub push_timing-requires-clause-steps : goal.push_timing-requires-clause-steps
push_timing-requires-clause-steps c = λ k d lt.
    c.delays_are_parameters.ensures.exists c.args.line.now _
    ((stands_at c.args.line.now c.args.timings.now c.loop-timing.timing-index c.timing-item.result
    c.requires.may_stand c.loop-timing-test.true c.timing-item.is).inside.steps k d lt).delay

pub loop-timing-preserved : goal.loop-timing-preserved
loop-timing-preserved c =
    let line = c.args.line.now in
    let timings = c.args.timings.now in
    let i = c.loop-timing.timing-index in
    let t = c.timing-item.result in
    let more : take (i + 1) timings ≡ take i timings ++ t ∷ [] =
    take_more timings i t c.loop-timing-test.true
    ∙ ap (λ x. take i timings ++ x ∷ []) (sym c.timing-item.is) in
    c.in_ok-push_timing.ensures
    ∙ ap (λ text. text ++ records_text (timing_records line (values_of t))) c.loop-timing.invariant
    ∙ sym (one_more line (map values_of (take i timings)) (values_of t))
    ∙ ap (λ l. records_text (file_records line l))
    (sym (map-append values_of (take i timings) (t ∷ [])))
    ∙ ap (λ l. records_text (file_records line (map values_of l))) (sym more)
