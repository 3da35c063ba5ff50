use Rattle.std.proofs.Common.{◌≡◌, ◌+◌, ◌++◌, ◌&&◌, ◌<◌, ℕ, List, [], ◌∷◌, true, get_or, length, map, take}
use Rattle.std.proofs.Common.{sym, ◌∙◌, ap, subst, append_assoc}
use Rattle.std.proofs.lemmas.Bool.{and_parts}
use Rattle.std.proofs.lemmas.List.{map-append, append-nil, take_more}
use Rattle.std.proofs.lemmas.List.Concat.{flat_map-append}
use Rattle.std.proofs.lemmas.List.Sums.{AllPass-from_list_all}
use Rattle.std.specs.Prelude.{nat_le, nat_lt}
use Rattle.csv.specs.Writing.{row_text, default_writer}
use Rattle.model_line.specs.Fits.{exists_in, span_fits}
use Rattle.model_line.specs.declared.line.Line.{Line}
use Rattle.model_line.specs.declared.script.SeenSpan.{SeenSpan}
use Rattle.model_line.specs.declared.script.What.TheVariants as what
use Rattle.model_line.specs.declared.script.Element.TheVariants.{Z1}
use Rattle.std.specs.List.{list_all}
use Rattle.file_tables.specs.script.Printed.{row_record, records_text}
use Rattle.file_tables.proofs.script.print.push_rows.Goals as goal

-- the rows of one span more
one_more : (line : Line) (name : List ℕ) (spans : List SeenSpan) (span : SeenSpan)
    → records_text (map (row_record line name) (spans ++ span ∷ []))
    ≡ records_text (map (row_record line name) spans) ++ row_text default_writer (row_record line name span)
one_more line name spans span =
    let record_of : SeenSpan → List (List ℕ) = row_record line name in
    ap records_text (map-append record_of spans (span ∷ []))
    ∙ flat_map-append (row_text default_writer) (map record_of spans) (record_of span ∷ [])
    ∙ ap (λ (l : List ℕ). records_text (map record_of spans) ++ l)
    (append-nil (row_text default_writer (record_of span)))

abbrev none : SeenSpan
none = record { what = what.Element (record { element = Z1; terminal = 0 }); from = 0; to = 0 }

pub push_row-requires : goal.push_row-requires
push_row-requires c =
    let line : Line = c.args.line.now in
    let span : SeenSpan = get_or c.deref-span-items.result.now c.loop-span.span-index none in
    let fits : span_fits line span ≡ true =
    AllPass-from_list_all (span_fits line) c.deref-span-items.result.now
    (subst (λ (l : List SeenSpan). list_all (span_fits line) l ≡ true)
    (sym c.deref-span-items.ensures.value) c.requires.spans) c.loop-span.span-index none
    c.loop-span-test.true in
    (and_parts (exists_in line span.what)
    (nat_lt span.from span.to && nat_le span.to line.horizon) fits).0

pub loop-span-preserved : goal.loop-span-preserved
loop-span-preserved c =
    let line : Line = c.args.line.now in
    let name : List ℕ = c.args.script.now.name in
    let spans : List SeenSpan = c.args.script.now.spans.items in
    let i = c.loop-span.span-index in
    let text : List ℕ = c.args.text.now.items in
    let same : c.deref-span-items.result.now ≡ spans = c.deref-span-items.ensures.value in
    let span : SeenSpan = get_or c.deref-span-items.result.now i none in
    let front : List ℕ = records_text (map (row_record line name) (take i spans)) in
    let row : List ℕ = row_text default_writer (row_record line name span) in
    let inside : i < length spans =
    subst (λ (l : List SeenSpan). i < length l) same c.loop-span-test.true in
    let more : records_text (map (row_record line name) (take (i + 1) spans)) ≡ front ++ row =
    ap (λ (l : List SeenSpan). records_text (map (row_record line name) l))
    (take_more spans i none inside)
    ∙ one_more line name (take i spans) (get_or spans i none)
    ∙ ap (λ (l : List SeenSpan). front ++ row_text default_writer (row_record line name (get_or l i none)))
    (sym same) in
    c.in_ok-push_row.ensures
    ∙ ap (λ (n : List ℕ). c.loop-span.text.items ++ row_text default_writer (row_record line n span))
    c.bytes.ensures.same
    ∙ ap (λ (t : List ℕ). t ++ row) c.loop-span.invariant
    ∙ append_assoc text front row
    ∙ ap (λ (t : List ℕ). text ++ t) (sym more)
