-- How long a file of scripts is.
use Rattle.std.proofs.Common.{◌≡◌, ◌≤◌, ◌+◌, ◌*◌, ◌&&◌, ℕ, true, List, [], ◌∷◌, length, map, refl}
use Rattle.std.proofs.Common.{ap, arith, codes, decimal, length-append}
use Rattle.std.proofs.lemmas.Bool.{and_parts, ltb-true, leb-true}
use Rattle.std.proofs.lemmas.Grind.{flat_map-append}
use Rattle.std.proofs.lemmas.List.Elements.{All-head, All-tail}
use Rattle.std.specs.Prelude.{IsTrue, nat_le, nat_lt, slice_get}
use Rattle.std.specs.List.{All, flat_map, list_all}
use Rattle.csv.specs.Writing.{default_writer, row_text}
use Rattle.model_line.specs.declared.script.Kind.{Kind}
use Rattle.model_line.specs.declared.script.Kind.TheVariants.{Internal, External}
use Rattle.model_line.specs.declared.script.Element.{Element}
use Rattle.model_line.specs.declared.script.Element.TheVariants.{Z1}
use Rattle.model_line.specs.declared.script.What.{What}
use Rattle.model_line.specs.declared.script.What.TheVariants as what
use Rattle.model_line.specs.declared.script.SeenSpan.{SeenSpan}
use Rattle.model_line.specs.Fits.{deadline_fits, exists_in, span_fits}
use Rattle.model_line.specs.{declared.line.Line.Line, NamesByNumber.element_text, NamesByNumber.kind_text}
use Rattle.file_tables.specs.FieldLaws.{IsFieldUpTo, row_wide, number_stands, name_stands}
use Rattle.file_tables.specs.FieldLaws.{name_at_stands, channel_stands}
use Rattle.file_tables.specs.script.Row.{header_record}
use Rattle.file_tables.specs.script.Printed.{deadline_text, file_records, head_record, item_text, place_text}
use Rattle.file_tables.specs.script.Printed.{records_text, row_record, script_records}
use Rattle.file_tables.specs.{script.SoFar.ValuesFit, script.Values.ScriptValues}

-- a record of five fields
five_wide : (m n k i j : ℕ) (a b d e f : List ℕ) → IsFieldUpTo m a → IsFieldUpTo n b
    → IsFieldUpTo k d → IsFieldUpTo i e → IsFieldUpTo j f
    → length (row_text default_writer (a ∷ b ∷ d ∷ e ∷ f ∷ [])) ≤ m + n + k + i + j + 5
five_wide m n k i j a b d e f v w x y z =
    omega (
      arith,
      v.short,
      w.short,
      x.short,
      y.short,
      z.short,
      row_wide a b (d ∷ e ∷ f ∷ []) (v.bare, (w.bare, (x.bare, (y.bare, (z.bare, tt))))),
    )

empty_stands : IsFieldUpTo 0 []
empty_stands = record { bare = refl; short = omega arith }

kind_stands : (kind : Kind) → IsFieldUpTo 8 (kind_text kind)
kind_stands Internal = record { bare = refl; short = omega arith }
kind_stands External = record { bare = refl; short = omega arith }

element_stands : (e : Element) → IsFieldUpTo 4 (element_text e)
element_stands Z1 = record { bare = refl; short = omega arith }
element_stands _ = record { bare = refl; short = omega arith }

item_stands : (w : What) → IsFieldUpTo 4 (item_text w)
item_stands (what.Element place) = element_stands place.element
item_stands (what.Loss channel) = record { bare = refl; short = omega arith }

module _ (line : Line) where
  place_stands : (w : What) → IsFieldUpTo 33 (place_text line w)
  place_stands (what.Element place) =
      let name = name_at_stands line.terminals.items place.terminal line.plain_names in
      record { bare = name.bare; short = omega (arith, name.short) }
  place_stands (what.Loss channel) =
      channel_stands line.terminals.items (slice_get line.channels.items channel) line.plain_names

  deadline_stands : (kind : Kind) (deadline : ℕ)
      → IsTrue (deadline_fits line.horizon kind deadline)
      → IsFieldUpTo 4 (deadline_text kind deadline)
  deadline_stands Internal deadline fits =
      number_stands deadline (omega (arith, ltb-true deadline line.horizon fits, line.horizon_in_range.1))
  deadline_stands External deadline fits = record { bare = refl; short = omega arith }

  row_short : (name : List ℕ) (span : SeenSpan) → IsFieldUpTo 16 name
      → span_fits line span ≡ true
      → length (row_text default_writer (row_record line name span)) ≤ 66
  row_short name span plain fits =
      let both = and_parts (exists_in line span.what)
      (nat_lt span.from span.to && nat_le span.to line.horizon) fits in
      let ends = and_parts (nat_lt span.from span.to) (nat_le span.to line.horizon) both.1 in
      let less = ltb-true span.from span.to ends.0 in
      let most = leb-true span.to line.horizon ends.1 in
      omega (
        arith,
        five_wide 16 4 33 4 4 name (item_text span.what) (place_text line span.what)
            (decimal span.from) (decimal span.to) plain (item_stands span.what)
            (place_stands span.what)
            (number_stands span.from (omega (arith, less, most, line.horizon_in_range.1)))
            (number_stands span.to (omega (arith, most, line.horizon_in_range.1))),
      )

  rows_short : (name : List ℕ) (spans : List SeenSpan) → IsFieldUpTo 16 name
      → list_all (span_fits line) spans ≡ true
      → length (records_text (map (row_record line name) spans)) ≤ 66 * length spans
  rows_short name [] plain fit = omega arith
  rows_short name (span ∷ spans) plain fit =
      let both = and_parts (span_fits line span) (list_all (span_fits line) spans) fit in
      omega (
        arith,
        row_short name span plain both.0,
        rows_short name spans plain both.1,
        length-append (row_text default_writer (row_record line name span))
            (records_text (map (row_record line name) spans)),
      )

  script_short : (s : ScriptValues) → ValuesFit line s
      → length (records_text (script_records line s)) ≤ 13233
  script_short s fits =
      let name = name_stands s.name fits.plain_name in
      let rows = map (row_record line s.name) s.spans in
      omega (
        arith,
        fits.few_spans,
        five_wide 16 8 0 4 0 s.name (kind_text s.kind) [] (deadline_text s.kind s.deadline) [] name
            (kind_stands s.kind) empty_stands (deadline_stands s.kind s.deadline fits.deadline)
            empty_stands,
        rows_short s.name s.spans name fits.spans,
        length-append (row_text default_writer (head_record s)) (records_text rows),
      )

  scripts_short : (ss : List ScriptValues) → All (ValuesFit line) ss
      → length (records_text (flat_map (script_records line) ss)) ≤ 13233 * length ss
  scripts_short [] fit = omega arith
  scripts_short (s ∷ ss) fit =
      let more = flat_map (script_records line) ss in
      omega (
        arith,
        script_short s (All-head (ValuesFit line) s ss fit),
        scripts_short ss (All-tail (ValuesFit line) s ss fit),
        ap length (flat_map-append (row_text default_writer) (script_records line s) more),
        length-append (records_text (script_records line s)) (records_text more),
      )

  pub file_short : (ss : List ScriptValues) → All (ValuesFit line) ss → length ss ≤ 64
      → length (records_text (file_records line ss)) ≤ 1048576
  file_short ss fit few =
      let head : length (row_text default_writer header_record) ≡ 26 =
      row_wide (codes "script") (codes "item") (codes "place" ∷ codes "from" ∷ codes "to" ∷ [])
      (refl, (refl, (refl, (refl, (refl, tt))))) in
      omega (
        arith,
        few,
        head,
        scripts_short ss fit,
        length-append (row_text default_writer header_record)
            (records_text (flat_map (script_records line) ss)),
      )
