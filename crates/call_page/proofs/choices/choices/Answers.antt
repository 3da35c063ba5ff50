use Rattle.std.proofs.Common.{◌≡◌, ℕ, ◌+◌, ◌<◌, ◌++◌, List, [], ◌∷◌, Some, length, get_or, take}
use Rattle.std.proofs.Common.{refl, sym, ◌∙◌, ap, subst}
use Rattle.std.proofs.lemmas.Grind.{flat_map-append}
use Rattle.std.proofs.lemmas.List.{append-nil, take_more}
use Rattle.std.proofs.lemmas.Option.{slice_get_read}
use Rattle.std.specs.{List.flat_map, Prelude.slice_get}
use Rattle.call_tables.specs.declared.row.Row.{Row}
use Rattle.call_page.specs.Choices.{IsChoiceOf, failing_row}
use Rattle.call_facts.specs.Lists.{EachOf}
use Rattle.call_page.proofs.choices.choices.Goals as goal

-- those of one row more
more_of : (those : Row → List Row) (rows : List Row) (i : ℕ) (row : Row) → i < length rows
    → row ≡ get_or rows i row
    → flat_map those (take (i + 1) rows) ≡ flat_map those (take i rows) ++ those row
more_of those rows i row lt is =
    ap (flat_map those)
    (take_more rows i row lt ∙ ap (λ (r : Row). take i rows ++ r ∷ []) (sym is))
    ∙ flat_map-append those (take i rows) (row ∷ [])
    ∙ ap (λ l. flat_map those (take i rows) ++ l) (append-nil (those row))

pub push_choice-requires-clause-row : goal.push_choice-requires-clause-row
push_choice-requires-clause-row c =
    let rows = c.args.known.now.rows.now in
    let at : slice_get rows c.loop-row.row-index ≡ Some c.row-item.result =
    slice_get_read rows _ c.loop-row.row-index c.row-item.result refl
    c.loop-row-test.true c.row-item.is in
    let row = c.requires.known.rows.each c.loop-row.row-index c.row-item.result at in
    record {
      script = row.script;
      at = row.at;
      terminal = row.terminal;
      answered = row.answered;
    }

pub loop-row-preserved : goal.loop-row-preserved
loop-row-preserved c =
    let known = c.args.known.now in
    let line = known.study.now.line in
    let rows = known.rows.now in
    let parts = c.args.parts.now in
    let those = failing_row line parts rows in
    let i = c.loop-row.row-index in
    subst
    (λ (l : List Row). EachOf (IsChoiceOf line known.study.now.scripts.items parts rows) l
    c.push_choice.new.choices.items)
    (sym (more_of those rows i c.row-item.result c.loop-row-test.true c.row-item.is))
    (c.in_ok-push_choice.ensures (flat_map those (take i rows)) c.loop-row.invariant)
