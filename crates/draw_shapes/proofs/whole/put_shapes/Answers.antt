use Rattle.std.proofs.Common.{◌≡◌, ◌++◌, ◌∷◌, [], List, OnOk, refl, subst, append_assoc}
use Rattle.draw_shapes.specs.{Seen.SeenShape, Seen.shapes_seen}
use Rattle.draw_shapes.specs.Seen as seen
use Rattle.draw_shapes.specs.declared.grid.GridCell.{GridCell}
use Rattle.draw_shapes.specs.{Cells.cells_drawn, Drawings.legend_drawn, Drawings.shapes_by}
use Rattle.draw_shapes.proofs.whole.put_shapes.Goals as goal

-- a shape, some more, and four, appended one after another
in_turn : {A : Type 0} (at0 at1 at2 at3 at4 at5 at6 b : List A) (a c d e f : A)
    → at1 ≡ at0 ++ a ∷ [] → at2 ≡ at1 ++ b → at3 ≡ at2 ++ c ∷ [] → at4 ≡ at3 ++ d ∷ []
    → at5 ≡ at4 ++ e ∷ [] → at6 ≡ at5 ++ f ∷ []
    → at6 ≡ at0 ++ (a ∷ (b ++ (c ∷ (d ∷ (e ∷ (f ∷ []))))))
in_turn at0 at1 at2 at3 at4 at5 at6 b a c d e f p q r s t u =
    rw (u, t, s, r, q, p) (simp append_assoc)

pub returns : goal.returns
returns c =
    let grid = c.args.grid.now in
    let cells : shapes_seen c.put_cells.new.shapes.items
    ≡ shapes_seen c.put_shape.new.shapes.items ++ cells_drawn c.args.scale 0 grid.cells.items =
    subst (λ (l : List GridCell). shapes_seen c.put_cells.new.shapes.items
    ≡ shapes_seen c.put_shape.new.shapes.items ++ cells_drawn c.args.scale 0 l)
    c.as_slice.ensures.value c.in_ok-put_cells.ensures in
    let all : shapes_seen c.put_shape-4.new.shapes.items
    ++ seen.plain (legend_drawn c.args.scale grid) ∷ []
    ≡ shapes_seen c.args.shapes.now.items ++ shapes_by c.args.scale grid =
    in_turn _ _ _ _ _ _ _ _ _ _ _ _ _
    (c.in_ok-put_shape.ensures _ c.head.ensures) cells
    (c.in_ok-put_shape-2.ensures _ c.border.ensures)
    (c.in_ok-put_shape-3.ensures _ c.rulers.ensures)
    (c.in_ok-put_shape-4.ensures _ c.marked.ensures) refl in
    subst (λ (l : List SeenShape). OnOk c.put_shape-5.result
    (shapes_seen c.put_shape-5.new.shapes.items ≡ l)) all (c.put_shape-5.ensures _ c.legend.ensures)
