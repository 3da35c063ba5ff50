use Rattle.std.proofs.Common.{◌≡◌, ◌++◌, ◌∷◌, [], ℕ, List, IfOk, OnOk, refl, ◌∙◌, ap, subst, append_assoc}
use Rattle.draw_shapes.specs.{Seen.SeenShape, Seen.figures_seen, Seen.shapes_seen}
use Rattle.draw_shapes.specs.Seen as seen
use Rattle.draw_run.specs.{layout.Drawings.head_drawn, layout.Drawings.shapes_above}
use Rattle.draw_run.specs.{layout.Legend.legend, layout.Scale.more}
use Rattle.draw_run.proofs.layout.whole.put_shapes.Goals as goal

-- two shapes, some more, and two, appended one after another
in_turn : {A : Type 0} (at0 at1 at2 at3 at4 at5 m : List A) (a b c d : A)
    → at1 ≡ at0 ++ a ∷ [] → at2 ≡ at1 ++ b ∷ [] → at3 ≡ at2 ++ m → at4 ≡ at3 ++ c ∷ []
    → at5 ≡ at4 ++ d ∷ []
    → at5 ≡ at0 ++ (a ∷ (b ∷ (m ++ c ∷ (d ∷ []))))
in_turn at0 at1 at2 at3 at4 at5 m a b c d p q r s t = rw (t, s, r, q, p) (simp append_assoc)

pub returns : goal.returns
returns c =
    let diagram = c.args.diagram.now in
    let foot : c.saturating_add-foot.result ≡ more c.args.bottom 420 = c.saturating_add-foot.ensures in
    let height : c.saturating_add-height.result ≡ more (more c.args.bottom 420) 720 =
    c.saturating_add-height.ensures ∙ ap (λ (n : ℕ). more n 720) foot in
    let head = subst (λ (n : ℕ). IfOk c.head.result (λ figures. figures_seen figures.items
    ≡ head_drawn c.args.heading.now n)) height c.head.ensures in
    let legend_there = subst (λ (n : ℕ). IfOk c.legend.result (λ figures. figures_seen figures.items
    ≡ legend c.args.line.now diagram n)) foot c.legend.ensures in
    let all : shapes_seen c.put_shape-3.new.shapes.items
    ++ seen.plain (legend c.args.line.now diagram (more c.args.bottom 420)) ∷ []
    ≡ shapes_seen c.args.shapes.now.items
    ++ shapes_above c.args.line.now c.args.scale diagram c.args.heading.now c.args.bottom =
    in_turn _ _ _ _ _ _ _ _ _ _ _
    (c.in_ok-put_shape.ensures _ head) (c.in_ok-put_shape-2.ensures _ c.axis.ensures)
    c.in_ok-put_rows.ensures (c.in_ok-put_shape-3.ensures _ c.marked.ensures) refl in
    subst (λ (l : List SeenShape). OnOk c.put_shape-4.result
    (shapes_seen c.put_shape-4.new.shapes.items ≡ l)) all (c.put_shape-4.ensures _ legend_there)
