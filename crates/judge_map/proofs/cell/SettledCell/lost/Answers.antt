use Rattle.std.proofs.Common.{◌≡◌, ◌<◌, ◌+◌, ◌++◌, ℕ, Bool, true, false, List, [], ◌∷◌, length, drop, get_or, sym, ◌∙◌, ap, append_assoc, arith}
use Rattle.std.specs.Prelude.{if◌then◌else◌}
use Rattle.std.proofs.lemmas.List.{at_drop_more}
use Rattle.judge_map.specs.declared.known.Known.{Known}
use Rattle.judge_map.specs.Cells.{lost_from}
use Rattle.judge_map.specs.Known.{is_held}
use Rattle.judge_map.proofs.cell.SettledCell.lost.Goals.{then-not-is_held+in_ok-push, else-not-is_held}
use Rattle.judge_map.proofs.cell.SettledCell.lost.Goals as goal

-- one place more, or none, before the rest
abbrev with_rest : Bool → ℕ → List ℕ → List ℕ
with_rest held place rest = if held then rest else place ∷ rest

lost_here : (held : Bool) (place : ℕ) (old new rest : List ℕ) → held ≡ false
    → new ≡ old ++ place ∷ [] → new ++ rest ≡ old ++ with_rest held place rest
lost_here held place old new rest is grown =
    ap (λ (x : List ℕ). x ++ rest) grown
    ∙ append_assoc old (place ∷ []) rest
    ∙ ap (λ (b : Bool). old ++ with_rest b place rest) (sym is)

held_here : (held : Bool) (place : ℕ) (old new rest : List ℕ) → held ≡ true → new ≡ old
    → new ++ rest ≡ old ++ with_rest held place rest
held_here held place old new rest is same =
    ap (λ (x : List ℕ). x ++ rest) same
    ∙ ap (λ (b : Bool). old ++ with_rest b place rest) (sym is)

-- past one rule more
one_more : (rules : List Known) (place : ℕ) (rule : Known) (old new all : List ℕ)
    → place < length rules → rule ≡ get_or rules place rule
    → new ++ lost_from (place + 1) (drop (place + 1) rules)
    ≡ old ++ with_rest (is_held rule) place (lost_from (place + 1) (drop (place + 1) rules))
    → old ++ lost_from place (drop place rules) ≡ all
    → new ++ lost_from (place + 1) (drop (place + 1) rules) ≡ all
one_more rules place rule old new all inside is grown before =
    let rest : List ℕ = lost_from (place + 1) (drop (place + 1) rules) in
    grown
    ∙ ap (λ (x : Known). old ++ with_rest (is_held x) place rest) is
    ∙ ap (λ (x : List ℕ). old ++ x) (sym (at_drop_more (lost_from place) rules place rule inside))
    ∙ before

pub loop-place-preserved : goal.loop-place-preserved
loop-place-preserved c =
    let place = c.loop-place.place in
    let rules = c.args.self.now.known.items in
    let rule = c.index.result.now in
    let old = c.loop-place.lost.items in
    let new = c.if-not-is_held.lost.items in
    let rest : List ℕ = lost_from (place + 1) (drop (place + 1) rules) in
    let inside : place < length rules =
    omega (arith, c.loop-place-test.true, c.len-place-end.ensures) in
    let grown : new ++ rest ≡ old ++ with_rest (is_held rule) place rest =
    elim c.if-not-is_held.branch [
      | then-not-is_held+in_ok-push w ↦
          lost_here (is_held rule) place old new rest (sym c.is_held.ensures ∙ w.if-not-is_held.true)
          (ap (λ t. t.items) w.lost-is ∙ w.in_ok-push.ensures.items)
      | else-not-is_held w ↦
          held_here (is_held rule) place old new rest (sym c.is_held.ensures ∙ w.if-not-is_held.false)
          (ap (λ t. t.items) w.lost-is)
    ] in
    one_more rules place rule old new _ inside c.index.ensures grown c.loop-place.invariant
