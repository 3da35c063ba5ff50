use Rattle.std.proofs.Common.{◌≡◌, ◌<◌, ◌+◌, ◌++◌, ◌∷◌, [], ℕ, List, length, get_or, map, take}
use Rattle.std.proofs.Common.{sym, ◌∙◌, ap, subst, arith}
use Rattle.std.proofs.Math.Seq.{take-length}
use Rattle.std.proofs.lemmas.List.{map-append, take_more}
use Rattle.model_borders.specs.Borders.{part_span}
use Rattle.model_borders.proofs.scripts.part_spans.Goals as goal

-- what is made of the first i, and of one more
made_more : {A B : Type 0} (f : A → B) (xs : List A) (old new : List B) (i : ℕ) (a : A) (b : B)
    → i < length xs → a ≡ get_or xs i a → old ≡ map f (take i xs) → b ≡ f a → new ≡ old ++ (b ∷ [])
    → new ≡ map f (take (i + 1) xs)
made_more {A} {B} f xs old new i a b inside is so now made =
    made ∙ ap (λ (l : List B). l ++ (b ∷ [])) so
    ∙ ap (λ (y : B). map f (take i xs) ++ (y ∷ [])) (now ∙ ap f is)
    ∙ sym (ap (map f) (take_more xs i a inside) ∙ map-append f (take i xs) (get_or xs i a ∷ []))

pub loop-i-init : goal.loop-i-init
loop-i-init c = c.in_ok-spans.ensures.items

pub loop-i-preserved : goal.loop-i-preserved
loop-i-preserved c =
    made_more (part_span c.args.certain c.args.script.now c.args.part.now c.args.still c.args.place)
    c.args.script.now.spans.items c.loop-i.spans.items c.push.new.self.items c.loop-i.i
    c.index-span.result.now c.part_span-seen.result (omega (arith, c.loop-i-test.true))
    c.index-span.ensures c.loop-i.invariant c.part_span-seen.ensures c.in_ok-push.ensures.items

pub returns : goal.returns
returns c =
    let spans = c.args.script.now.spans.items in
    let all : length spans ≡ c.loop-i.i = omega (arith, c.loop-i-test.false, c.loop-i.auto.i-end) in
    c.loop-i.invariant
    ∙ ap (map (part_span c.args.certain c.args.script.now c.args.part.now c.args.still c.args.place))
    (subst (λ (n : ℕ). take n spans ≡ spans) all (take-length spans))
