use Rattle.std.proofs.Common.{◌≡◌, ◌<◌, ◌+◌, ◌∙◌, ◌++◌, ◌∷◌, ℕ, [], List, length, get_or, map, take}
use Rattle.std.proofs.Common.{sym, ap, subst}
use Rattle.std.proofs.lemmas.List.{map-append, take_more}
use Rattle.call_facts.specs.Lists.{EachOf}
use Rattle.call_facts.specs.SideLaws.{each_push}
use Rattle.call_page.specs.Sources.{IsSourceFile, source_file}
use Rattle.call_page.proofs.sources.sources.Goals as goal

-- one more of what a list is mapped to
mapped_more : {X Y Z : Type 0} (f : X → Y) (said : Y → Z → Type 0) (xs : List X) (ys more : List Z)
    (i : ℕ) (d : X) (y : Z) → i < length xs → more ≡ ys ++ y ∷ [] → said (f (get_or xs i d)) y
    → EachOf said (map f (take i xs)) ys → EachOf said (map f (take (i + 1) xs)) more
mapped_more {Y = Y} f said xs ys more i d y lt is here so_far =
    subst (λ (zs : List Y). EachOf said zs more)
    (sym (ap (map f) (take_more xs i d lt) ∙ map-append f (take i xs) (get_or xs i d ∷ [])))
    (each_push said (map f (take i xs)) ys more (f (get_or xs i d)) y is here so_far)

pub loop-source-preserved : goal.loop-source-preserved
loop-source-preserved c =
    mapped_more source_file IsSourceFile c.args.sources.now c.loop-source.files.items
    c.push.new.self.items c.loop-source.source-index _ c.in_ok-file.file c.loop-source-test.true
    c.in_ok-push.ensures.items c.in_ok-file.ensures c.loop-source.invariant
