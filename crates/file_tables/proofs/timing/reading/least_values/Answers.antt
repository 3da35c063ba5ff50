use Rattle.std.proofs.Common.{◌≡◌, ◌<◌, ◌+◌, ◌++◌, ℕ, length, List, [], ◌∷◌, map, take, get_or}
use Rattle.std.proofs.Common.{ap, sym, ◌∙◌, subst, arith}
use Rattle.std.proofs.lemmas.List.{get_or-map, length-map, map-append, take_more}
use Rattle.model_line.specs.{declared.line.Param.Param, Intervals.leasts}
use Rattle.file_tables.proofs.timing.reading.least_values.Goals as goal

pub new-requires : goal.new-requires
new-requires c =
    let ps : List Param = c.args.line.now.params.items in
    let i = c.loop-param.param-index in
    let same = c.deref-param-items.ensures.value in
    let inside : i < length ps = omega (arith, ap length same) in
    let below : i < length (leasts ps) = omega (arith, length-map ps (λ (p : Param). p.least)) in
    let bounds = c.args.line.now.ends_in_range i below in
    let least = get_or-map (λ (p : Param). p.least) ps i c.param-item.result 0 inside in
    let here = ap (λ (p : Param). p.least) c.param-item.is in
    let there = ap (λ (xs : List Param). (get_or xs i c.param-item.result).least) same in
    omega (arith, bounds.0, bounds.1, least, here, there)

pub loop-param-preserved : goal.loop-param-preserved
loop-param-preserved c =
    let ps : List Param = c.args.line.now.params.items in
    let i = c.loop-param.param-index in
    let p : Param = c.param-item.result in
    let same : c.deref-param-items.result.now ≡ ps = c.deref-param-items.ensures.value in
    let least : Param → ℕ = λ x. x.least in
    let inside : i < length ps =
    subst (λ (l : List Param). i < length l) same c.loop-param-test.true in
    let here : p ≡ get_or ps i p =
    c.param-item.is ∙ ap (λ (l : List Param). get_or l i p) same in
    let more : map least (take (i + 1) ps) ≡ map least (take i ps) ++ p.least ∷ [] =
    ap (map least) (take_more ps i p inside)
    ∙ ap (λ (x : Param). map least (take i ps ++ x ∷ [])) (sym here)
    ∙ map-append least (take i ps) (p ∷ []) in
    c.in_ok-push.ensures.items
    ∙ ap (λ (v : ℕ). c.loop-param.values.items ++ v ∷ []) c.new.ensures
    ∙ ap (λ (l : List ℕ). l ++ p.least ∷ []) c.loop-param.invariant
    ∙ sym more
