use Rattle.std.proofs.Common.{◌≡◌, ◌<◌, ◌≤◌, ◌+◌, ◌++◌, ◌∷◌, [], ℕ, List, length, get_or, take}
use Rattle.std.proofs.Common.{sym, ◌∙◌, ap, subst, arith}
use Rattle.std.proofs.Math.Seq.{take-length}
use Rattle.std.proofs.lemmas.List.{length-map, take_more}
use Rattle.model_line.specs.Intervals.{IsInterval, leasts, greatests}
use Rattle.model_line.specs.Parameters.{param_count, declared_ends}
use Rattle.model_line.specs.declared.line.{Line.Line, Param.Param}
use Rattle.model_logic.specs.Choice.{IsIn}
use Rattle.model_timing.specs.Inside.{IsTimingInside}
use Rattle.cert_claims.specs.check.Refutations.{steady_timing}
use Rattle.cert_claims.proofs.check.refutation.ticks_of.Goals as goal

-- a number inside is at most 4000
number_low : (line : Line) (values : List ℕ) (i : ℕ) → IsTimingInside line (steady_timing values)
    → i < length values → get_or values i 0 ≤ 4000
number_low line values i inside lt =
    let params : List Param = line.params.items in
    let here : i < param_count line = omega (arith, lt, inside.count) in
    let below : i < length (leasts params) =
    omega (arith, here, length-map params (λ (p : Param). p.least)) in
    let declared : IsInterval (leasts params) (greatests params) i = line.ends_in_range i below in
    let own : IsIn (get_or values i 0) (declared_ends line i) = inside.values i here in
    omega (arith, own.greatest, declared.1)

-- one number more
one_more : (values old new : List ℕ) (i x : ℕ) → i < length values → old ≡ take i values
    → x ≡ get_or values i 0 → new ≡ old ++ (x ∷ []) → new ≡ take (i + 1) values
one_more values old new i x lt so is made =
    made ∙ ap (λ (l : List ℕ). l ++ (x ∷ [])) so ∙ ap (λ (y : ℕ). take i values ++ (y ∷ [])) is
    ∙ sym (take_more values i 0 lt)

pub loop-value-init : goal.loop-value-init
loop-value-init c = c.in_ok-ticks.ensures.items

pub new-requires : goal.new-requires
new-requires c =
    number_low c.args.line.now c.args.values.now c.loop-value.value-index c.requires
    c.loop-value-test.true

pub loop-value-preserved : goal.loop-value-preserved
loop-value-preserved c =
    one_more c.args.values.now c.loop-value.ticks.items c.push.new.self.items c.loop-value.value-index
    c.new.result c.loop-value-test.true c.loop-value.invariant c.new.ensures c.in_ok-push.ensures.items

pub returns : goal.returns
returns c =
    let all : length c.args.values.now ≡ c.loop-value.value-index =
    omega (arith, c.loop-value-test.false, c.loop-value.auto.value-index-end) in
    c.loop-value.invariant
    ∙ subst (λ (n : ℕ). take n c.args.values.now ≡ c.args.values.now) all
    (take-length c.args.values.now)
