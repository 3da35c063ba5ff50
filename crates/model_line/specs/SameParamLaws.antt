-- Parameters are what their names and intervals are.
use Rattle.std.proofs.Common.{◌≡◌, ◌∙◌, ℕ, List, [], ◌∷◌, map, refl, ap}
use Rattle.model_line.specs.{declared.line.Param.Param, Intervals.leasts, Intervals.greatests}

param_by : (x y : Param) → x.name ≡ y.name → x.least ≡ y.least → x.greatest ≡ y.greatest → x ≡ y
param_by x y name least greatest =
    ap (λ n. record { name = n; least = x.least; greatest = x.greatest }) name
    ∙ ap (λ (n : ℕ). record { name = y.name; least = n; greatest = x.greatest }) least
    ∙ ap (λ (n : ℕ). record { name = y.name; least = y.least; greatest = n }) greatest

pub params_by : (a b : List Param) → map (λ p. p.name) a ≡ map (λ p. p.name) b → leasts a ≡ leasts b
    → greatests a ≡ greatests b → a ≡ b
params_by [] [] names low high = refl
params_by [] (y ∷ b) names low high = absurd (cc)
params_by (x ∷ a) [] names low high = absurd (cc)
params_by (x ∷ a) (y ∷ b) names low high =
    let name : x.name ≡ y.name = cc in
    let least : x.least ≡ y.least = cc in
    let greatest : x.greatest ≡ y.greatest = cc in
    let same : x ≡ y = param_by x y name least greatest in
    let later : a ≡ b = params_by a b (cc) (cc) (cc) in
    ap (λ (p : Param). p ∷ a) same ∙ ap (λ (ps : List Param). y ∷ ps) later
