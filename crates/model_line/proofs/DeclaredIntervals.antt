-- The interval of a parameter is in order, and at most 4000.
use Rattle.std.proofs.Common.{◌≡◌, ◌<◌, ◌≤◌, ℕ, List, length, get_or, sym, ◌∙◌, ap, arith}
use Rattle.std.proofs.lemmas.List.{length-map, get_or-map}
use Rattle.model_line.specs.Intervals.{IsInterval, leasts, greatests}
use Rattle.model_line.specs.Parameters.{param_count, declared_ends}
use Rattle.model_line.specs.{declared.line.Line.Line, declared.line.Param.Param}

pub interval_at : (line : Line) (i : ℕ) (p : Param) → i < param_count line
    → p ≡ get_or line.params.items i p → (p.least ≤ p.greatest) × (p.greatest ≤ 4000)
interval_at line i p lt is =
    let params : List Param = line.params.items in
    let below : i < length (leasts params) =
    omega (arith, length-map params (λ (x : Param). x.least)) in
    let least : get_or (leasts params) i 0 ≡ p.least =
    get_or-map (λ (x : Param). x.least) params i p 0 lt ∙ ap (λ (x : Param). x.least) (sym is) in
    let greatest : get_or (greatests params) i 0 ≡ p.greatest =
    get_or-map (λ (x : Param). x.greatest) params i p 0 lt
    ∙ ap (λ (x : Param). x.greatest) (sym is) in
    let declared : IsInterval (leasts params) (greatests params) i = line.ends_in_range i below in
    (omega (arith, declared.0), omega (arith, declared.1))

-- the same of the declared ends
pub ends_at : (line : Line) (i : ℕ) → i < param_count line
    → ((declared_ends line i).least ≤ (declared_ends line i).greatest)
    × ((declared_ends line i).greatest ≤ 4000)
ends_at line i lt =
    let params : List Param = line.params.items in
    let below : i < length (leasts params) =
    omega (arith, length-map params (λ (x : Param). x.least)) in
    let declared : IsInterval (leasts params) (greatests params) i = line.ends_in_range i below in
    (declared.0, declared.1)

-- a parameter as it stands in the list has its declared ends
pub ends_of_param : (line : Line) (i : ℕ) (p : Param) → i < param_count line
    → p ≡ get_or line.params.items i p
    → (p.least ≡ (declared_ends line i).least) × (p.greatest ≡ (declared_ends line i).greatest)
ends_of_param line i p lt is =
    let params : List Param = line.params.items in
    let least : get_or (leasts params) i 0 ≡ p.least =
    get_or-map (λ (x : Param). x.least) params i p 0 lt ∙ ap (λ (x : Param). x.least) (sym is) in
    let greatest : get_or (greatests params) i 0 ≡ p.greatest =
    get_or-map (λ (x : Param). x.greatest) params i p 0 lt
    ∙ ap (λ (x : Param). x.greatest) (sym is) in
    (sym least, sym greatest)
