-- An id among borrowed ids, and among what they are.
use Rattle.std.proofs.Common.{◌≡◌, ◌∙◌, ℕ, Bool, List, [], ◌∷◌, Some, refl, sym, ap}
use Rattle.std.proofs.Common.{not, cond, drop, take, length, ◌-◌, None, position, if◌then◌else◌}
use Rattle.std.proofs.lemmas.List.{drop-map, length-map, take_rest}
use Rattle.std.specs.Borrow.{Bor}
use Rattle.std.specs.List.{list_any, position_or_len}
use Rattle.std.specs.Prelude.{◌||◌, ◌+◌}
use Rattle.std.specs.Str.{bytes_eq}
use Rattle.file_comtrade.specs.Named.{alone_at, has_id, is_it, named_in}
use Rattle.file_comtrade.specs.Views.{texts}
use Rattle.file_comtrade.specs.declared.channel.Named.TheVariants.{Nothing, One, More}

first_place : (id : List ℕ) (ids : List (Bor (List ℕ)))
    → position_or_len (has_id id) (texts ids) ≡ position_or_len (is_it id) ids
first_place id [] = refl
first_place id (x ∷ xs) = ap (λ n. cond (not (bytes_eq x.now id)) (1 + n) 0) (first_place id xs)

pub named_position : (id : List ℕ) (ids : List (Bor (List ℕ)))
    → position (has_id id) (texts ids) ≡ position (is_it id) ids
named_position id ids = rw (first_place id ids, length-map ids (λ (o : Bor (List ℕ)). o.now))

pub named_any : (id : List ℕ) (ids : List (Bor (List ℕ)))
    → list_any (has_id id) (texts ids) ≡ list_any (is_it id) ids
named_any id [] = refl
named_any id (x ∷ xs) = ap (λ b. bytes_eq x.now id || b) (named_any id xs)

-- what an id names, where no channel has it
pub named_none : (ids : List (Bor (List ℕ))) (id : List ℕ) → None ≡ position (is_it id) ids
    → Nothing ≡ named_in (texts ids) id
named_none ids id none = ap (alone_at (texts ids) id) (none ∙ sym (named_position id ids))

-- where one has it, and one behind that has it or not
pub named_alone : (ids : List (Bor (List ℕ))) (id : List ℕ) (i : ℕ) (again : Bool)
    → Some i ≡ position (is_it id) ids
    → again ≡ list_any (is_it id) (take (length ids - (i + 1)) (drop (i + 1) ids))
    → (if again then More else One i) ≡ named_in (texts ids) id
named_alone ids id i again first behind =
    let rest = take_rest ids (i + 1) in
    let there = behind ∙ ap (λ (others : List (Bor (List ℕ))). list_any (is_it id) others) rest
    ∙ sym (named_any id (drop (i + 1) ids))
    ∙ ap (λ (others : List (List ℕ)). list_any (has_id id) others)
    (sym (drop-map (λ (o : Bor (List ℕ)). o.now) (i + 1) ids)) in
    ap (λ (b : Bool). if b then More else One i) there
    ∙ ap (alone_at (texts ids) id) (first ∙ sym (named_position id ids))
