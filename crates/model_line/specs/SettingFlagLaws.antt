-- What holds whatever the flags of a terminal are, and of terminals that have none.
use Rattle.std.proofs.Common.{◌≡◌, ◌||◌, ℕ, zero, suc, Bool, true, false, not, refl, List, [], ◌∷◌}
use Rattle.std.proofs.lemmas.Bool.{and_parts}
use Rattle.std.specs.Prelude.{map, get_or}
use Rattle.std.specs.List.{list_all}
use Rattle.model_line.specs.{declared.line.Terminal.Terminal, Terminals.has_no_flag}

-- what holds of a terminal that is guarded and weak, one of both, and neither
pub with_flags : (P : Bool → Bool → Type 0) → P true true → P true false → P false true
    → P false false → (g w : Bool) → P g w
with_flags P both guarded weak neither true true = both
with_flags P both guarded weak neither true false = guarded
with_flags P both guarded weak neither false true = weak
with_flags P both guarded weak neither false false = neither

-- a terminal that has no flag is not weak
not_weak : (weak guard : Bool) → not (weak || guard) ≡ true → weak ≡ false
not_weak true guard h = absurd (cc)
not_weak false guard h = refl

pub none_weak : (ts : List Terminal) (k : ℕ) → list_all has_no_flag ts ≡ true
    → get_or (map (λ t. t.weak) ts) k false ≡ false
none_weak [] zero h = refl
none_weak [] (suc k) h = refl
none_weak (t ∷ ts) zero h =
    not_weak t.weak t.guard (and_parts (has_no_flag t) (list_all has_no_flag ts) h).0
none_weak (t ∷ ts) (suc k) h =
    none_weak ts k (and_parts (has_no_flag t) (list_all has_no_flag ts) h).1
