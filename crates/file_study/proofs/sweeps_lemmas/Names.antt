-- The names of scripts, and those that stand before one of them.
use Rattle.std.proofs.Common.{◌≡◌, ◌||◌, ◌+◌, ◌<◌, ℕ, zero, suc, Bool, true, false, arith, List, []}
use Rattle.std.proofs.Common.{◌∷◌, ◌++◌, map, ap, ◌∙◌}
use Rattle.std.proofs.Common.{refl, sym, subst, append_assoc, get_or, take, length}
use Rattle.std.proofs.lemmas.List.{take_more, take-map}
use Rattle.std.proofs.lemmas.List.Folds.{list_any-append}
use Rattle.std.specs.List.{list_any}
use Rattle.std.specs.Str.{bytes_eq}
use Rattle.model_line.specs.declared.script.Script.{Script}
use Rattle.base_records.specs.ListLaws.{list_any-map}
use Rattle.file_tables.specs.{script.SoFar.AreOnce, script.SoFar.names_in, script.Values.values_of}
use Rattle.file_tables.specs.script.OnceLaws.{once_more}
use Rattle.file_study.specs.sweeps.Studies.{script_names}

-- a script with this name is one of two lists
pub among : (done own : List Script) (name : List ℕ)
    → list_any (λ x. bytes_eq x name) (script_names done ++ script_names own)
    ≡ (list_any (λ s. bytes_eq s.name name) done || list_any (λ s. bytes_eq s.name name) own)
among done own name =
    let p : List ℕ → Bool = λ x. bytes_eq x name in
    let name_of : Script → List ℕ = λ s. s.name in
    list_any-append p (script_names done) (script_names own)
    ∙ (ap (λ b. b || list_any p (script_names own)) (list_any-map name_of p done)
    ∙ ap (λ b. list_any (λ s. bytes_eq s.name name) done || b) (list_any-map name_of p own))

or_then : (b l m : Bool) → b ≡ true → b ≡ l → b ≡ (l || m)
or_then b true m t e = t
or_then b false m t e = absurd (let clash : true ≡ false = sym t ∙ e in cc)

or_else : (a b l m : Bool) → a ≡ false → a ≡ l → b ≡ m → b ≡ (l || m)
or_else a b true m f e is = absurd (let clash : true ≡ false = sym e ∙ f in cc)
or_else a b false m f e is = is

-- the first list has it
pub among_first : (done own : List Script) (name : List ℕ) (r : Bool) → r ≡ true
    → r ≡ list_any (λ s. bytes_eq s.name name) done
    → r ≡ list_any (λ x. bytes_eq x name) (script_names done ++ script_names own)
among_first done own name r t e =
    or_then r (list_any (λ s. bytes_eq s.name name) done)
    (list_any (λ s. bytes_eq s.name name) own) t e ∙ sym (among done own name)

-- the first list has it not
pub among_second : (done own : List Script) (name : List ℕ) (a r : Bool) → a ≡ false
    → a ≡ list_any (λ s. bytes_eq s.name name) done
    → r ≡ list_any (λ s. bytes_eq s.name name) own
    → r ≡ list_any (λ x. bytes_eq x name) (script_names done ++ script_names own)
among_second done own name a r f e is =
    or_else a r (list_any (λ s. bytes_eq s.name name) done)
    (list_any (λ s. bytes_eq s.name name) own) f e is ∙ sym (among done own name)

-- the name of script k
pub name_at : (own : List Script) (k : ℕ) (s : Script) → k < length own → s ≡ get_or own k s
    → get_or (script_names own) k [] ≡ s.name
name_at (x ∷ own) zero s below is = ap (λ (r : Script). r.name) (sym is)
name_at (x ∷ own) (suc k) s below is = name_at own k s (omega (arith, below)) is
name_at [] k s below is = absurd (omega (arith, below))

-- those that stand before script k
pub before_at : (done own front : List Script) (k : ℕ) (s : Script) (r : Bool)
    → k < length own → s ≡ get_or own k s → front ≡ take k own
    → r ≡ list_any (λ x. bytes_eq x s.name) (script_names done ++ script_names front)
    → r ≡ list_any (λ x. bytes_eq x (get_or (script_names own) k []))
    (script_names done ++ take k (script_names own))
before_at done own front k s r below is front_is e =
    let name_of : Script → List ℕ = λ s. s.name in
    let names : script_names front ≡ take k (script_names own) =
    ap script_names front_is ∙ sym (take-map name_of k own) in
    e ∙ (ap (λ (ns : List (List ℕ)). list_any (λ x. bytes_eq x s.name) (script_names done ++ ns))
    names
    ∙ ap (λ (n : List ℕ).
    list_any (λ x. bytes_eq x n) (script_names done ++ take k (script_names own)))
    (sym (name_at own k s below is)))

-- the names of the values are those of the scripts
pub values_names : (scripts : List Script) → names_in (map values_of scripts) ≡ script_names scripts
values_names [] = refl
values_names (s ∷ scripts) = ap (λ (r : List (List ℕ)). s.name ∷ r) (values_names scripts)

-- one name more, which none before it has
pub next_new : (done own : List (List ℕ)) (k : ℕ) → k < length own → AreOnce (done ++ take k own)
    → list_any (λ x. bytes_eq x (get_or own k [])) (done ++ take k own) ≡ false
    → AreOnce (done ++ take (k + 1) own)
next_new done own k below once new =
    let name : List ℕ = get_or own k [] in
    subst (λ (ns : List (List ℕ)). AreOnce ns)
    (append_assoc done (take k own) (name ∷ [])
    ∙ ap (λ (r : List (List ℕ)). done ++ r) (sym (take_more own k [] below)))
    (once_more (done ++ take k own) name once new)
