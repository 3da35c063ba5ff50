-- The choices of a fault and their scripts, one after another.
use Rattle.std.proofs.Common.{◌≡◌, ◌+◌, ◌-◌, ◌*◌, ◌/◌, ◌<◌, ◌++◌, ℕ, suc, List, [], ◌∷◌, sym, ◌∙◌}
use Rattle.std.proofs.Common.{ap, refl, length, get_or, drop, map, Option, None, Some, arith}
use Rattle.std.proofs.Common.{append_assoc}
use Rattle.std.proofs.lemmas.List.{drop_more, map_push}
use Rattle.model_line.specs.declared.script.Script.{Script}
use Rattle.file_tables.specs.script.Values.{ScriptValues, values_of}
use Rattle.file_study.specs.declared.study.stage.Stage.{Stage}
use Rattle.file_study.specs.study.Faults.{FaultValues, stage_values}
use Rattle.file_study.specs.sweeps.Choices.{choice_of, lasts_at, value_at}
use Rattle.file_study.specs.sweeps.Scripts.{script_of}
use Rattle.file_study.specs.sweeps.Sweeps.{limited, counted, script_name, scripts_from}

-- a choice has a value for each stage
pub length_lasts : (ss : List Stage) (k : ℕ)
    → length (lasts_at (map stage_values ss) k) ≡ length ss
length_lasts [] k = refl
length_lasts (s ∷ ss) k = ap suc (length_lasts ss _)

-- how long one stage more lasts
pub lasts_more : (ss : List Stage) (i left : ℕ) (x : Stage) (done : List ℕ) (v rest : ℕ)
    (total : List ℕ) → i < length ss → x ≡ get_or ss i x → v ≡ value_at x.lasts.items left
    → rest ≡ left / length x.lasts.items
    → done ++ lasts_at (map stage_values (drop i ss)) left ≡ total
    → (done ++ v ∷ []) ++ lasts_at (map stage_values (drop (i + 1) ss)) rest ≡ total
lasts_more ss i left x done v rest total below is value behind so_far =
    let more : List ℕ = lasts_at (map stage_values (drop (i + 1) ss)) rest in
    let step : v ∷ more ≡ lasts_at (map stage_values (drop i ss)) left =
    ap (λ (w : ℕ). w ∷ more) value
    ∙ (ap (λ (n : ℕ). value_at x.lasts.items left ∷ lasts_at (map stage_values (drop (i + 1) ss)) n)
    behind
    ∙ sym (ap (λ (r : List Stage). lasts_at (map stage_values r) left)
    (drop_more ss i x below ∙ ap (λ (y : Stage). y ∷ drop (i + 1) ss) (sym is)))) in
    append_assoc done (v ∷ []) more ∙ (ap (λ (r : List ℕ). done ++ r) step ∙ so_far)

counted_nil : (n : Option ℕ) → counted n [] ≡ n
counted_nil None = refl
counted_nil (Some n) = refl

counted_none : (ts : List (List ℕ)) → counted None ts ≡ None
counted_none [] = refl
counted_none (t ∷ ts) = refl

-- one time, and then the others
pub counted_more : (n : Option ℕ) (t : List ℕ) (ts : List (List ℕ))
    → counted (counted n (t ∷ [])) ts ≡ counted n (t ∷ ts)
counted_more None t ts = counted_none ts
counted_more (Some n) t ts = ap (λ m. counted m ts) (counted_nil (limited (n * length t)))

-- the first two times
pub counted_first : (a b : Option ℕ) (s t : List ℕ) (ts : List (List ℕ))
    → a ≡ counted (Some 1) (s ∷ []) → b ≡ counted a (t ∷ [])
    → counted b ts ≡ counted (Some 1) (s ∷ t ∷ ts)
counted_first a b s t ts ha hb =
    ap (λ m. counted m ts) hb
    ∙ (counted_more a t ts
    ∙ (ap (λ m. counted m (t ∷ ts)) ha ∙ counted_more (Some 1) s (t ∷ ts)))

-- the times of the stages
abbrev pub times : List Stage → List (List ℕ)
times ss = map (λ s. s.lasts) (map stage_values ss)

pub counted_step : (n m : Option ℕ) (ss : List Stage) (i : ℕ) (x : Stage) → i < length ss
    → x ≡ get_or ss i x → m ≡ counted n (x.lasts.items ∷ [])
    → counted m (times (drop (i + 1) ss)) ≡ counted n (times (drop i ss))
counted_step n m ss i x h is hm =
    ap (λ c. counted c (times (drop (i + 1) ss))) hm
    ∙ (counted_more n x.lasts.items (times (drop (i + 1) ss))
    ∙ sym (ap (λ r. counted n (times r))
    (drop_more ss i x h ∙ ap (λ y. y ∷ drop (i + 1) ss) (sym is))))

-- the script of the next choice
pub scripts_more : (f : FaultValues) (count k : ℕ) (done : List Script) (s : Script)
    (total : List ScriptValues) → k < count
    → values_of s ≡ script_of (script_name f count k) f (choice_of f k)
    → map values_of done ++ scripts_from f count k (count - k) ≡ total
    → map values_of (done ++ s ∷ []) ++ scripts_from f count (k + 1) (count - (k + 1)) ≡ total
scripts_more f count k done s total h is so_far =
    let left : suc (count - (k + 1)) ≡ count - k = omega (arith, h) in
    let rest = scripts_from f count (k + 1) (count - (k + 1)) in
    ap (λ r. r ++ rest) (map_push values_of done s)
    ∙ (append_assoc (map values_of done) (values_of s ∷ []) rest
    ∙ (ap (λ v. map values_of done ++ v ∷ rest) is
    ∙ (ap (λ n. map values_of done ++ scripts_from f count k n) left ∙ so_far)))
