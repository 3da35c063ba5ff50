-- What is told of faults whose scripts stand one after another.
use Rattle.std.proofs.Common.{◌≡◌, ◌≤◌, ◌<◌, ◌-◌, ℕ, Bool, false, List, [], ◌∷◌, length, take, drop, subst, ap, ◌∙◌, arith}
use Rattle.std.specs.Prelude.{◌||◌, get_or, min}
use Rattle.std.proofs.lemmas.List.{drop_min, take_min, take_rest}
use Rattle.model_line.specs.{declared.line.Line.Line, declared.script.Script.Script}
use Rattle.file_study.specs.declared.sweeps.group.Group.{Group}
use Rattle.call_races.specs.Races.{Adds, OfFault, OfFaults}
use Rattle.call_races.proofs.Telling.{adds_both, adds_nothing}

pub faults_none : (line : Line) (groups : List Group) (scripts : List Script) (old : List ℕ)
    → length groups < 1 → Adds (OfFaults line groups scripts) old old false
faults_none line [] scripts old none = adds_nothing old
faults_none line (group ∷ more) scripts old none = absurd (omega (arith, none))

-- of the first fault, and of those behind it
pub faults_more : (line : Line) (groups : List Group) (group : Group) (scripts : List Script) (own : ℕ)
    (old middle new : List ℕ) (first others both : Bool) → 1 ≤ length groups
    → group ≡ get_or groups 0 group → own ≡ min (length group.swept.items) (length scripts)
    → Adds (OfFault line group (take own scripts)) old middle first
    → Adds (OfFaults line (take (length groups - 1) (drop 1 groups))
    (take (length scripts - own) (drop own scripts))) middle new others
    → both ≡ first || others → Adds (OfFaults line groups scripts) old new both
faults_more line [] group scripts own old middle new first others both some is own_is one more both_is =
    absurd (omega (arith, some))
faults_more line (g ∷ gs) group scripts own old middle new first others both some is own_is one more both_is =
    let n : ℕ = length group.swept.items in
    let taken : take own scripts ≡ take n scripts = ap (λ (k : ℕ). take k scripts) own_is ∙ take_min n scripts in
    let left : drop own scripts ≡ drop n scripts = ap (λ (k : ℕ). drop k scripts) own_is ∙ drop_min n scripts in
    let P : List Script → Type 0 = λ l. Adds (OfFault line group l) old middle first in
    let Q : List Script → Type 0 = λ l. Adds (OfFaults line gs l) middle new others in
    let T : List Group → Type 0 = λ l. Adds (OfFaults line l (take (length scripts - own) (drop own scripts))) middle new others in
    let R : Group → Type 0 = λ h. Adds (OfFault line h (take (length h.swept.items) scripts)) old middle first in
    let S : Group → Type 0 = λ h. Adds (OfFaults line gs (drop (length h.swept.items) scripts)) middle new others in
    adds_both (OfFault line g (take (length g.swept.items) scripts))
    (OfFaults line gs (drop (length g.swept.items) scripts)) old middle new first others both
    (subst R is (subst P taken one)) (subst S is (subst Q (take_rest scripts own ∙ left) (subst T (take_rest (g ∷ gs) 1) more))) both_is
