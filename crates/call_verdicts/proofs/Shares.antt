-- The records of faults whose findings stand one after another.
use Rattle.std.proofs.Common.{◌≡◌, ℕ, ◌+◌, ◌-◌, ◌<◌, ◌≤◌, ◌∙◌, List, ◌∷◌, ◌++◌, length, take, drop}
use Rattle.std.proofs.Common.{ap, append_assoc, get_or, sym}
use Rattle.std.specs.Prelude.{min}
use Rattle.std.proofs.lemmas.List.{drop_more}
use Rattle.model_line.specs.{declared.line.Line.Line, declared.script.Script.Script}
use Rattle.model_line.specs.Parameters.{terminal_count}
use Rattle.file_study.specs.declared.sweeps.group.Group.{Group}
use Rattle.call_verdicts.specs.Faults.{fault_records, faults_from, findings_of}
use Rattle.call_verdicts.specs.ShareLaws.{left_share, own_share}
use Rattle.call_verdicts.specs.declared.finding.Finding.{Finding}

-- the records of one fault more stand behind the others, and those that are left behind them
pub fault_more : (line : Line) (scripts : List Script) (gs : List Group) (found : List Finding)
    (i start end : ℕ) (g : Group) (old new whole : List ℕ)
    → i < length gs → g ≡ get_or gs i g → start ≤ length found
    → end ≡ min (start + findings_of line g) (length found)
    → new ≡ old ++ fault_records line scripts g (take (end - start) (drop start found)) (terminal_count line)
    → old ++ faults_from line scripts (drop i gs) (drop start found) ≡ whole
    → new ++ faults_from line scripts (drop (i + 1) gs) (drop end found) ≡ whole
fault_more line scripts gs found i start end g old new whole lt is within end_is new_is whole_is =
    let n : ℕ = findings_of line g in
    let behind : List Group = drop (i + 1) gs in
    let own : take (end - start) (drop start found) ≡ take n (drop start found) =
    rw end_is (own_share n start found within) in
    let left : drop end found ≡ drop n (drop start found) =
    rw end_is (left_share n start found) in
    let first : List ℕ =
    fault_records line scripts g (take n (drop start found)) (terminal_count line) in
    let here : faults_from line scripts (drop i gs) (drop start found)
    ≡ first ++ faults_from line scripts behind (drop n (drop start found)) =
    ap (λ (hs : List Group). faults_from line scripts hs (drop start found))
    (drop_more gs i g lt ∙ ap (λ (h : Group). h ∷ behind) (sym is)) in
    ap (λ (ys : List ℕ). ys ++ faults_from line scripts behind (drop end found))
    (new_is ∙ ap (λ (fs : List Finding). old ++ fault_records line scripts g fs (terminal_count line)) own)
    ∙ ap (λ (fs : List Finding). (old ++ first) ++ faults_from line scripts behind fs) left
    ∙ append_assoc old first (faults_from line scripts behind (drop n (drop start found)))
    ∙ ap (λ (ys : List ℕ). old ++ ys) (sym here)
    ∙ whole_is
