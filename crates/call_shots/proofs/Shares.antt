-- The shots of faults whose findings stand one after another.
use Rattle.std.proofs.Common.{◌≡◌, ℕ, ◌+◌, ◌-◌, ◌<◌, ◌≤◌, ◌∙◌, List, ◌∷◌, ◌++◌, length, take, drop}
use Rattle.std.proofs.Common.{ap, append_assoc, get_or, sym}
use Rattle.std.specs.Prelude.{min}
use Rattle.std.proofs.lemmas.List.{drop_more}
use Rattle.model_line.specs.{declared.line.Line.Line, declared.script.Script.Script}
use Rattle.model_line.specs.Parameters.{terminal_count}
use Rattle.file_study.specs.declared.sweeps.group.Group.{Group}
use Rattle.call_verdicts.specs.Faults.{findings_of}
use Rattle.call_verdicts.specs.ShareLaws.{left_share, own_share}
use Rattle.call_verdicts.specs.declared.finding.Finding.{Finding}
use Rattle.call_shots.specs.Shots.{fault_shots, shots_from}

-- the shots of one fault more stand behind the others, and those that are left behind them
pub shots_more : (line : Line) (scripts : List Script) (gs : List Group) (found : List Finding)
    (i start end : ℕ) (g : Group) (old new whole : List Finding)
    → i < length gs → g ≡ get_or gs i g → start ≤ length found
    → end ≡ min (start + findings_of line g) (length found)
    → new ≡ old ++ fault_shots line scripts (take (end - start) (drop start found)) (terminal_count line)
    → old ++ shots_from line scripts (drop i gs) (drop start found) ≡ whole
    → new ++ shots_from line scripts (drop (i + 1) gs) (drop end found) ≡ whole
shots_more line scripts gs found i start end g old new whole lt is within end_is new_is whole_is =
    let n : ℕ = findings_of line g in
    let behind : List Group = drop (i + 1) gs in
    let own : take (end - start) (drop start found) ≡ take n (drop start found) =
    rw end_is (own_share n start found within) in
    let left : drop end found ≡ drop n (drop start found) =
    rw end_is (left_share n start found) in
    let first : List Finding =
    fault_shots line scripts (take n (drop start found)) (terminal_count line) in
    let here : shots_from line scripts (drop i gs) (drop start found)
    ≡ first ++ shots_from line scripts behind (drop n (drop start found)) =
    ap (λ (hs : List Group). shots_from line scripts hs (drop start found))
    (drop_more gs i g lt ∙ ap (λ (h : Group). h ∷ behind) (sym is)) in
    ap (λ (ys : List Finding). ys ++ shots_from line scripts behind (drop end found))
    (new_is ∙ ap (λ (fs : List Finding). old ++ fault_shots line scripts fs (terminal_count line)) own)
    ∙ ap (λ (fs : List Finding). (old ++ first) ++ shots_from line scripts behind fs) left
    ∙ append_assoc old first (shots_from line scripts behind (drop n (drop start found)))
    ∙ ap (λ (ys : List Finding). old ++ ys) (sym here)
    ∙ whole_is
