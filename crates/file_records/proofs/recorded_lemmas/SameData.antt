-- The data of histories that are the same.
use Rattle.std.proofs.Common.{◌≡◌, ◌++◌, ℕ, Bool, List, ◌∙◌, ap, length}
use Rattle.model_history.specs.Each.{each_below}
use Rattle.model_history.specs.EachLaws.{each_below-same}
use Rattle.model_line.specs.{declared.line.Line.Line, declared.script.Script.Script}
use Rattle.model_line.specs.Parameters.{terminal_count}
use Rattle.model_logic.specs.Histories.{History, IsSameHistory}
use Rattle.file_records.specs.recorded.Config.{line_end}
use Rattle.file_records.specs.recorded.Data.{all_seen, data_text, level_field, loss_field, sample_head}
use Rattle.file_records.specs.recorded.Data.{sample_text, terminal_fields}

-- the data speak of the line's terminals and ticks alone
pub data_same : (line : Line) (script : Script) (g h : History) → IsSameHistory line g h
    → data_text line script g ≡ data_text line script h
data_same line script g h same =
    each_below-same line.horizon (sample_text line script g) (sample_text line script h)
    (λ t early.
    let losses : List ℕ = each_below (length line.channels.items) (loss_field script t) in
    ap (λ (l : List ℕ). ((sample_head line t ++ l) ++ losses) ++ line_end)
    (each_below-same (terminal_count line) (terminal_fields script g t)
    (terminal_fields script h t)
    (λ k there.
    let shown : List ℕ = all_seen script t k in
    ap (λ (b : Bool). (shown ++ level_field b) ++ level_field (g.trip k t)) (same.keys k t there early)
    ∙ ap (λ (b : Bool). (shown ++ level_field (h.key k t)) ++ level_field b) (same.trips k t there early))))
