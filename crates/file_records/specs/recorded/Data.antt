-- The data of a play as a record: a sample for each tick.
use Rattle.std.specs.Prelude.{◌+◌, ◌*◌, ◌++◌, ℕ, Bool, List, [], ◌∷◌, codes, decimal, length}
use Rattle.std.specs.List.{concat}
use Rattle.model_history.specs.Each.{each_below}
use Rattle.model_line.specs.{declared.line.Line.Line, declared.script.Script.Script}
use Rattle.model_line.specs.declared.script.{Element.Element}
use Rattle.model_line.specs.declared.script.Element.TheVariants.{Z1, Z2, Rv, Uv, Cur}
use Rattle.model_line.specs.{Parameters.terminal_count, Seen.is_lost, Seen.is_seen}
use Rattle.model_logic.specs.Histories.{History}
use Rattle.run_changes.specs.rows.PlayRows.{level_word}
use Rattle.file_records.specs.recorded.Config.{line_end}

-- a level behind a comma
abbrev pub level_field : Bool → List ℕ
level_field level = concat (codes "," ∷ level_word level ∷ [])

abbrev pub seen_field : Script → ℕ → ℕ → Element → List ℕ
seen_field script t k element =
    level_field (is_seen script.spans.items (record { element = element; terminal = k }) t)

-- all that a terminal sees
abbrev pub all_seen : Script → ℕ → ℕ → List ℕ
all_seen script t k =
    seen_field script t k Z1 ++ seen_field script t k Z2 ++ seen_field script t k Rv
    ++ seen_field script t k Uv ++ seen_field script t k Cur

-- what a terminal sees, keys and trips at a tick, in the order of the configuration
abbrev pub terminal_fields : Script → History → ℕ → ℕ → List ℕ
terminal_fields script h t k =
    all_seen script t k ++ level_field (h.key k t) ++ level_field (h.trip k t)

abbrev pub loss_field : Script → ℕ → ℕ → List ℕ
loss_field script t c = level_field (is_lost script.spans.items c t)

-- its number and its stamp
abbrev pub sample_head : Line → ℕ → List ℕ
sample_head line t = concat (decimal (t + 1) ∷ codes "," ∷ decimal (t * line.tick_us) ∷ [])

abbrev pub sample_text : Line → Script → History → ℕ → List ℕ
sample_text line script h t =
    sample_head line t ++ each_below (terminal_count line) (terminal_fields script h t)
    ++ each_below (length line.channels.items) (loss_field script t) ++ line_end

abbrev pub data_text : Line → Script → History → List ℕ
data_text line script h = each_below line.horizon (sample_text line script h)
