-- The spans of the declared intervals make the declared box, also over a line that is played on.
use Rattle.std.proofs.Common.{◌≡◌, ℕ, zero, suc, List, [], ◌∷◌, refl, ap, ◌∙◌}
use Rattle.std.proofs.Math.Path.{fun_ext}
use Rattle.std.specs.Prelude.{get_or, map, unwrap_or}
use Rattle.model_history.specs.Rails.{Ends, single}
use Rattle.run_signal.specs.Spans.{ends_of}
use Rattle.model_line.specs.declared.{line.Line.Line, line.Param.Param, line.Scheme.Scheme}
use Rattle.model_line.specs.declared.{line.Terminal.Terminal, line.Channel.Channel}
use Rattle.model_line.specs.declared.line.Owner.TheVariants as owner
use Rattle.model_line.specs.declared.line.Setting.TheVariants.{Delay}
use Rattle.model_line.specs.Intervals.{greatests, leasts}
use Rattle.model_line.specs.Settings.{line_settings, setting_number}
use Rattle.model_line.specs.Parameters.{declared_ends, delay_param}
use Rattle.model_logic.specs.Choice.{Box, declared_box}
use Rattle.model_fine.specs.Onward.{IsPlayedOn}
use Rattle.run_borders.specs.LooseRuns.{steady_box}
use Rattle.judge_verdict.specs.verdict.Spans.{declared_span, declared_spans}

span_own : (params : List Param) (i : ℕ)
    → get_or (map declared_span params) i (single 0)
    ≡ ends_of (get_or (leasts params) i 0) (get_or (greatests params) i 0)
span_own [] i = refl
span_own (p ∷ params) zero = refl
span_own (p ∷ params) (suc i) = span_own params i

pub delay_same : (line long : Line) → IsPlayedOn line long → (c : ℕ) → delay_param long c ≡ delay_param line c
delay_same line long on c =
    ap (λ (s : Scheme). unwrap_or (setting_number (line_settings s long.terminals.items long.channels.items)
    (owner.Channel c) Delay) 0) on.scheme
    ∙ ap (λ (l : List Terminal). unwrap_or (setting_number (line_settings line.scheme l long.channels.items)
    (owner.Channel c) Delay) 0) on.terminals
    ∙ ap (λ (l : List Channel). unwrap_or (setting_number (line_settings line.scheme line.terminals.items l)
    (owner.Channel c) Delay) 0) on.channels

pub span_at : (line : Line) (spans : List Ends) → spans ≡ declared_spans line → (i : ℕ)
    → get_or spans i (single 0) ≡ declared_ends line i
span_at line spans is i = ap (λ (l : List Ends). get_or l i (single 0)) is ∙ span_own line.params.items i

box_by : (ℕ → Ends) → (ℕ → ℕ → Ends) → Box
box_by ends delay = record { ends = ends; delay = delay }

pub box_is : (line long : Line) (spans : List Ends) → IsPlayedOn line long → spans ≡ declared_spans line
    → steady_box long spans ≡ declared_box line
unfolding steady_box declared_box box_by
box_is line long spans on is =
    let own : (i : ℕ) → get_or spans i (single 0) ≡ declared_ends line i =
    λ i. ap (λ (l : List Ends). get_or l i (single 0)) is ∙ span_own line.params.items i in
    let ends : (λ (i : ℕ). get_or spans i (single 0)) ≡ declared_ends line = fun_ext own in
    let delays : (λ (c t : ℕ). get_or spans (delay_param long c) (single 0))
    ≡ (λ (c t : ℕ). declared_ends line (delay_param line c)) =
    fun_ext (λ c. fun_ext (λ t.
    own (delay_param long c) ∙ ap (declared_ends line) (delay_same line long on c))) in
    ap (λ (f : ℕ → Ends). box_by f (λ (c t : ℕ). get_or spans (delay_param long c) (single 0))) ends
    ∙ ap (box_by (declared_ends line)) delays
