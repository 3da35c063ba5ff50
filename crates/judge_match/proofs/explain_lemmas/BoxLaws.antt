-- The box of a run over a part.
use Rattle.std.proofs.Common.{◌≡◌, ℕ, zero, suc, List, [], ◌∷◌, Some, None, refl, ◌∙◌, ap}
use Rattle.std.proofs.Math.Path.{fun_ext}
use Rattle.std.specs.Prelude.{Option, slice_get, option_map}
use Rattle.model_history.specs.Rails.{Ends}
use Rattle.model_line.specs.declared.line.Line.{Line}
use Rattle.model_line.specs.Parameters.{delay_param}
use Rattle.model_timing.specs.{Timing.number_at}
use Rattle.run_step.specs.LaneBox.{own_ends, own_span, ends_in, ends_at, lane_box}
use Rattle.model_logic.specs.Boxes.{box_by, interval_of}
use Rattle.judge_match.specs.explain.Parts.{part_box}

own : (lane : ℕ) (part : List Ends) (i : ℕ) → own_ends own_span lane part i ≡ interval_of part i
own lane [] zero = refl
own lane [] (suc i) = refl
own lane (x ∷ xs) zero = refl
own lane (x ∷ xs) (suc i) = own lane xs i

no_steps : (lane i t : ℕ) (o : Option Ends)
    → ends_in own_span lane (option_map (number_at [] i t) o) ≡ ends_in own_span lane o
no_steps lane i t None = refl
no_steps lane i t (Some x) = refl

at_tick : (lane : ℕ) (part : List Ends) (i t : ℕ)
    → ends_at own_span lane part [] i t ≡ interval_of part i
at_tick lane part i t = no_steps lane i t (slice_get part i) ∙ own lane part i

pub box_is : (line : Line) (part : List Ends) (lane : ℕ)
    → lane_box own_span line part [] lane ≡ part_box line part
unfolding lane_box
box_is line part lane =
    ap (λ (ends : ℕ → Ends).
    box_by ends (λ c t. ends_at own_span lane part [] (delay_param line c) t))
    (fun_ext (own lane part))
    ∙ ap (box_by (interval_of part))
    (fun_ext (λ c. fun_ext (λ t. at_tick lane part (delay_param line c) t)))
