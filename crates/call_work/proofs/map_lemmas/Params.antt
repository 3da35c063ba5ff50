-- Parameters that there are.
use Rattle.std.proofs.Common.{◌<◌, ℕ, List, subst}
use Rattle.std.specs.List.{All}
use Rattle.std.proofs.lemmas.List.Elements.{All-get_or}
use Rattle.std.proofs.lemmas.Option.{get_or_from_slice_get, slice_get_within}
use Rattle.model_line.specs.{declared.line.Line.Line, Parameters.param_count}
use Rattle.judge_margins.specs.map.Placed.{AreOfLine}

pub are_params : (line : Line) (params : List ℕ) → All (λ p. p < param_count line) params
    → AreOfLine line params
are_params line params all i param at =
    subst (λ (p : ℕ). p < param_count line) (get_or_from_slice_get params i param param at)
    (All-get_or (λ p. p < param_count line) params i param (slice_get_within params i param at) all)
