-- The spans of the declared intervals make the declared box.
use Rattle.std.proofs.Common.{◌≡◌, ◌<◌, ◌≤◌, ℕ, List, [], length, get_or, map, Option}
use Rattle.std.proofs.Common.{sym, ◌∙◌, ap, subst, arith, ⊎_elim}
use Rattle.std.proofs.Math.Path.{fun_ext}
use Rattle.std.proofs.lemmas.List.{length-map, get_or_past, get_or-map}
use Rattle.std.proofs.lemmas.Option.{slice_get-map, slice_get_cases}
use Rattle.std.specs.Prelude.{slice_get, option_map}
use Rattle.model_history.specs.Rails.{Ends}
use Rattle.run_signal.specs.Spans.{ends_of}
use Rattle.model_line.specs.Intervals.{IsInterval, leasts, greatests}
use Rattle.model_line.specs.Parameters.{delay_param, declared_ends}
use Rattle.model_line.specs.{declared.line.Line.Line, declared.line.Param.Param}
use Rattle.model_logic.specs.Choice.{LeastFromOne, declared_box}
use Rattle.model_logic.specs.Boxes.{box_by}
use Rattle.model_timing.specs.BlockLaws.{no_step}
use Rattle.run_signal.specs.Terns.{tern_signal}
use Rattle.run_step.specs.LaneBox.{ends_in, own_ends, own_span, ends_at, lane_box}
use Rattle.run_step.specs.Runs.{AreDelayed}
use Rattle.judge_verdict.specs.verdict.Spans.{declared_span, declared_spans}

-- the interval of a parameter is in order
pub interval_at : (line : Line) (params : List Param) → params ≡ line.params.items
    → (i : ℕ) (p : Param) → i < length params → p ≡ get_or params i p
    → (p.least ≤ p.greatest) × (p.greatest ≤ 4000)
interval_at line params same i p lt is =
    let below : i < length (leasts params) =
    omega (arith, length-map params (λ (x : Param). x.least)) in
    let least : get_or (leasts params) i 0 ≡ p.least =
    get_or-map (λ (x : Param). x.least) params i p 0 lt ∙ ap (λ (x : Param). x.least) (sym is) in
    let greatest : get_or (greatests params) i 0 ≡ p.greatest =
    get_or-map (λ (x : Param). x.greatest) params i p 0 lt
    ∙ ap (λ (x : Param). x.greatest) (sym is) in
    let declared : IsInterval (leasts params) (greatests params) i =
    subst (λ (ps : List Param). i < length (leasts ps) → IsInterval (leasts ps) (greatests ps) i)
    (sym same) (line.ends_in_range i) below in
    (omega (arith, declared.0), omega (arith, declared.1))

-- the span at a place is the declared interval, and where there is none, that is 0
span_at : (params : List Param) (lane i : ℕ)
    → ends_in own_span lane (slice_get (map declared_span params) i)
    ≡ ends_of (get_or (leasts params) i 0) (get_or (greatests params) i 0)
span_at params lane i =
    ap (ends_in own_span lane) (slice_get-map declared_span params i)
    ∙ ⊎_elim
    (λ (p, lt, at, is).
    ap (λ (o : Option Param). ends_in own_span lane (option_map declared_span o)) at
    ∙ ap (λ (n : ℕ). ends_of n p.greatest)
    (sym (get_or-map (λ (x : Param). x.least) params i p 0 lt ∙ ap (λ (x : Param). x.least) is))
    ∙ ap (λ (n : ℕ). ends_of (get_or (leasts params) i 0) n)
    (sym (get_or-map (λ (x : Param). x.greatest) params i p 0 lt
    ∙ ap (λ (x : Param). x.greatest) is)))
    (λ (past, none).
    ap (λ (o : Option Param). ends_in own_span lane (option_map declared_span o)) none
    ∙ ap (λ (n : ℕ). ends_of n 0)
    (sym (get_or_past (leasts params) i 0
    (omega (arith, past, length-map params (λ (x : Param). x.least)))))
    ∙ ap (λ (n : ℕ). ends_of (get_or (leasts params) i 0) n)
    (sym (get_or_past (greatests params) i 0
    (omega (arith, past, length-map params (λ (x : Param). x.greatest))))))
    (slice_get_cases params i).1

pub spans_make_the_box : (line : Line) (lane : ℕ)
    → lane_box own_span line (declared_spans line) [] lane ≡ declared_box line
unfolding lane_box declared_box
spans_make_the_box line lane =
    let spans : List Ends = declared_spans line in
    let ends : own_ends own_span lane spans ≡ declared_ends line =
    fun_ext (span_at line.params.items lane) in
    let delays : (λ (c t : ℕ). ends_at own_span lane spans [] (delay_param line c) t)
    ≡ (λ (c t : ℕ). declared_ends line (delay_param line c)) =
    fun_ext (λ c. fun_ext (λ t.
    ap (ends_in own_span lane)
    (no_step (delay_param line c) t (slice_get spans (delay_param line c)))
    ∙ span_at line.params.items lane (delay_param line c))) in
    ap (λ (f : ℕ → Ends).
    box_by f (λ (c t : ℕ). ends_at own_span lane spans [] (delay_param line c) t)) ends
    ∙ ap (box_by (declared_ends line)) delays

-- so do spans that are these, and each delay of their box is at least 1
module _ (line : Line) (spans : List Ends) (same : spans ≡ declared_spans line) where
  pub box_declared : (lane : ℕ) → lane_box own_span line spans [] lane ≡ declared_box line
  box_declared lane =
      ap (λ (xs : List Ends). lane_box own_span line xs [] lane) same ∙ spans_make_the_box line lane

  pub spans_delayed : LeastFromOne line (declared_box line) → AreDelayed tern_signal line spans []
  spans_delayed d lane below = subst (LeastFromOne line) (sym (box_declared lane)) d
