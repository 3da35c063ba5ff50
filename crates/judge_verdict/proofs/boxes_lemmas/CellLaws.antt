-- The cells of both rails.
use Rattle.std.proofs.Common.{◌≡◌, ◌<◌, ◌+◌, ℕ, suc, Bool, List, [], ◌∷◌, ◌++◌, length, min}
use Rattle.std.proofs.Common.{replicate, refl, sym, ◌∙◌, ap, subst}
use Rattle.std.proofs.lemmas.List.{length-map}
use Rattle.std.specs.Prelude.{slice_index}
use Rattle.model_history.specs.Rails.{Rails, both, single, must_of, may_of, rails_at, rails_timed}
use Rattle.model_history.specs.{Laws.HistoryLaws, Elements.timed}
use Rattle.run_signal.specs.Bits.{bit_on, bit_rails}
use Rattle.run_signal.specs.{Ahead.next_rails, Ahead.IsSteadyFor, Vectors.CellVectors}
use Rattle.run_signal.specs.SoundLaws.{sound_more}
use Rattle.judge_verdict.specs.declared.boxes.terns.Terns64.{Terns64}
use Rattle.judge_verdict.specs.boxes.Cells.{one_rail, StandForKnown, StandFor}
use Rattle.judge_verdict.specs.{boxes.Spans.SpanLists, boxes.Spans.span_ends, boxes.Terns.terns_rails}
use Rattle.judge_verdict.specs.boxes.TernLaws.{terns_sound}
use Rattle.judge_verdict.proofs.boxes_lemmas.RailLaws.{rail-more, by_rails, lesser_steady, next_rail}
use Rattle.judge_verdict.proofs.boxes_lemmas.RailLaws.{must_reads, may_reads}

-- the cells of a value that is known took so many more ticks with this input
abbrev pub TookMore : CellVectors → CellVectors → ℕ → ℕ → Type 0
TookMore before after input count =
    (pickup dropout : List ℕ) (lane : ℕ) (inputs : List Rails) → lane < 64
    → StandForKnown before (slice_index pickup lane) (slice_index dropout lane) lane inputs
    → StandForKnown after (slice_index pickup lane) (slice_index dropout lane) lane
    (inputs ++ replicate count (bit_rails input lane))

module _ (must may must' may' : CellVectors) (pickup dropout : SpanLists) (lane : ℕ)
    (inputs : List Rails) (input : Terns64) (possible count : ℕ) (inside : lane < 64) where
  pub stand_more : TookMore must must' input.must count → TookMore may may' possible count
      → bit_on possible lane ≡ (terns_rails input lane).may
      → StandFor must may pickup dropout lane inputs
      → StandFor must' may' pickup dropout lane (inputs ++ replicate count (terns_rails input lane))
  stand_more took_must took_may is h =
      let x : Rails = terns_rails input lane in
      record {
        must_stands = subst
            (λ (l : List Rails). StandForKnown must' (slice_index pickup.greatest lane)
            (slice_index dropout.least lane) lane l)
            (rail-more must_of inputs count x)
            (took_must pickup.greatest dropout.least lane (one_rail must_of inputs) inside
            h.must_stands);
        may_stands = subst
            (λ (l : List Rails). StandForKnown may' (slice_index pickup.least lane)
            (slice_index dropout.greatest lane) lane l)
            (ap (λ (v : Bool). one_rail may_of inputs ++ replicate count (both v)) is
            ∙ rail-more may_of inputs count x)
            (took_may pickup.least dropout.greatest lane (one_rail may_of inputs) inside
            h.may_stands);
        pickup_ordered = h.pickup_ordered;
        dropout_ordered = h.dropout_ordered;
        sound = sound_more inputs x count h.sound (terns_sound input lane);
      }

-- the cells of a value that is known answer the element
abbrev pub Answers : CellVectors → ℕ → ℕ → Type 0
Answers before input answer =
    (pickup dropout : List ℕ) (lane : ℕ) (inputs : List Rails) → lane < 64
    → StandForKnown before (slice_index pickup lane) (slice_index dropout lane) lane inputs
    → bit_rails answer lane
    ≡ rails_timed (rails_at (inputs ++ bit_rails input lane ∷ [])) (single (slice_index pickup lane))
    (single (slice_index dropout lane)) (length inputs)

-- the element over the rail of a list, with one tick more
one_more : (rail : Rails → Bool) (inputs : List Rails) (x : Rails) (v : Bool) (p d : ℕ) (answer : Rails)
    → v ≡ rail x
    → answer ≡ rails_timed (rails_at (one_rail rail inputs ++ both v ∷ [])) (single p) (single d)
    (length (one_rail rail inputs))
    → answer ≡ rails_timed (rails_at (one_rail rail (inputs ++ x ∷ []))) (single p) (single d)
    (length inputs)
one_more rail inputs x v p d answer is told =
    told
    ∙ ap (λ (w : Bool). rails_timed (rails_at (one_rail rail inputs ++ both w ∷ [])) (single p)
    (single d) (length (one_rail rail inputs))) is
    ∙ ap (λ (l : List Rails). rails_timed (rails_at l) (single p) (single d)
    (length (one_rail rail inputs))) (rail-more rail inputs 1 x)
    ∙ ap (λ (n : ℕ). rails_timed (rails_at (one_rail rail (inputs ++ x ∷ []))) (single p) (single d)
    n) (length-map inputs (λ y. both (rail y)))

pub answer_of : HistoryLaws → (must may : CellVectors) (pickup dropout : SpanLists) (lane : ℕ)
    (inputs : List Rails) (input : Terns64) (possible a b : ℕ) → lane < 64
    → Answers must input.must a → Answers may possible b
    → bit_on possible lane ≡ (terns_rails input lane).may
    → StandFor must may pickup dropout lane inputs
    → terns_rails (record { must = a; may = b }) lane
    ≡ rails_timed (rails_at (inputs ++ terns_rails input lane ∷ [])) (span_ends pickup lane)
    (span_ends dropout lane) (length inputs)
answer_of laws must may pickup dropout lane inputs input possible a b inside answers_must answers_may
    is h =
    let x : Rails = terns_rails input lane in
    by_rails laws (inputs ++ x ∷ []) (span_ends pickup lane) (span_ends dropout lane) (length inputs)
    (bit_on a lane) (bit_on b lane)
    (one_more must_of inputs x (bit_on input.must lane) (slice_index pickup.greatest lane)
    (slice_index dropout.least lane) (bit_rails a lane) refl
    (answers_must pickup.greatest dropout.least lane (one_rail must_of inputs) inside h.must_stands))
    (one_more may_of inputs x (bit_on possible lane) (slice_index pickup.least lane)
    (slice_index dropout.greatest lane) (bit_rails b lane) is
    (answers_may pickup.least dropout.greatest lane (one_rail may_of inputs) inside h.may_stands))
    (sound_more inputs x 1 h.sound (terns_sound input lane)) h.pickup_ordered h.dropout_ordered

-- the cells of values that are known are steady for so many ticks with this input
abbrev pub AreSteady : CellVectors → ℕ → ℕ → Type 0
AreSteady cells input count =
    (pickup dropout : List ℕ) (inputs : ℕ → List Rails)
    → ((lane : ℕ) → lane < 64
    → StandForKnown cells (slice_index pickup lane) (slice_index dropout lane) lane (inputs lane))
    → IsSteadyFor 64
    (λ lane k. next_rails (single (slice_index pickup lane)) (single (slice_index dropout lane))
    (inputs lane) (bit_rails input lane) k)
    count

pub steady_of_both : HistoryLaws → (must may : CellVectors) (pickup dropout : SpanLists)
    (inputs : ℕ → List Rails) (input : Terns64) (possible a b n : ℕ)
    → AreSteady must input.must a → AreSteady may possible b
    → ((lane : ℕ) → lane < 64 → bit_on possible lane ≡ (terns_rails input lane).may)
    → n ≡ min a b
    → ((lane : ℕ) → lane < 64 → StandFor must may pickup dropout lane (inputs lane))
    → IsSteadyFor 64
    (λ lane k. next_rails (span_ends pickup lane) (span_ends dropout lane) (inputs lane)
    (terns_rails input lane) k)
    n
steady_of_both laws must may pickup dropout inputs input possible a b n steady_must steady_may is e
    stands =
    let x : ℕ → Rails = λ lane. terns_rails input lane in
    let f : ℕ → ℕ → Rails = λ lane k. next_rails (single (slice_index pickup.greatest lane))
    (single (slice_index dropout.least lane)) (one_rail must_of (inputs lane))
    (bit_rails input.must lane) k in
    let g : ℕ → ℕ → Rails = λ lane k. next_rails (single (slice_index pickup.least lane))
    (single (slice_index dropout.greatest lane)) (one_rail may_of (inputs lane))
    (bit_rails possible lane) k in
    let ef : (lane k : ℕ) → lane < 64 → f lane k
    ≡ both (timed (λ r. must_of (rails_at (inputs lane ++ replicate (suc k) (x lane)) r))
    (slice_index pickup.greatest lane) (slice_index dropout.least lane) (length (inputs lane) + k)) =
    λ lane k inside. next_rail laws must_of must_reads (inputs lane) (x lane)
    (slice_index pickup.greatest lane) (slice_index dropout.least lane) k in
    let eg : (lane k : ℕ) → lane < 64 → g lane k
    ≡ both (timed (λ r. may_of (rails_at (inputs lane ++ replicate (suc k) (x lane)) r))
    (slice_index pickup.least lane) (slice_index dropout.greatest lane) (length (inputs lane) + k)) =
    λ lane k inside.
    ap (λ (v : Bool). next_rails (single (slice_index pickup.least lane))
    (single (slice_index dropout.greatest lane)) (one_rail may_of (inputs lane)) (both v) k)
    (is lane inside)
    ∙ next_rail laws may_of may_reads (inputs lane) (x lane)
    (slice_index pickup.least lane) (slice_index dropout.greatest lane) k in
    lesser_steady 64 f g
    (λ lane k. next_rails (span_ends pickup lane) (span_ends dropout lane) (inputs lane) (x lane) k)
    (λ lane k inside. ef lane k inside ∙ ap both (sym (ap must_of (ef lane k inside))))
    (λ lane k inside. eg lane k inside ∙ ap both (sym (ap must_of (eg lane k inside))))
    (λ lane k inside.
    ap (λ (v : Bool). record {
      must = v;
      may = timed (λ r. (rails_at (inputs lane ++ replicate (suc k) (x lane)) r).may)
          (slice_index pickup.least lane) (slice_index dropout.greatest lane)
          (length (inputs lane) + k);
    }) (sym (ap must_of (ef lane k inside)))
    ∙ ap (λ (v : Bool). record { must = (f lane k).must; may = v })
    (sym (ap must_of (eg lane k inside))))
    n a b e
    (steady_must pickup.greatest dropout.least (λ lane. one_rail must_of (inputs lane))
    (λ lane inside. (stands lane inside).must_stands))
    (steady_may pickup.least dropout.greatest (λ lane. one_rail may_of (inputs lane))
    (λ lane inside. (stands lane inside).may_stands))
