-- Something that is so at a tick is seen in some bar of a row, and what is seen there is so.
use Rattle.std.proofs.Common.{◌≡◌, ◌⊎◌, ◌<◌, ◌≤◌, ◌++◌, ℕ, zero, suc, Bool, true, false, List, []}
use Rattle.std.proofs.Common.{◌∷◌, refl, arith, inl, inr, if◌then◌else◌}
use Rattle.std.specs.List.{Any, flat_map}
use Rattle.model_history.specs.Rails.{Rails}
use Rattle.run_signal.specs.{Terns.tern_rails, declared.tern.Tern.Tern}
use Rattle.draw_run.specs.{diagram.Stretches.AreStretches, diagram.Stretches.IsStretch}
use Rattle.draw_run.specs.declared.diagram.stretch.Stretch.{Stretch}
use Rattle.draw_shapes.specs.Seen.{SeenFigure}
use Rattle.draw_run.specs.diagram.Drawn.{is_off}
use Rattle.draw_run.proofs.layout_lemmas.Anys.{any_cases, any_here, any_later, any_none}

before_or_not : (t n : ℕ) → (t < n) ⊎ (n ≤ t)
before_or_not t zero = inr (omega arith)
before_or_not zero (suc n) = inl (omega arith)
before_or_not (suc t) (suc n) = elim (before_or_not t n) [
  | inl less ↦ inl (omega (arith, less))
  | inr le ↦ inr (omega (arith, le))
]

module _ (pair : ℕ → Rails) (t : ℕ) (draw : Stretch → SeenFigure) (Sees : SeenFigure → Type 0)
    (Tells : Tern → Type 0) where
  abbrev pub each : Stretch → List SeenFigure
  each s = if is_off s.value then [] else draw s ∷ []

  -- behind what a stretch has, what the others have
  later : (s : Stretch) (figures : List SeenFigure) → Any Sees figures → Any Sees (each s ++ figures)
  later s figures a = by_value (is_off s.value)
    where
      by_value : (off : Bool) → Any Sees ((if off then [] else draw s ∷ []) ++ figures)
      by_value true = a
      by_value false = any_later Sees (draw s) figures a

  here : (s : Stretch) (figures : List SeenFigure) → is_off s.value ≡ false → Sees (draw s)
      → Any Sees (each s ++ figures)
  here s figures on sees = rw on (any_here Sees (draw s) figures sees)

  cases : (s : Stretch) (figures : List SeenFigure) → Any Sees (each s ++ figures)
      → ((is_off s.value ≡ false) × Sees (draw s)) ⊎ Any Sees figures
  cases s figures a = by_value (is_off s.value) refl a
    where
      by_value : (off : Bool) → is_off s.value ≡ off
          → Any Sees ((if off then [] else draw s ∷ []) ++ figures)
          → ((is_off s.value ≡ false) × Sees (draw s)) ⊎ Any Sees figures
      by_value true is a = inr a
      by_value false is a = elim (any_cases Sees (draw s) figures a) [
        | inl sees ↦ inl (is, sees)
        | inr more ↦ inr more
      ]

  -- what is so at tick t is seen in some bar
  module _ (on : (v : Tern) → Tells v → is_off v ≡ false)
      (sees : (s : Stretch) → IsStretch pair s → s.from ≤ t → t < s.to → Tells s.value
      → Sees (draw s))
      (tells : (v : Tern) → pair t ≡ tern_rails v → Tells v) where
    pub seen : (from to : ℕ) (stretches : List Stretch) → AreStretches pair from stretches to
        → from ≤ t → t < to → Any Sees (flat_map each stretches)
    seen from to [] are le less = absurd (let is : from ≡ to = are in omega arith)
    seen from to (s ∷ rest) are le less =
        elim (before_or_not t s.to) [
          | inl within ↦ by_stretch within
          | inr past ↦ later s (flat_map each rest) (seen s.to to rest are.2 past less)
        ]
      where
        by_stretch : t < s.to → Any Sees (flat_map each (s ∷ rest))
        by_stretch within =
            let begun : s.from ≤ t = rw are.1 le in
            let tell = tells s.value (are.0.same t begun within) in
            here s (flat_map each rest) (on s.value tell) (sees s are.0 begun within tell)

  -- what is seen in some bar is so at tick t
  module _ (told : (s : Stretch) → IsStretch pair s → is_off s.value ≡ false → Sees (draw s)
      → (v : Tern) × (pair t ≡ tern_rails v) × Tells v) where
    pub is_told : (from to : ℕ) (stretches : List Stretch) → AreStretches pair from stretches to
        → Any Sees (flat_map each stretches) → (v : Tern) × (pair t ≡ tern_rails v) × Tells v
    is_told from to [] are a = absurd (any_none Sees a)
    is_told from to (s ∷ rest) are a = elim (cases s (flat_map each rest) a) [
      | inl one ↦ told s are.0 one.0 one.1
      | inr more ↦ is_told s.to to rest are.2 more
    ]
