-- What is settled of a record is one thing.
use Rattle.std.proofs.Common.{◌≡◌, ℕ, Bool, true, false, refl, sym, ◌∙◌, ap, subst}
use Rattle.model_history.specs.BelowLaws.{neither_below}
use Rattle.run_signal.specs.declared.tern.Tern.{Tern}
use Rattle.run_signal.specs.TernLaws.{tern_once}
use Rattle.model_line.specs.{declared.line.Line.Line, declared.script.Script.Script}
use Rattle.model_timing.specs.Candidates.{candidate}
use Rattle.run_waves.specs.derived.FirstLaws.{first_failing_once}
use Rattle.judge_match.specs.declared.matching.seen.Match.TheVariants.{Explained, Impossible, Unsettled}
use Rattle.judge_match.specs.matching.Clash.{AllAllowed, IsAllowed, IsFirstClash, IsSignalAllowed}
use Rattle.judge_match.specs.matching.Clash.{IsTerminalAllowed, IsTerminalClash}
use Rattle.judge_match.specs.{declared.matching.seen.Seen.Seen, declared.matching.seen.Match.Match, matching.Match.IsMatch}

module _ (line : Line) (script : Script) (seen : Seen) where
  signal_of : (k : ℕ) (trip : Bool) → IsTerminalAllowed line script seen k
      → IsSignalAllowed line script seen trip k
  signal_of k false all = all.key
  signal_of k true all = all.trip

  -- a terminal that is allowed has no clash
  not_allowed : (k t : ℕ) (trip level : Bool) (derived : Tern)
      → IsTerminalAllowed line script seen k
      → IsTerminalClash line script seen k trip t level derived → ⊥
  not_allowed k t trip level derived all clash =
      clash.tick.fails (signal_of k trip all t clash.tick.inside)

  allowed_not : (k t : ℕ) (trip level : Bool) (derived : Tern) → AllAllowed line script seen
      → IsFirstClash line script seen k trip t level derived → ⊥
  allowed_not k t trip level derived all first =
      not_allowed k t trip level derived (all.each k first.terminal) first.clash

  -- a clash of the key is no clash of the trip
  trips_same : (k t s : ℕ) (a b level other : Bool) (x y : Tern)
      → IsTerminalClash line script seen k a t level x
      → IsTerminalClash line script seen k b s other y → a ≡ b
  trips_same k t s false false level other x y p q = refl
  trips_same k t s false true level other x y p q =
      absurd (p.tick.fails (q.key_first refl t p.tick.inside))
  trips_same k t s true false level other x y p q =
      absurd (q.tick.fails (p.key_first refl s q.tick.inside))
  trips_same k t s true true level other x y p q = refl

  impossible_by : (j k : ℕ) (a b : Bool) (t s : ℕ) (level other : Bool) (x y : Tern) → j ≡ k
      → a ≡ b → t ≡ s → level ≡ other → x ≡ y
      → Impossible j a t level x ≡ Impossible k b s other y
  impossible_by j k a b t s level other x y e f g h i =
      ap (λ (n : ℕ). Impossible n a t level x) e ∙ ap (λ (v : Bool). Impossible k v t level x) f
      ∙ ap (λ (n : ℕ). Impossible k b n level x) g ∙ ap (λ (v : Bool). Impossible k b s v x) h
      ∙ ap (λ (v : Tern). Impossible k b s other v) i

  clash_once : (k : ℕ) (a b : Bool) (t s : ℕ) (level other : Bool) (x y : Tern)
      → IsTerminalClash line script seen k a t level x
      → IsTerminalClash line script seen k b s other y
      → Impossible k a t level x ≡ Impossible k b s other y
  clash_once k a b t s level other x y p q =
      let same : a ≡ b = trips_same k t s a b level other x y p q in
      let there : IsTerminalClash line script seen k b t level x =
      subst (λ (v : Bool). IsTerminalClash line script seen k v t level x) same p in
      let ticks : t ≡ s =
      first_failing_once (IsAllowed line script seen b k) line.horizon t s there.tick q.tick in
      let here : IsTerminalClash line script seen k b s level x =
      subst (λ (n : ℕ). IsTerminalClash line script seen k b n level x) ticks there in
      impossible_by k k a b t s level other x y refl same ticks
      (here.seen_is ∙ sym q.seen_is) (tern_once x y (here.derived_is ∙ sym q.derived_is))

  first_clash_once : (j k : ℕ) (a b : Bool) (t s : ℕ) (level other : Bool) (x y : Tern)
      → IsFirstClash line script seen j a t level x
      → IsFirstClash line script seen k b s other y
      → Impossible j a t level x ≡ Impossible k b s other y
  first_clash_once j k a b t s level other x y p q =
      let same : j ≡ k =
      neither_below j k (λ lt. not_allowed j t a level x (q.before j lt) p.clash)
      (λ lt. not_allowed k s b other y (p.before k lt) q.clash) in
      ap (λ (n : ℕ). Impossible n a t level x) same
      ∙ clash_once k a b t s level other x y
      (subst (λ (n : ℕ). IsTerminalClash line script seen n a t level x) same p.clash) q.clash

  pub one_match : (a b : Match) → IsMatch line script seen a → IsMatch line script seen b → a ≡ b
  one_match (Explained timing) (Explained other) p q =
      let same : p.number ≡ q.number =
      neither_below p.number q.number (λ lt. q.first.differs p.number lt p.gives)
      (λ lt. p.first.differs q.number lt q.gives) in
      ap Explained (p.is ∙ ap (candidate line) same ∙ sym q.is)
  one_match (Explained timing) (Impossible k trip t level derived) p q =
      absurd (allowed_not k t trip level derived p.allowed q)
  one_match (Explained timing) Unsettled p q =
      absurd (q.none.differs p.number p.exists p.gives)
  one_match (Impossible k trip t level derived) (Explained timing) p q =
      absurd (allowed_not k t trip level derived q.allowed p)
  one_match (Impossible j a t level x) (Impossible k b s other y) p q =
      first_clash_once j k a b t s level other x y p q
  one_match (Impossible k trip t level derived) Unsettled p q =
      absurd (allowed_not k t trip level derived q.allowed p)
  one_match Unsettled (Explained timing) p q =
      absurd (p.none.differs q.number q.exists q.gives)
  one_match Unsettled (Impossible k trip t level derived) p q =
      absurd (allowed_not k t trip level derived p.allowed q)
  one_match Unsettled Unsettled p q = refl
